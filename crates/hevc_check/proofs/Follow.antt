-- What is kept of the pictures of a sequence tells what the next one breaks.
use Rattle.std.proofs.Common.{◌≡◌, ℕ, ℤ, zero, suc, ◌-◌, ◌+◌, ◌<◌, ◌≤◌, ◌≤ℤ◌, ◌<ℤ◌, Bool, true}
use Rattle.std.proofs.Common.{false, not, cond, ◌&&◌, ◌||◌, List, [], ◌∷◌, ◌++◌, length, get_or}
use Rattle.std.proofs.Common.{refl, sym, ap, ◌∙◌, subst, arith, Option, Some, None, if◌then◌else◌}
use Rattle.std.specs.Prelude.{min, nat_lt, nat_le, int_lt, count_by, filter, slice_set, ◌==◌}
use Rattle.std.specs.Ordering.{int_cmp, int_eq, is_eq}
use Rattle.std.specs.declared.cmp.Ordering.TheVariants.{Less, Equal, Greater}
use Rattle.std.specs.List.{list_any}
use Rattle.std.specs.BTreeSet.{contains}
use Rattle.std.proofs.lemmas.List.Sums.{sum_by-cons}
use Rattle.std.proofs.lemmas.Bool.Decides.{nat_tests}
use Rattle.std.proofs.lemmas.Int.{ints}
use Rattle.hevc_walk.specs.Meanings.{Format}
use Rattle.hevc_walk.specs.Pictures.{Head, Picture}
use Rattle.hevc_walk_order.specs.Sequences.{begins, earliest, is_for_output}
use Rattle.hevc_walk_order.specs.DisplayOrder.{entries_before, latency_pictures}
use Rattle.hevc_pictures.specs.declared.limits.Limits.{Limits}
use Rattle.hevc_pictures.specs.Limits.{limits_of}
use Rattle.hevc_backend.specs.Negotiation.{format_of}
use Rattle.hevc_driver.specs.declared.head.Head.{Head as CodeHead}
use Rattle.hevc_driver.specs.Heads.{head_of}
use Rattle.hevc_check_laws.specs.Breaches as laws
use Rattle.hevc_check_laws.specs.Breaches.{Breach, Changed, Latency, SameCount, Full, Discards}
use Rattle.hevc_check_laws.specs.Breaches.{Reorder, latest_sequence, earlier_in}
use Rattle.hevc_check.specs.declared.begun.Begun.{Begun}
use Rattle.hevc_check.specs.declared.sequence.Sequence.{Sequence}
use Rattle.hevc_check_laws.specs.Orders.{is_full_for, was_full_up_to}
use Rattle.hevc_check.specs.declared.table.Table.{Table}
use Rattle.hevc_check.specs.declared.table.Table.TheVariants.{Bounds, Order}
use Rattle.hevc_check.specs.declared.late.HighestCounts.{HighestCounts}
use Rattle.hevc_check.specs.Filled.{is_up_to}
use Rattle.hevc_check.specs.Late.{AreHighest, Fall, late_by}
use Rattle.hevc_check.specs.Tables.{breaks_by, is_counted}
use Rattle.hevc_check.proofs.Lateness.{late-is, late-cons, late_at}
use Rattle.hevc_check.specs.Sequences.{Follows, FollowsLatest, AreFilled, KeepsHighest, TellsNext}
use Rattle.hevc_check.specs.Sequences.{first_or, above, has_count, output_above}

-- ---- the first breach

abbrev chain : (a b c d e f : Bool) → Option Breach
chain a b c d e f =
    if a then Some Changed else if b then Some Latency else if c then Some SameCount else if d then Some Full else if e
    then Some Discards else if f then Some Reorder else None

pub first : (a b c d e f : Bool) → a ≡ true → Some Changed ≡ chain a b c d e f
first a b c d e f ha = rw ha refl

pub second : (a b c d e f : Bool) → a ≡ false → b ≡ true → Some Latency ≡ chain a b c d e f
second a b c d e f ha hb = rw (ha, hb) refl

pub third : (a b c d e f : Bool) → a ≡ false → b ≡ false → c ≡ true → Some SameCount ≡ chain a b c d e f
third a b c d e f ha hb hc = rw (ha, hb, hc) refl

pub fourth : (a b c d e f : Bool) → a ≡ false → b ≡ false → c ≡ false → d ≡ true → Some Full ≡ chain a b c d e f
fourth a b c d e f ha hb hc hd = rw (ha, hb, hc, hd) refl

pub fifth : (a b c d e f : Bool) → a ≡ false → b ≡ false → c ≡ false → d ≡ false → e ≡ true
    → Some Discards ≡ chain a b c d e f
fifth a b c d e f ha hb hc hd he = rw (ha, hb, hc, hd, he) refl

pub sixth : (a b c d e f : Bool) → a ≡ false → b ≡ false → c ≡ false → d ≡ false → e ≡ false → f ≡ true
    → Some Reorder ≡ chain a b c d e f
sixth a b c d e f ha hb hc hd he hf = rw (ha, hb, hc, hd, he, hf) refl

pub none_of : (a b c d e f : Bool) → a ≡ false → b ≡ false → c ≡ false → d ≡ false → e ≡ false → f ≡ false
    → None ≡ chain a b c d e f
none_of a b c d e f ha hb hc hd he hf = rw (ha, hb, hc, hd, he, hf) refl

-- ---- what a table says

pub changed_by : (t : Table) (set : Option (ℕ × Format)) (p : Picture) (before : List Picture)
    → laws.is_changed p before ≡ breaks_by t set p before Changed
changed_by Bounds set p before = refl
changed_by Order set p before = refl

pub discards_by : (t : Table) (set : Option (ℕ × Format)) (p : Picture) (before : List Picture)
    → laws.discards p ≡ breaks_by t set p before Discards
discards_by Bounds set p before = refl
discards_by Order set p before = refl

pub reordered_by : (t : Table) (set : Option (ℕ × Format)) (p : Picture) (before : List Picture)
    → (is_for_output p && nat_lt p.limits.max_num_reorder_pics (output_above p.order_count (earlier_in p before)))
    ≡ breaks_by t set p before Reorder
unfolding output_above
reordered_by Bounds set p before = refl
reordered_by Order set p before = refl

pub latency_bounds : (t : Table) (set : Option (ℕ × Format)) (p : Picture) (before : List Picture) → t ≡ Bounds
    → not (p.limits.max_latency_increase_plus1 == 0) ≡ breaks_by t set p before Latency
latency_bounds t set p before is = ap (λ (x : Table). breaks_by x set p before Latency) (sym is)

-- the numbers of the earlier ones of a sequence fall
fall_unless : (n : ℕ) (b : Bool) (es : List Picture) → Fall n es → Fall n (if b then [] else es)
fall_unless n true es h = tt
fall_unless n false es h = h

fall_latest : (n : ℕ) (ps : List Picture) → Fall n ps → Fall n (latest_sequence ps)
fall_latest n [] h = tt
fall_latest n (p ∷ before) h =
    (h.0, fall_unless p.number (begins p before) (latest_sequence before) (fall_latest p.number before h.1))

pub latency_order : (t : Table) (set : Option (ℕ × Format)) (p : Picture) (before : List Picture) → t ≡ Order
    → Fall p.number before
    → (is_for_output p && nat_lt 0 p.limits.max_latency_increase_plus1
    && late_by p.order_count (latency_pictures p.limits) (earlier_in p before)) ≡ breaks_by t set p before Latency
latency_order t set p before is fall =
    ap (λ (b : Bool). is_for_output p && nat_lt 0 p.limits.max_latency_increase_plus1 && b)
    (sym (late-is p.order_count (latency_pictures p.limits) p.number (earlier_in p before)
    (fall_unless p.number (begins p before) (latest_sequence before) (fall_latest p.number before fall))))
    ∙ ap (λ (x : Table). breaks_by x set p before Latency) (sym is)

filter_all : (es : List Picture) → filter (is_counted Bounds) es ≡ es
filter_all [] = refl
filter_all (p ∷ es) = ap (λ (l : List Picture). p ∷ l) (filter_all es)

pub counts_by : (t : Table) (set : Option (ℕ × Format)) (p : Picture) (before : List Picture)
    → (is_counted t p && has_count p.order_count (filter (is_counted t) (earlier_in p before)))
    ≡ breaks_by t set p before SameCount
unfolding has_count
counts_by Bounds set p before =
    ap (λ (l : List Picture). list_any (λ q. int_eq p.order_count q.order_count) l) (filter_all (earlier_in p before))
counts_by Order set p before = refl

pub full_order : (t : Table) (set : Option (ℕ × Format)) (p : Picture) (before : List Picture) (full : Bool)
    → t ≡ Order → full ≡ was_full_up_to set p.order_count (p ∷ before)
    → (is_for_output p && full) ≡ breaks_by t set p before Full
full_order t set p before full is same =
    ap (λ (b : Bool). is_for_output p && b) same ∙ ap (λ (x : Table). breaks_by x set p before Full) (sym is)

-- whether the buffer is full
full_by : (s b : Bool) (m n k : ℕ) → (s ≡ false → n ≡ k)
    → (not s && not b && nat_le m n) ≡ (not s && not b && nat_le m k)
full_by true b m n k same = refl
full_by false b m n k same = ap (λ (x : ℕ). not b && nat_le m x) (same refl)

pub full_same : (set : Option (ℕ × Format)) (p : Picture) (before : List Picture) (b : Begun) → TellsNext set p before b
    → (not b.head.skipped && not b.begins_sequence && nat_le (b.head.limits.buffering + 1) b.stored.num)
    ≡ (not p.skipped && not (begins p before)
    && nat_le (p.limits.max_dec_pic_buffering_minus1 + 1) (length (entries_before set p before)))
full_same set p before b t =
    ap (λ (h : Head). not h.skipped && not b.begins_sequence
    && nat_le (h.limits.max_dec_pic_buffering_minus1 + 1) b.stored.num) t.head
    ∙ ap (λ (x : Bool). not p.skipped && not x && nat_le (p.limits.max_dec_pic_buffering_minus1 + 1) b.stored.num)
    t.begins
    ∙ full_by p.skipped (begins p before) (p.limits.max_dec_pic_buffering_minus1 + 1) b.stored.num
    (length (entries_before set p before)) t.stored

-- ---- how many are above a count

pub capped : (r x y : ℕ) → min (r + 1) x ≡ min (r + 1) y → nat_lt r x ≡ nat_lt r y
capped r x y h = grind (arith, nat_tests, h)

abbrev one_of : Bool → ℕ
one_of b = cond b 1 0

pub any_default : {X : Type 0} (xs : List X) (i : ℕ) (a b : X) → i < length xs → get_or xs i a ≡ get_or xs i b
any_default [] i a b l = absurd (omega (arith, l))
any_default (x ∷ xs) zero a b l = refl
any_default (x ∷ xs) (suc i) a b l = any_default xs i a b (omega (arith, l))

count_cons : {X : Type 0} (f : X → Bool) (x : X) (xs : List X) → count_by f (x ∷ xs) ≡ one_of (f x) + count_by f xs
count_cons f x xs = sum_by-cons (λ y. cond (f y) 1 0) x xs

count_set : (f : ℤ → Bool) (xs : List ℤ) (i : ℕ) (y d : ℤ) → i < length xs
    → count_by f (slice_set xs i y) + one_of (f (get_or xs i d)) ≡ count_by f xs + one_of (f y)
count_set f [] i y d l = absurd (omega (arith, l))
count_set f (x ∷ xs) zero y d l =
    let a : count_by f (slice_set (x ∷ xs) zero y) ≡ one_of (f y) + count_by f xs = count_cons f y xs in
    let b = count_cons f x xs in
    let g : one_of (f (get_or (x ∷ xs) zero d)) ≡ one_of (f x) = refl in
    omega (arith, a, b, g)
count_set f (x ∷ xs) (suc i) y d l =
    let more = count_set f xs i y d (omega (arith, l)) in
    let a : count_by f (slice_set (x ∷ xs) (suc i) y) ≡ one_of (f x) + count_by f (slice_set xs i y) =
    count_cons f x (slice_set xs i y) in
    let b = count_cons f x xs in
    let g : one_of (f (get_or (x ∷ xs) (suc i) d)) ≡ one_of (f (get_or xs i d)) = refl in
    omega (arith, more, a, b, g)

all_above : (c m : ℤ) (xs : List ℤ) → c <ℤ m → ((k : ℕ) (d : ℤ) → k < length xs → m ≤ℤ get_or xs k d)
    → count_by (λ b. int_lt c b) xs ≡ length xs
all_above c m [] l least = refl
all_above c m (x ∷ xs) l least =
    let here : m ≤ℤ x = least 0 x (omega arith) in
    let more = all_above c m xs l (λ k d j. least (suc k) d (omega (arith, j))) in
    let above : int_lt c x ≡ true = grind (arith, nat_tests, ints, here, l) in
    let one : one_of (int_lt c x) ≡ 1 = ap one_of above in
    let a = count_cons (λ b. int_lt c b) x xs in
    omega (arith, more, one, a)

count_append : {X : Type 0} (f : X → Bool) (xs : List X) (y : X)
    → count_by f (xs ++ y ∷ []) ≡ count_by f xs + one_of (f y)
count_append f [] y = count_cons f y [] ∙ omega arith
count_append f (x ∷ xs) y =
    let more = count_append f xs y in
    let a : count_by f ((x ∷ xs) ++ y ∷ []) ≡ one_of (f x) + count_by f (xs ++ y ∷ []) =
    count_cons f x (xs ++ y ∷ []) in
    let b = count_cons f x xs in
    omega (arith, more, a, b)

above_one : (c y : ℤ) → above c (y ∷ []) ≡ one_of (int_lt c y)
unfolding above
above_one c y = count_cons (λ b. int_lt c b) y [] ∙ omega arith

min_more : (k a n o : ℕ) → min k a ≡ min k n → min k (a + o) ≡ min k (o + n)
min_more k a n o same = grind (arith, same)

min_all : (k a n o : ℕ) → min k a ≡ min k n → k ≤ a → min k a ≡ min k (o + n)
min_all k a n o same most = grind (arith, same, most)

-- a count comes to those that are kept
pub pushed : (k n : ℕ) (c y : ℤ) (xs : List ℤ) → min k (above c xs) ≡ min k n
    → min k (above c (xs ++ y ∷ [])) ≡ min k (above c (y ∷ []) + n)
unfolding above
pushed k n c y xs same =
    ap (min k) (count_append (λ b. int_lt c b) xs y)
    ∙ min_more k (count_by (λ b. int_lt c b) xs) n (one_of (int_lt c y)) same
    ∙ ap (λ (o : ℕ). min k (o + n)) (sym (above_one c y))

-- the lowest gives way to it, where there are many
pub replaced : (k n : ℕ) (c x y : ℤ) (xs : List ℤ) (i : ℕ) → k ≤ length xs → i < length xs → x ≡ get_or xs i x
    → ((j : ℕ) (d : ℤ) → j < length xs → get_or xs i d ≤ℤ get_or xs j d) → x <ℤ y → min k (above c xs) ≡ min k n
    → min k (above c (slice_set xs i y)) ≡ min k (above c (y ∷ []) + n)
unfolding above
replaced k n c x y xs i many within is least less same =
    by (int_lt c x) refl ∙ ap (λ (o : ℕ). min k (o + n)) (sym (above_one c y))
  where
    f : ℤ → Bool
    f = λ b. int_lt c b

    sum : count_by f (slice_set xs i y) + one_of (int_lt c x) ≡ count_by f xs + one_of (int_lt c y)
    sum = ap (λ (z : ℤ). count_by f (slice_set xs i y) + one_of (int_lt c z)) is ∙ count_set f xs i y x within

    by : (b : Bool) → int_lt c x ≡ b → min k (count_by f (slice_set xs i y)) ≡ min k (one_of (int_lt c y) + n)
    by true e =
        let low : c <ℤ x = grind (arith, nat_tests, ints, e) in
        let high : int_lt c y ≡ true = grind (arith, nat_tests, ints, low, less) in
        let all : count_by f xs ≡ length xs =
        all_above c x xs low
        (λ j d l. subst (λ (z : ℤ). z ≤ℤ get_or xs j d) (any_default xs i d x within ∙ sym is) (least j d l)) in
        let one = ap one_of e in
        let other = ap one_of high in
        let same_sum : count_by f (slice_set xs i y) ≡ count_by f xs = omega (arith, sum, one, other) in
        ap (min k) same_sum ∙ min_all k (count_by f xs) n (one_of (int_lt c y)) same (omega (arith, all, many))
    by false e =
        let one = ap one_of e in
        let same_sum : count_by f (slice_set xs i y) ≡ count_by f xs + one_of (int_lt c y) = omega (arith, sum, one) in
        ap (min k) same_sum ∙ min_more k (count_by f xs) n (one_of (int_lt c y)) same

-- it is no higher than the lowest, where there are many
pub left_out : (k n : ℕ) (c x y : ℤ) (xs : List ℤ) (i : ℕ) → k ≤ length xs → i < length xs → x ≡ get_or xs i x
    → ((j : ℕ) (d : ℤ) → j < length xs → get_or xs i d ≤ℤ get_or xs j d) → y ≤ℤ x → min k (above c xs) ≡ min k n
    → min k (above c xs) ≡ min k (above c (y ∷ []) + n)
unfolding above
left_out k n c x y xs i many within is least less same =
    by (int_lt c y) refl ∙ ap (λ (o : ℕ). min k (o + n)) (sym (above_one c y))
  where
    f : ℤ → Bool
    f = λ b. int_lt c b

    by : (b : Bool) → int_lt c y ≡ b → min k (count_by f xs) ≡ min k (one_of (int_lt c y) + n)
    by true e =
        let low : c <ℤ x = grind (arith, nat_tests, ints, e, less) in
        let all : count_by f xs ≡ length xs =
        all_above c x xs low
        (λ j d l. subst (λ (z : ℤ). z ≤ℤ get_or xs j d) (any_default xs i d x within ∙ sym is) (least j d l)) in
        min_all k (count_by f xs) n (one_of (int_lt c y)) same (omega (arith, all, many))
    by false e = let one : one_of (int_lt c y) ≡ 0 = ap one_of e in same ∙ ap (min k) (omega (arith, one))

-- ---- one place more

pub lower_so_far : (xs : List ℤ) (place low next : ℕ)
    → ((k : ℕ) (d : ℤ) → k < place → get_or xs low d ≤ℤ get_or xs k d)
    → ((d : ℤ) → get_or xs next d ≤ℤ get_or xs low d) → ((d : ℤ) → get_or xs next d ≤ℤ get_or xs place d)
    → (k : ℕ) (d : ℤ) → k < place + 1 → get_or xs next d ≤ℤ get_or xs k d
lower_so_far xs place low next so_far one other k d l = by (nat_lt k place) refl
  where
    by : (b : Bool) → nat_lt k place ≡ b → get_or xs next d ≤ℤ get_or xs k d
    by true e =
        let below : k < place = grind (arith, nat_tests, e) in
        let a = so_far k d below in
        let b = one d in
        omega (arith, ints, a, b)
    by false e =
        let here : place ≡ k = grind (arith, nat_tests, e, l) in
        subst (λ (j : ℕ). get_or xs next d ≤ℤ get_or xs j d) here (other d)

-- ---- what the definitions say

pub full_bounds : (t : Table) (set : Option (ℕ × Format)) (p : Picture) (before : List Picture) (b : Begun)
    → t ≡ Bounds → TellsNext set p before b
    → (not b.head.skipped && not b.begins_sequence && nat_le (b.head.limits.buffering + 1) b.stored.num)
    ≡ breaks_by t set p before Full
full_bounds t set p before b is tells =
    full_same set p before b tells ∙ ap (λ (x : Table). breaks_by x set p before Full) (sym is)

-- ---- one picture more

earliest_any : (a b p : Picture) (es : List Picture) → first_or a (earliest (p ∷ es)) ≡ first_or b (earliest (p ∷ es))
earliest_any a b p [] = refl
earliest_any a b p (q ∷ es) = earliest_any a b q es

first_same : (p next : Picture) (es : List Picture) → first_or p (earliest es) ≡ first_or next (earliest (p ∷ es))
first_same p next [] = refl
first_same p next (q ∷ es) = earliest_any p next q es

eq_sym : (a b : ℤ) → is_eq (int_cmp a b) ≡ is_eq (int_cmp b a)
eq_sym a b = by (int_lt a b) (int_lt b a)
  where
    by : (x y : Bool) → is_eq (cond x Less (cond y Greater Equal)) ≡ is_eq (cond y Less (cond x Greater Equal))
    by true true = refl
    by true false = refl
    by false true = refl
    by false false = refl

or_is : (b x : Bool) → cond b true x ≡ b || x
or_is true x = refl
or_is false x = refl

count_more : (c k : ℤ) (p : Picture) (es : List Picture) (b : Bool) → k ≡ p.order_count → b ≡ has_count c es
    → cond (is_eq (int_cmp k c)) true b ≡ has_count c (p ∷ es)
unfolding has_count
count_more c k p es b same is =
    ap (λ (x : Bool). cond (is_eq (int_cmp k c)) true x) is
    ∙ or_is (is_eq (int_cmp k c)) (list_any (λ q. int_eq c q.order_count) es)
    ∙ ap (λ (x : Bool). x || list_any (λ q. int_eq c q.order_count) es)
    (eq_sym k c ∙ ap (λ (y : ℤ). int_eq c y) same)

pub output_more : (c : ℤ) (p : Picture) (es : List Picture) → is_for_output p ≡ true
    → output_above c (p ∷ es) ≡ above c (p.order_count ∷ []) + output_above c es
unfolding output_above
output_more c p es is =
    ap (λ (b : Bool). count_by (λ q. int_lt c q.order_count)
    (cond b (p ∷ filter is_for_output es) (filter is_for_output es))) is
    ∙ count_cons (λ q. int_lt c q.order_count) p (filter is_for_output es)
    ∙ ap (λ (o : ℕ). o + count_by (λ q. int_lt c q.order_count) (filter is_for_output es))
    (sym (above_one c p.order_count))

pub output_same : (c : ℤ) (p : Picture) (es : List Picture) → is_for_output p ≡ false
    → output_above c (p ∷ es) ≡ output_above c es
unfolding output_above
output_same c p es is =
    ap (λ (b : Bool). count_by (λ q. int_lt c q.order_count)
    (cond b (p ∷ filter is_for_output es) (filter is_for_output es))) is

-- one that is looked at has its count among theirs
pub counted_more : (t : Table) (c k : ℤ) (p : Picture) (es : List Picture) (b : Bool) → k ≡ p.order_count
    → is_counted t p ≡ true → b ≡ has_count c (filter (is_counted t) es)
    → cond (is_eq (int_cmp k c)) true b ≡ has_count c (filter (is_counted t) (p ∷ es))
counted_more t c k p es b same counted is =
    count_more c k p (filter (is_counted t) es) b same is
    ∙ ap (λ (x : Bool). has_count c (cond x (p ∷ filter (is_counted t) es) (filter (is_counted t) es)))
    (sym counted)

pub counted_same : (t : Table) (c : ℤ) (p : Picture) (es : List Picture) → is_counted t p ≡ false
    → has_count c (filter (is_counted t) es) ≡ has_count c (filter (is_counted t) (p ∷ es))
counted_same t c p es counted =
    ap (λ (x : Bool). has_count c (cond x (p ∷ filter (is_counted t) es) (filter (is_counted t) es))) (sym counted)

pub high_in : (q new : Sequence) (es : List Picture) → new.limits ≡ q.limits
    → ((c : ℤ)
    → min (q.limits.reorder + 1) (above c new.highest.items) ≡ min (q.limits.reorder + 1) (output_above c es))
    → KeepsHighest es new
high_in q new es limits highest c =
    subst (λ (l : Limits). min (l.reorder + 1) (above c new.highest.items) ≡ min (l.reorder + 1) (output_above c es))
    (sym limits) (highest c)

pub high_same : (q new : Sequence) (es : List Picture) → new.limits ≡ q.limits → new.highest.items ≡ q.highest.items
    → KeepsHighest es q → KeepsHighest es new
high_same q new es limits same highest =
    high_in q new es limits (λ c. ap (λ (l : List ℤ). min (q.limits.reorder + 1) (above c l)) same ∙ highest c)

pub highest_same : (es : List Picture) (h g : HighestCounts) → g ≡ h → AreHighest es h → AreHighest es g
highest_same es h g same is = subst (AreHighest es) (sym same) is

-- a skipped picture isn't decoded after others
pub skipped_late : (p : Picture) (es : List Picture) (h : HighestCounts) → p.skipped ≡ true → AreHighest es h
    → AreHighest (p ∷ es) h
skipped_late p es h skipped is c n =
    is c n ∙ ap (λ (b : Bool). if b then late_by c n es else late_at c n p (late_by c (n - 1) es)) (sym skipped)
    ∙ sym (late-cons c n p es)

pub follows_more : (p next : Picture) (es : List Picture) (q new : Sequence) → Follows p es q → new.table ≡ q.table
    → new.limits ≡ q.limits → new.format ≡ q.format
    → ((c : ℤ) → contains int_cmp new.counts c ≡ has_count c (filter (is_counted q.table) (p ∷ es)))
    → KeepsHighest (p ∷ es) new → AreHighest (p ∷ es) new.so_far → Follows next (p ∷ es) new
follows_more p next es q new f table limits format counts highest so_far = record {
  limits = ap limits_of limits ∙ f.limits ∙ ap (λ (x : Picture). x.limits) (first_same p next es);
  format = ap format_of format ∙ f.format ∙ ap (λ (x : Picture). x.format) (first_same p next es);
  counts = λ c. counts c ∙ ap (λ (t : Table). has_count c (filter (is_counted t) (p ∷ es))) (sym table);
  highest = highest;
  so_far = so_far;
}

-- ---- from picture to picture

pub follows_on : (p : Picture) (before : List Picture) (q : Sequence) → begins p before ≡ false
    → FollowsLatest before q → Follows p (earlier_in p before) q
follows_on p [] q isnt all = absurd (cc isnt)
follows_on p (r ∷ before) q isnt all =
    subst (λ (b : Bool). Follows p (if b then [] else latest_sequence (r ∷ before)) q) (sym isnt) (all p)

pub follows_first : (p : Picture) (before : List Picture) (q : Sequence) → begins p before ≡ true → Follows p [] q
    → Follows p (earlier_in p before) q
follows_first p before q is f = subst (λ (b : Bool). Follows p (if b then [] else latest_sequence before) q) (sym is) f

none_above : (k : ℕ) (c : ℤ) (xs : List ℤ) → xs ≡ [] → min k (above c xs) ≡ min k (output_above c [])
unfolding above output_above
none_above k c xs none = ap (λ (l : List ℤ). min k (count_by (λ b. int_lt c b) l)) none

none_counted : (c : ℤ) (ks : List ℤ) → ks ≡ [] → list_any (λ k. is_eq (int_cmp c k)) ks ≡ has_count c []
unfolding has_count
none_counted c ks none = ap (list_any (λ k. is_eq (int_cmp c k))) none

-- a sequence begins
pub follows_none : (p : Picture) (q : Sequence) (b : CodeHead) → head_of b ≡ p.head → q.limits ≡ b.limits
    → q.format ≡ b.format → q.counts.keys ≡ [] → q.highest.items ≡ [] → AreHighest [] q.so_far → Follows p [] q
follows_none p q b same limits format counts highest so_far = record {
  limits = ap limits_of limits ∙ ap (λ (h : Head). h.limits) same;
  format = ap format_of format ∙ ap (λ (h : Head). h.format) same;
  counts = λ c. none_counted c q.counts.keys counts;
  highest = λ c. none_above (q.limits.reorder + 1) c q.highest.items highest;
  so_far = so_far;
}

-- ---- up to which count the buffer was full

pub with_filled : (p : Picture) (es : List Picture) (q : Sequence) (x : Option ℤ) → Follows p es q
    → Follows p es (record q { filled = x })
with_filled p es q x f =
    record { limits = f.limits; format = f.format; counts = f.counts; highest = f.highest; so_far = f.so_far }

pub filled_first : (set : Option (ℕ × Format)) (p : Picture) (before : List Picture) (q : Sequence)
    → begins p before ≡ true → q.filled ≡ None → AreFilled set (p ∷ before) q
filled_first set p before q is none c fits =
    ap (is_up_to c) none
    ∙ ap (λ (b : Bool). not b && (is_full_for set c p before || was_full_up_to set c before)) (sym is)

pub filled_on : (set : Option (ℕ × Format)) (p : Picture) (before : List Picture) (q new : Sequence) (b : Begun)
    → begins p before ≡ false → TellsNext set p before b
    → ((c : ℤ) → is_up_to c new.filled ≡ (is_up_to c b.stored.filled || is_up_to c q.filled))
    → AreFilled set before q → AreFilled set (p ∷ before) new
filled_on set p before q new b isnt t higher all c fits =
    higher c
    ∙ ap (λ (x : Bool). x || is_up_to c q.filled) (t.filled c fits)
    ∙ ap (λ (x : Bool). is_full_for set c p before || x) (all c fits)
    ∙ ap (λ (x : Bool). not x && (is_full_for set c p before || was_full_up_to set c before)) (sym isnt)
