-- Display order, picture by picture and sequence by sequence.
use Rattle.std.proofs.Common.{◌≡◌, ◌≢◌, ℕ, ℤ, ◌+◌, ◌<◌, ◌≤◌, ◌<ℤ◌, Bool, true, false, not, cond}
use Rattle.std.proofs.Common.{◌&&◌, ◌||◌, List, [], ◌∷◌, ◌++◌, length, filter, refl, sym, ◌∙◌, ap}
use Rattle.std.proofs.Common.{subst, arith, Option, All, append_assoc}
use Rattle.std.specs.Prelude.{Decides, nat_lt, nat_le, int_lt}
use Rattle.std.specs.Ordering.{int_eq}
use Rattle.std.specs.List.{list_any, AllByRecursion as Each}
use Rattle.std.proofs.lemmas.Bool.Decides.{nat_tests}
use Rattle.std.proofs.lemmas.List.Recursion.{is_count_by}
use Rattle.std.proofs.lemmas.List.Elements.{All-from_recursion, recursion_from_All}
use Rattle.hevc_walk.specs.Meanings.{Format, Limits, Meaning}
use Rattle.hevc_walk.specs.Pictures.{Picture, stream, pictures, nothing_yet}
use Rattle.hevc_walk_fates.proofs.Numbers.{Numbered, numbered-length, stream-numbered}
use Rattle.hevc_walk_order.specs.Sequences.{Sequence, IsSequence, begins, earliest, pictures_of}
use Rattle.hevc_walk_order.specs.Sequences.{is_for_output, pictures_for_output, sequences}
use Rattle.hevc_walk_order.specs.DisplayOrder.{latency_pictures, decoded_between, entries_before}
use Rattle.hevc_walk_order.specs.DisplayOrder.{needed_behind, HasRoom, HaveRoom, KeepsOrder}
use Rattle.hevc_walk_order.proofs.Each.{each-weaker, Pairs, pairs_all, all_pairs}
use Rattle.hevc_walk_order.proofs.Heads.{numbers-below}
use Rattle.hevc_check_laws.specs.Breaches.{Breach, Changed, Latency, SameCount, Full, Discards}
use Rattle.hevc_check_laws.specs.Breaches.{Reorder, earlier_in, discards}
use Rattle.hevc_check_laws.specs.Orders.{comes_late, is_full_for, was_full_up_to, breaks_order}
use Rattle.hevc_check_laws.specs.Checks.{BrokenAt, NoneBreaksOrder, lowest_broken, Yes, checked_with, checked_order}
use Rattle.hevc_check_laws.proofs.Tells.{Fails, fact-of, fails-of, fails-and, fails-where}
use Rattle.hevc_check_laws.proofs.Tells.{fails-any, fails-le, fails-unless, fails-equal, lt-tells}
use Rattle.hevc_check_laws.proofs.Tells.{below-tells}
use Rattle.hevc_check_laws.proofs.Places.{Within, begins-within, sound-weaker, sound-both, InPlace, Along}
use Rattle.hevc_check_laws.proofs.Discarding.{stream-discards}
use Rattle.hevc_check_laws.proofs.Lowest.{Unbroken, yes-none}
use Rattle.hevc_check_laws.proofs.Named.{each-sound, sound-each, none-is, is-none}
use Rattle.hevc_check_laws.proofs.Whole.{Keeping, Tells, whole}
use Rattle.hevc_check_laws.proofs.Bounds.{Same, Few, changed-fails, few-fails, discards-fails}
use Rattle.hevc_check_laws.proofs.Bounds.{limits-along, format-along, same-by, few-along, EachFew}
use Rattle.hevc_check_laws.proofs.Bounds.{few-each, few-last, stream-keeping, in_sequence}

abbrev Soon : Picture → List Picture → Picture → Type 0
Soon p es b = p.order_count <ℤ b.order_count → decoded_between b.number p.number es < latency_pictures p.limits

record Ordered (set : Option (ℕ × Format)) (p : Picture) (before es : List Picture) : Type 0 where
  same : Same p (earliest es)
  latency : is_for_output p ≡ true → 0 < p.limits.max_latency_increase_plus1
      → Each (Soon p es) (filter is_for_output es)
  distinct : is_for_output p ≡ true → Each (λ b. p.order_count ≢ b.order_count) (filter is_for_output es)
  room : is_for_output p ≡ true → was_full_up_to set p.order_count (p ∷ before) ≡ false
  few : Few p es

latency-fails : (p : Picture) (es : List Picture)
    → Fails
    (is_for_output p && nat_lt 0 p.limits.max_latency_increase_plus1
    && list_any (comes_late es p) (filter is_for_output es))
    (is_for_output p ≡ true → 0 < p.limits.max_latency_increase_plus1
    → Each (Soon p es) (filter is_for_output es))
latency-fails p es =
    three (is_for_output p) (nat_lt 0 p.limits.max_latency_increase_plus1)
    (list_any (comes_late es p) (filter is_for_output es)) (lt-tells 0 p.limits.max_latency_increase_plus1)
    (fails-any (comes_late es p) (Soon p es)
    (λ b. fails-where (int_lt p.order_count b.order_count)
    (nat_le (latency_pictures p.limits) (decoded_between b.number p.number es))
    (below-tells p.order_count b.order_count)
    (fails-le (latency_pictures p.limits) (decoded_between b.number p.number es)))
    (filter is_for_output es))
  where
    three : {P Q : Type 0} (a b t : Bool) → Decides b P → Fails t Q → Fails (a && b && t) (a ≡ true → P → Q)
    three true true t d k = (λ h is that. k.0 h, λ h. k.1 (h refl (d.0 refl)))
    three true false t d k = (λ h is that. absurd (clash (d.1 that)), λ h. refl)
      where
        clash : false ≡ true → ⊥
        clash h = absurd (cc h)
    three false b t d k = (λ h is. absurd (cc is), λ h. by_test b)
      where
        by_test : (b : Bool) → not (false && b && t) ≡ true
        by_test true = refl
        by_test false = refl

counts-fail : (p : Picture) (es : List Picture)
    → Fails (is_for_output p && list_any (λ b. int_eq p.order_count b.order_count) (filter is_for_output es))
    (is_for_output p ≡ true → Each (λ b. p.order_count ≢ b.order_count) (filter is_for_output es))
counts-fail p es =
    fails-and (is_for_output p) (list_any (λ b. int_eq p.order_count b.order_count) (filter is_for_output es))
    (fails-any (λ (b : Picture). int_eq p.order_count b.order_count) (λ b. p.order_count ≢ b.order_count)
    (λ b. fails-equal p.order_count b.order_count) (filter is_for_output es))

is-false : (t : Bool) → Fails t (t ≡ false)
is-false true = (λ h. absurd (cc h), λ h. absurd (cc h))
is-false false = (λ h. refl, λ h. refl)

full-fails : (set : Option (ℕ × Format)) (p : Picture) (before : List Picture)
    → Fails (breaks_order set p before Full)
    (is_for_output p ≡ true → was_full_up_to set p.order_count (p ∷ before) ≡ false)
full-fails set p before =
    fails-and (is_for_output p) (was_full_up_to set p.order_count (p ∷ before))
    (is-false (was_full_up_to set p.order_count (p ∷ before)))

ordered-of : (set : Option (ℕ × Format)) (p : Picture) (before : List Picture) → Unbroken (breaks_order set) p before
    → InPlace (Ordered set) p before
ordered-of set p before u = record {
  same = fact-of (breaks_order set p before Changed) (changed-fails p (earliest (earlier_in p before))) (u Changed);
  latency = fact-of (breaks_order set p before Latency) (latency-fails p (earlier_in p before)) (u Latency);
  distinct = fact-of (breaks_order set p before SameCount) (counts-fail p (earlier_in p before)) (u SameCount);
  room = fact-of (breaks_order set p before Full) (full-fails set p before) (u Full);
  few = fact-of (breaks_order set p before Reorder) (few-fails p (earlier_in p before)) (u Reorder);
}

of-ordered : (set : Option (ℕ × Format)) (p : Picture) (before : List Picture) → InPlace (Ordered set) p before
    → Keeping p before → Unbroken (breaks_order set) p before
of-ordered set p before f k Changed =
    fails-of (breaks_order set p before Changed) (changed-fails p (earliest (earlier_in p before))) f.same
of-ordered set p before f k Latency =
    fails-of (breaks_order set p before Latency) (latency-fails p (earlier_in p before)) f.latency
of-ordered set p before f k SameCount =
    fails-of (breaks_order set p before SameCount) (counts-fail p (earlier_in p before)) f.distinct
of-ordered set p before f k Full = fails-of (breaks_order set p before Full) (full-fails set p before) f.room
of-ordered set p before f k Discards = fails-of (discards p) (discards-fails p) k
of-ordered set p before f k Reorder =
    fails-of (breaks_order set p before Reorder) (few-fails p (earlier_in p before)) f.few

-- room, back to the first picture of a sequence
fills-fails : (set : Option (ℕ × Format)) (c : ℤ) (p : Picture) (before : List Picture)
    → Fails (is_full_for set c p before)
    (p.skipped ≡ false
    → length (needed_behind c (entries_before set p before)) < p.limits.max_dec_pic_buffering_minus1 + 1)
fills-fails set c p before =
    let n : ℕ = length (needed_behind c (entries_before set p before)) in
    fails-unless p.skipped (nat_le (p.limits.max_dec_pic_buffering_minus1 + 1) n)
    (fails-le (p.limits.max_dec_pic_buffering_minus1 + 1) n)

filled-more : (set : Option (ℕ × Format)) (c : ℤ) (p : Picture) (rest : List Picture) (first : Picture)
    (before : List Picture) → p.starts_sequence ≡ false
    → was_full_up_to set c (p ∷ (rest ++ first ∷ before))
    ≡ (is_full_for set c p (rest ++ first ∷ before) || was_full_up_to set c (rest ++ first ∷ before))
filled-more set c p rest first before s =
    ap (λ (b : Bool). not b
    && (is_full_for set c p (rest ++ first ∷ before) || was_full_up_to set c (rest ++ first ∷ before)))
    (begins-within p rest first before ∙ s)

filled-first : (set : Option (ℕ × Format)) (c : ℤ) (first : Picture) (before : List Picture)
    → begins first before ≡ true → was_full_up_to set c (first ∷ before) ≡ false
filled-first set c first before b =
    ap (λ (t : Bool). not t && (is_full_for set c first before || was_full_up_to set c before)) b

or-none : (a b : Bool) → a || b ≡ false → (a ≡ false) × (b ≡ false)
or-none true b h = absurd (cc h)
or-none false b h = (refl, h)

none-or : (a b : Bool) → a ≡ false → b ≡ false → a || b ≡ false
none-or true b h k = absurd (cc h)
none-or false b h k = k

has_room-of : (set : Option (ℕ × Format)) (c : ℤ) (rest : List Picture) (first : Picture) (before : List Picture)
    → Within rest → was_full_up_to set c (rest ++ first ∷ before) ≡ false → HasRoom set c rest (first ∷ before)
has_room-of set c [] first before w h = tt
has_room-of set c (p ∷ rest) first before w h =
    let k =
    or-none (is_full_for set c p (rest ++ first ∷ before)) (was_full_up_to set c (rest ++ first ∷ before))
    (sym (filled-more set c p rest first before w.0) ∙ h) in (
      fact-of (is_full_for set c p (rest ++ first ∷ before)) (fills-fails set c p (rest ++ first ∷ before)) k.0,
      has_room-of set c rest first before w.1 k.1,
    )

of-has_room : (set : Option (ℕ × Format)) (c : ℤ) (rest : List Picture) (first : Picture) (before : List Picture)
    → begins first before ≡ true → Within rest → HasRoom set c rest (first ∷ before)
    → was_full_up_to set c (rest ++ first ∷ before) ≡ false
of-has_room set c [] first before b w h = filled-first set c first before b
of-has_room set c (p ∷ rest) first before b w h =
    filled-more set c p rest first before w.0
    ∙ none-or (is_full_for set c p (rest ++ first ∷ before)) (was_full_up_to set c (rest ++ first ∷ before))
    (fails-of (is_full_for set c p (rest ++ first ∷ before)) (fills-fails set c p (rest ++ first ∷ before))
    h.0) (of-has_room set c rest first before b w.1 h.1)

room-along : (set : Option (ℕ × Format)) (first : Picture) (before rest : List Picture) → Within rest
    → Along (Ordered set) first before rest → HaveRoom set rest (first ∷ before)
room-along set first before [] w h = tt
room-along set first before (p ∷ rest) w h = (
  λ e. has_room-of set p.order_count (p ∷ rest) first before w (h.0.room e),
  room-along set first before rest w.1 h.1,
)

-- pairs of those that are to be output
pairs-more : (R : Picture → Picture → Type 0) (p : Picture) (es : List Picture)
    → (is_for_output p ≡ true → Each (R p) (filter is_for_output es)) → Pairs R (filter is_for_output es)
    → Pairs R (filter is_for_output (p ∷ es))
pairs-more R p es h k = by_test (is_for_output p) h
  where
    by_test : (t : Bool) → (t ≡ true → Each (R p) (filter is_for_output es))
        → Pairs R (cond t (p ∷ filter is_for_output es) (filter is_for_output es))
    by_test true h = (h refl, k)
    by_test false h = k

pairs-less : (R : Picture → Picture → Type 0) (p : Picture) (es : List Picture)
    → Pairs R (filter is_for_output (p ∷ es))
    → (is_for_output p ≡ true → Each (R p) (filter is_for_output es)) × Pairs R (filter is_for_output es)
pairs-less R p es h = by_test (is_for_output p) h
  where
    by_test : (t : Bool) → Pairs R (cond t (p ∷ filter is_for_output es) (filter is_for_output es))
        → (t ≡ true → Each (R p) (filter is_for_output es)) × Pairs R (filter is_for_output es)
    by_test true h = (λ t. h.0, h.1)
    by_test false h = (λ t. absurd (cc t), h)

distinct-along : (set : Option (ℕ × Format)) (first : Picture) (before rest : List Picture)
    → Along (Ordered set) first before rest
    → Pairs (λ a b. a.order_count ≢ b.order_count) (filter is_for_output (rest ++ first ∷ []))
distinct-along set first before [] h = pairs-more (λ a b. a.order_count ≢ b.order_count) first [] (λ t. tt) tt
distinct-along set first before (p ∷ rest) h =
    pairs-more (λ a b. a.order_count ≢ b.order_count) p (rest ++ first ∷ []) h.0.distinct
    (distinct-along set first before rest h.1)

-- the pictures that are decoded after a picture aren't between it and one before it
is_between : ℕ → ℕ → Picture → Bool
is_between m n p = not p.skipped && nat_lt m p.number && nat_lt p.number n

between : ℕ → ℕ → List Picture → ℕ
between m n [] = 0
between m n (p ∷ ps) = cond (is_between m n p) (1 + between m n ps) (between m n ps)

between-is : (m n : ℕ) (ps : List Picture) → between m n ps ≡ decoded_between m n ps
unfolding is_between between
between-is m n ps =
    is_count_by (between m n) (λ (p : Picture). not p.skipped && nat_lt m p.number && nat_lt p.number n) refl
    (λ p ps. refl) ps

not-between : (m n : ℕ) (p : Picture) → n ≤ p.number → is_between m n p ≡ false
unfolding is_between
not-between m n p h = by_tests (not p.skipped) (nat_lt m p.number) (nat_lt p.number n) (above p.number n h)
  where
    above : (k n : ℕ) → n ≤ k → nat_lt k n ≡ false
    above k n h = grind (arith, nat_tests)

    by_tests : (a b c : Bool) → c ≡ false → a && b && c ≡ false
    by_tests true true c h = h
    by_tests true false c h = refl
    by_tests false true c h = refl
    by_tests false false c h = refl

between-more : (m n : ℕ) (p : Picture) (ps : List Picture) → n ≤ p.number
    → decoded_between m n (p ∷ ps) ≡ decoded_between m n ps
unfolding between
between-more m n p ps h =
    sym (between-is m n (p ∷ ps))
    ∙ ap (λ (b : Bool). cond b (1 + between m n ps) (between m n ps)) (not-between m n p h) ∙ between-is m n ps

-- what is between one of these and one before it is among those before it
abbrev SameBetween : List Picture → List Picture → Type 0
SameBetween all [] = Unit {0}
SameBetween all (p ∷ ps) =
    ((m : ℕ) → decoded_between m p.number all ≡ decoded_between m p.number ps) × SameBetween all ps

same-more : (q : Picture) (all ps : List Picture) → Each (λ p. p.number ≤ q.number) ps → SameBetween all ps
    → SameBetween (q ∷ all) ps
same-more q all [] h k = tt
same-more q all (p ∷ ps) h k = (λ m. between-more m p.number q all h.0 ∙ k.0 m, same-more q all ps h.1 k.1)

-- each number is no lower than those of the pictures before
abbrev Falling : List Picture → Type 0
Falling [] = Unit {0}
Falling (p ∷ ps) = Each (λ q. q.number ≤ p.number) ps × Falling ps

same-between : (ps : List Picture) → Falling ps → SameBetween ps ps
same-between [] h = tt
same-between (p ∷ ps) h = (λ m. between-more m p.number p ps (omega arith), same-more p ps ps h.0 (same-between ps h.1))

falling-of : (ps before : List Picture) → Numbered (ps ++ before) → Falling ps
falling-of [] before h = tt
falling-of (p ∷ ps) before h = (
  front ps
      (each-weaker (λ q. q.number < length (ps ++ before)) (λ q. q.number ≤ p.number)
      (λ q k. below q.number (length (ps ++ before)) p.number k (h.0 ∙ numbered-length (ps ++ before) h.1))
      (ps ++ before) (numbers-below (ps ++ before) h.1)),
  falling-of ps before h.1,
)
  where
    below : (m n k : ℕ) → m < n → k ≡ n → m ≤ k
    below m n k h e = omega (arith, h, e)

    front : (ps : List Picture) → Each (λ q. q.number ≤ p.number) (ps ++ before) → Each (λ q. q.number ≤ p.number) ps
    front [] h = tt
    front (q ∷ ps) h = (h.0, front ps h.1)

abbrev SoonIn : Limits → List Picture → Picture → Picture → Type 0
SoonIn limits all a b = a.order_count <ℤ b.order_count → decoded_between b.number a.number all < latency_pictures limits

latency-along : (set : Option (ℕ × Format)) (first : Picture) (before all rest : List Picture)
    → 0 < first.limits.max_latency_increase_plus1 → Each (λ p. p.limits ≡ first.limits) rest
    → SameBetween all (rest ++ first ∷ []) → Along (Ordered set) first before rest
    → Pairs (SoonIn first.limits all) (filter is_for_output (rest ++ first ∷ []))
latency-along set first before all [] some l same h = pairs-more (SoonIn first.limits all) first [] (λ t. tt) tt
latency-along set first before all (p ∷ rest) some l same h =
    pairs-more (SoonIn first.limits all) p (rest ++ first ∷ [])
    (λ t. each-weaker (Soon p (rest ++ first ∷ [])) (SoonIn first.limits all p)
    (λ b soon e. subst (λ (n : ℕ). n < latency_pictures first.limits) (sym (same.0 b.number))
    (subst (λ (m : Limits). decoded_between b.number p.number (rest ++ first ∷ []) < latency_pictures m) l.0
    (soon e))) (filter is_for_output (rest ++ first ∷ []))
    (h.0.latency t (subst (λ (m : Limits). 0 < m.max_latency_increase_plus1) (sym l.0) some)))
    (latency-along set first before all rest some l.1 same.1 h.1)

-- the pairs of a sequence, picture by picture
abbrev EachPairs : (Picture → Picture → Type 0) → Picture → List Picture → Type 0
EachPairs R first [] = Unit {0}
EachPairs R first (p ∷ rest) =
    (is_for_output p ≡ true → Each (R p) (filter is_for_output (rest ++ first ∷ []))) × EachPairs R first rest

pairs-each : (R : Picture → Picture → Type 0) (first : Picture) (rest : List Picture)
    → Pairs R (filter is_for_output (rest ++ first ∷ [])) → EachPairs R first rest
pairs-each R first [] h = tt
pairs-each R first (p ∷ rest) h =
    let k = pairs-less R p (rest ++ first ∷ []) h in
    (k.0, pairs-each R first rest k.1)

along-ordered : (set : Option (ℕ × Format)) (first : Picture) (before all rest : List Picture)
    → begins first before ≡ true → Within rest → Each (λ p. p.limits ≡ first.limits) rest
    → Each (λ p. p.format ≡ first.format) rest → SameBetween all (rest ++ first ∷ [])
    → (0 < first.limits.max_latency_increase_plus1 → EachPairs (SoonIn first.limits all) first rest)
    → HaveRoom set rest (first ∷ before) → EachPairs (λ a b. a.order_count ≢ b.order_count) first rest
    → EachFew first rest → Along (Ordered set) first before rest
along-ordered set first before all [] b w l f same latency room distinct few = tt
along-ordered set first before all (p ∷ rest) b w l f same latency room distinct few = (
  record {
    same = same-by p first rest l.0 f.0;
    latency =
        λ t some. each-weaker (SoonIn first.limits all p) (Soon p (rest ++ first ∷ []))
        (λ b soon e. subst
        (λ (m : Limits). decoded_between b.number p.number (rest ++ first ∷ []) < latency_pictures m) (sym l.0)
        (subst (λ (n : ℕ). n < latency_pictures first.limits) (same.0 b.number) (soon e)))
        (filter is_for_output (rest ++ first ∷ []))
        ((latency (subst (λ (m : Limits). 0 < m.max_latency_increase_plus1) l.0 some)).0 t);
    distinct = distinct.0;
    room = λ t. of-has_room set p.order_count (p ∷ rest) first before b w (room.0 t);
    few = few.0;
  },
  along-ordered set first before all rest b w.1 l.1 f.1 same.1 (λ some. (latency some).1) room.1 distinct.1 few.1,
)

falling-own : (rest : List Picture) (first : Picture) (before : List Picture) → Numbered (rest ++ first ∷ before)
    → Falling (rest ++ first ∷ [])
falling-own rest first before h =
    falling-of (rest ++ first ∷ []) before (subst Numbered (sym (append_assoc rest (first ∷ []) before)) h)

order-tell : (us : List Meaning) → Tells (Ordered (stream us).first_set) (KeepsOrder us)
order-tell us = record { along = along; next = λ q keeps. keeps.next }
  where
    set : Option (ℕ × Format)
    set = (stream us).first_set

    along : (q : Sequence) → begins q.first q.before ≡ true → Within q.rest → Numbered (q.rest ++ q.first ∷ q.before)
        → KeepsOrder us q → Along (Ordered set) q.first q.before q.rest × Ordered set q.first q.before []
    along q b w n keeps =
        let l = recursion_from_All (λ p. p.limits ≡ q.first.limits) q.rest keeps.limits in
        let few = few-each q.first q.rest l keeps.few_precede in
        let soon =
        λ (some : 0 < q.first.limits.max_latency_increase_plus1). pairs-each
        (SoonIn q.first.limits (pictures_of q)) q.first q.rest
        (all_pairs (SoonIn q.first.limits (pictures_of q)) (pictures_for_output q) (keeps.latency some)) in (
          along-ordered set q.first q.before (pictures_of q) q.rest b w l
              (recursion_from_All (λ p. p.format ≡ q.first.format) q.rest keeps.format)
              (same-between (pictures_of q) (falling-own q.rest q.first q.before n)) soon keeps.room
              (pairs-each (λ a b. a.order_count ≢ b.order_count) q.first q.rest
              (all_pairs (λ a b. a.order_count ≢ b.order_count) (pictures_for_output q) keeps.distinct))
              few,
          record {
            same = tt;
            latency = λ t some. tt;
            distinct = λ t. tt;
            room = λ t. filled-first set q.first.order_count q.first q.before b;
            few = few-last q.first q.rest few;
          },
        )

pub order-kept : (us : List Meaning) → NoneBreaksOrder us → (q : Sequence) → IsSequence us q → KeepsOrder us q
order-kept us none q is =
    let breaks : Picture → List Picture → Breach → Bool = breaks_order (stream us).first_set in
    let u = sound-each breaks (pictures us) none in
    let s =
    in_sequence us (Ordered (stream us).first_set)
    (sound-weaker (Unbroken breaks) (InPlace (Ordered (stream us).first_set))
    (ordered-of (stream us).first_set) (pictures us) u) (stream-keeping us breaks (λ p before. refl) u) q
    is in
    let l = limits-along (Ordered (stream us).first_set) (λ p before es h. h.same) q.first q.before q.rest s.along in
    record {
      limits = All-from_recursion (λ p. p.limits ≡ q.first.limits) q.rest l;
      format =
          All-from_recursion (λ p. p.format ≡ q.first.format) q.rest
          (format-along (Ordered (stream us).first_set) (λ p before es h. h.same) q.first q.before q.rest s.along);
      latency =
          λ some. pairs_all (SoonIn q.first.limits (pictures_of q)) (pictures_for_output q)
          (latency-along (stream us).first_set q.first q.before (pictures_of q) q.rest some l
          (same-between (pictures_of q) (falling-own q.rest q.first q.before s.numbered)) s.along);
      room = room-along (stream us).first_set q.first q.before q.rest s.within s.along;
      next = s.next;
      distinct =
          pairs_all (λ a b. a.order_count ≢ b.order_count) (pictures_for_output q)
          (distinct-along (stream us).first_set q.first q.before q.rest s.along);
      few_precede =
          few-along (Ordered (stream us).first_set) (λ p before es h. h.few) q.first q.before q.rest l s.along
          s.first.few;
    }

pub order-unbroken : (us : List Meaning) → All (KeepsOrder us) (sequences us) → NoneBreaksOrder us
order-unbroken us keeps =
    let set : Option (ℕ × Format) = (stream us).first_set in
    let w =
    whole (Ordered set) (KeepsOrder us) (order-tell us) (pictures us) (stream-numbered 0 nothing_yet us tt)
    (stream-discards 0 nothing_yet us tt) (recursion_from_All (KeepsOrder us) (sequences us) keeps) in
    each-sound (breaks_order set) (pictures us)
    (sound-both (InPlace (Ordered set)) Keeping (Unbroken (breaks_order set)) (of-ordered set) (pictures us) w.0
    w.1)

pub order-kept_by : (us : List Meaning) (m n : ℕ) → checked_order us ≡ Yes m n → (q : Sequence) → IsSequence us q
    → KeepsOrder us q
order-kept_by us m n answer =
    order-kept us
    (none-is (breaks_order (stream us).first_set) (pictures us)
    (yes-none us (lowest_broken (breaks_order (stream us).first_set) (pictures us)) m n answer))

pub order-answer : (us : List Meaning) → All (KeepsOrder us) (sequences us)
    → checked_order us ≡ Yes (length (sequences us)) (length (pictures us))
order-answer us keeps =
    ap (λ (o : Option BrokenAt). checked_with o us)
    (is-none (breaks_order (stream us).first_set) (pictures us) (order-unbroken us keeps))
