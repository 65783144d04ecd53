-- All picture numbers raised by n: the buffer, the reference sets and the lists go along.
use Rattle.std.proofs.Common.{◌≡◌, ℕ, ◌+◌, Bool, true, false, not, cond, ◌&&◌, ◌||◌, eqb, List, []}
use Rattle.std.proofs.Common.{◌∷◌, ◌++◌, length, map, filter, take, get_or, refl, sym, ◌∙◌, ap}
use Rattle.std.proofs.Common.{arith, Option, Some, None, ap₂}
use Rattle.std.specs.Prelude.{count_by, ◌+ℤ◌, fold, int_lt, ◌%◌, is_none, nat_lt, nat_le, ◌-◌}
use Rattle.std.specs.List.{list_any}
use Rattle.std.specs.Ordering.{int_eq}
use Rattle.std.proofs.lemmas.Bool.Decides.{nat_tests}
use Rattle.std.proofs.lemmas.List.{map-append, length-map, take-map}
use Rattle.std.proofs.Math.ListN as listn
use Rattle.hevc_spec.specs.UnitTypes.{is_idr}
use Rattle.hevc_walk.specs.Meanings.{Slice, Limits, ShortTermMember, LongTermMember}
use Rattle.hevc_walk.specs.Meanings.{ShortTermRefPicSet, ListRule, SliceType, I, B, P}
use Rattle.hevc_walk.specs.Pictures.{Head}
use Rattle.hevc_walk.specs.Buffer.{LongTerm, Entry, Buffer, is_needed, placed, in_output_order}
use Rattle.hevc_walk.specs.Buffer.{has_number, left_of, after_output, shortest_front, due_outputs}
use Rattle.hevc_walk.specs.Buffer.{is_late, needs_additional_bumping, needs_bumping, is_reference}
use Rattle.hevc_walk.specs.Buffer.{with_stored, with_latency, entry_of}
use Rattle.hevc_walk.specs.ReferenceSets.{RefPicSet, no_references, short_term_set, first_number}
use Rattle.hevc_walk.specs.ReferenceSets.{names, long_term_entry, short_term_entry}
use Rattle.hevc_walk.specs.ReferenceSets.{references_before, unmarked, long_term_if, with_long_term}
use Rattle.hevc_walk.specs.ReferenceSets.{five_lists, reference_set, all_members, marked_if}
use Rattle.hevc_walk.specs.ReferenceSets.{with_marks, is_curr_short_term, is_curr_long_term}
use Rattle.hevc_walk.specs.ReferenceSets.{is_named, is_short_term}
use Rattle.hevc_walk.specs.ReferenceLists.{RefPicListEntry, CurrentPicture, entry_of_number}
use Rattle.hevc_walk.specs.ReferenceLists.{current_picture, base0, base1, numbers_below}
use Rattle.hevc_walk.specs.ReferenceLists.{entry_index, list_places, with_current, list0_for}
use Rattle.hevc_walk.specs.ReferenceLists.{list1_for, ref_pic_list0, ref_pic_list1}
use Rattle.hevc_walk.specs.Walk.{needed_entries}
use Rattle.hevc_walk_splice.specs.Splicing.{numbered_member, numbered_set, numbered_entry}

abbrev pub raise_member : ℕ → Option ℕ → Option ℕ
raise_member n = numbered_member (λ m. n + m)

abbrev pub raise_set : ℕ → RefPicSet → RefPicSet
raise_set n = numbered_set (λ m. n + m)

abbrev pub raise_place : ℕ → Option RefPicListEntry → Option RefPicListEntry
raise_place n = numbered_entry (λ m. n + m)

abbrev pub raise_entry : ℕ → Entry → Entry
raise_entry n e = record e { number = n + e.number }

abbrev pub raise : ℕ → List Entry → List Entry
raise n es = map (raise_entry n) es

-- NoOutputOfPriorPicsFlag is of no account once a picture has begun
abbrev pub raise_head : ℕ → Bool → Head → Head
raise_head n b p = record p { number = n + p.number; no_output_of_prior_pics = b }

same_test : (n a b : ℕ) → eqb (n + a) (n + b) ≡ eqb a b
same_test n a b = grind (arith, nat_tests)

-- a function goes into both cases
pub cond-over : {X Y : Type 0} (f : X → Y) (b : Bool) (x y : X) → cond b (f x) (f y) ≡ f (cond b x y)
cond-over f true x y = refl
cond-over f false x y = refl

-- a map goes through another
map-through : {X Y Z W : Type 0} (f : Y → W) (r : X → Y) (g : X → Z) (q : Z → W)
    → ((x : X) → f (r x) ≡ q (g x)) → (xs : List X) → map f (map r xs) ≡ map q (map g xs)
map-through f r g q h [] = refl
map-through f r g q h (x ∷ xs) = ap₂ (λ y l. y ∷ l) (h x) (map-through f r g q h xs)

map-same : {X Y Z : Type 0} (f : X → Z) (g : X → Y) (q : Y → Z) → ((x : X) → f x ≡ q (g x)) → (xs : List X)
    → map f xs ≡ map q (map g xs)
map-same f g q h [] = refl
map-same f g q h (x ∷ xs) = ap₂ (λ y l. y ∷ l) (h x) (map-same f g q h xs)

has-raised : (n m : ℕ) (es : List Entry) → has_number (n + m) (raise n es) ≡ has_number m es
has-raised n m [] = refl
has-raised n m (e ∷ es) = ap₂ (λ (a b : Bool). a || b) (same_test n e.number m) (has-raised n m es)

left-raised : (n : ℕ) (b : Bool) (e : Entry) → left_of b (raise_entry n e) ≡ raise n (left_of b e)
left-raised n true e = cond-over (raise n) (is_reference e.mark) (record e { needed_for_output = false } ∷ []) []
left-raised n false e = refl

after-raised : (n : ℕ) (outputs es : List Entry)
    → after_output (raise n outputs) (raise n es) ≡ raise n (after_output outputs es)
after-raised n outputs [] = refl
after-raised n outputs (e ∷ es) =
    ap (λ (b : Bool). left_of b (raise_entry n e) ++ after_output (raise n outputs) (raise n es))
    (has-raised n e.number outputs)
    ∙ ap₂ (λ a b. a ++ b) (left-raised n (has_number e.number outputs) e) (after-raised n outputs es)
    ∙ sym (map-append (raise_entry n) (left_of (has_number e.number outputs) e) (after_output outputs es))

placed-raised : (n : ℕ) (e : Entry) (fs : List Entry) → placed (raise_entry n e) (raise n fs) ≡ raise n (placed e fs)
placed-raised n e [] = refl
placed-raised n e (f ∷ fs) =
    ap (λ l. cond (int_lt f.order_count e.order_count) (raise_entry n f ∷ l) (raise n (e ∷ f ∷ fs)))
    (placed-raised n e fs) ∙ cond-over (raise n) (int_lt f.order_count e.order_count) (f ∷ placed e fs) (e ∷ f ∷ fs)

pub order-raised : (n : ℕ) (es : List Entry) → in_output_order (raise n es) ≡ raise n (in_output_order es)
order-raised n [] = refl
order-raised n (e ∷ es) =
    ap (λ l. cond e.needed_for_output (placed (raise_entry n e) l) l) (order-raised n es)
    ∙ ap (λ l. cond e.needed_for_output l (raise n (in_output_order es))) (placed-raised n e (in_output_order es))
    ∙ cond-over (raise n) e.needed_for_output (placed e (in_output_order es)) (in_output_order es)

front-same : {X : Type 0} (p q : List X → Bool) → ((l : List X) → p l ≡ q l) → (xs : List X)
    → shortest_front p xs ≡ shortest_front q xs
front-same p q h [] = refl
front-same p q h (x ∷ xs) =
    ap₂ (λ (b : Bool) l. cond b [] (x ∷ l)) (h []) (front-same (λ front. p (x ∷ front))
    (λ front. q (x ∷ front)) (λ l. h (x ∷ l)) xs)

front-map : {X Y : Type 0} (f : X → Y) (p : List Y → Bool) (xs : List X)
    → shortest_front p (map f xs) ≡ map f (shortest_front (λ front. p (map f front)) xs)
front-map f p [] = refl
front-map f p (x ∷ xs) = ap (λ l. cond (p []) [] (f x ∷ l)) (front-map f (λ front. p (f x ∷ front)) xs)
    ∙ cond-over (map f) (p []) [] (x ∷ shortest_front (λ front. p (f x ∷ map f front)) xs)

-- a rule that doesn't look at numbers
abbrev pub IsBlind : (Buffer → Bool) → Type 0
IsBlind rule = (n : ℕ) (es : List Entry) → rule (raise n es) ≡ rule es

pub due-raised : (rule : Buffer → Bool) → IsBlind rule → (n : ℕ) (es : List Entry)
    → due_outputs rule (raise n es) ≡ raise n (due_outputs rule es)
unfolding due_outputs
due-raised rule h n es =
    ap (shortest_front (λ outputs. not (rule (after_output outputs (raise n es))))) (order-raised n es)
    ∙ front-map (raise_entry n) (λ outputs. not (rule (after_output outputs (raise n es)))) (in_output_order es)
    ∙ ap (raise n) (front-same (λ outputs. not (rule (after_output (raise n outputs) (raise n es))))
    (λ outputs. not (rule (after_output outputs es)))
    (λ outputs. ap
    (λ (b : Bool). not b) (ap rule (after-raised n outputs es) ∙ h n (after_output outputs es))) (in_output_order es))

pub left-behind-raised : (rule : Buffer → Bool) → IsBlind rule → (n : ℕ) (es : List Entry)
    → after_output (due_outputs rule (raise n es)) (raise n es) ≡ raise n (after_output (due_outputs rule es) es)
left-behind-raised rule h n es = ap (λ l. after_output l (raise n es)) (due-raised rule h n es)
    ∙ after-raised n (due_outputs rule es) es

count-raised : (n : ℕ) (es : List Entry) → count_by (λ e. e.needed_for_output) (raise n es) ≡ count_by
    (λ e. e.needed_for_output) es
count-raised n es = counted 0 es
  where
    counted : (k : ℕ) (xs : List Entry)
        → fold (λ (a : ℕ) (x : Entry). a + cond x.needed_for_output 1 0) k (raise n xs) ≡ fold
        (λ (a : ℕ) (x : Entry). a + cond x.needed_for_output 1 0) k xs
    counted k [] = refl
    counted k (x ∷ xs) = counted (k + cond x.needed_for_output 1 0) xs

late-raised : (n : ℕ) (limits : Limits) (es : List Entry)
    → list_any (is_late limits) (raise n es) ≡ list_any (is_late limits) es
late-raised n limits [] = refl
late-raised n limits (e ∷ es) = ap (λ (b : Bool). is_late limits e || b) (late-raised n limits es)

pub additional-blind : (limits : Limits) → IsBlind (needs_additional_bumping limits)
unfolding needs_additional_bumping
additional-blind limits n es =
    ap₂ (λ (m : ℕ) (b : Bool). nat_lt limits.max_num_reorder_pics m ||
    (nat_lt 0 limits.max_latency_increase_plus1 && b)) (count-raised n es) (late-raised n limits es)

pub bumping-blind : (limits : Limits) → IsBlind (needs_bumping limits)
unfolding needs_bumping
bumping-blind limits n es =
    ap₂ (λ (a : Bool) (m : ℕ). a || nat_le (limits.max_dec_pic_buffering_minus1 + 1) m)
    (additional-blind limits n es) (length-map es (raise_entry n))

pub needed-raised : (n : ℕ) (es : List Entry) → needed_entries (raise n es) ≡ raise n (needed_entries es)
needed-raised n [] = refl
needed-raised n (e ∷ es) = ap (λ l. cond (is_needed e) (raise_entry n e ∷ l) l) (needed-raised n es)
    ∙ cond-over (raise n) (is_needed e) (e ∷ needed_entries es) (needed_entries es)

pub stored-raised : (n : ℕ) (b : Bool) (p : Head) (es : List Entry)
    → with_stored (raise_head n b p) (raise n es) ≡ raise n (with_stored p es)
unfolding with_stored
stored-raised n b p es =
    ap (λ l. l ++ raise_entry n (entry_of p) ∷ [])
    (map-through with_latency (raise_entry n) with_latency (raise_entry n) (λ e. refl) es)
    ∙ sym (map-append (raise_entry n) (map with_latency es) (entry_of p ∷ []))

-- reference sets
first-raised : (n : ℕ) (passes : Entry → Bool) → ((e : Entry) → passes (raise_entry n e) ≡ passes e)
    → (es : List Entry) → first_number passes (raise n es) ≡ raise_member n (first_number passes es)
first-raised n passes h [] = refl
first-raised n passes h (e ∷ es) =
    ap₂ (λ (b : Bool) (l : Option ℕ). cond b (Some (n + e.number)) l) (h e) (first-raised n passes h es)
    ∙ cond-over (raise_member n) (passes e) (Some e.number) (first_number passes es)

names-raised : (n m : ℕ) (ms : List (Option ℕ)) → names (n + m) (map (raise_member n) ms) ≡ names m ms
names-raised n m [] = refl
names-raised n m (None ∷ ms) = names-raised n m ms
names-raised n m (Some k ∷ ms) = ap₂ (λ (a b : Bool). a || b) (same_test n k m) (names-raised n m ms)

references-raised : (n : ℕ) (b : Bool) (p : Head) (es : List Entry)
    → references_before (raise_head n b p) (raise n es) ≡ raise n (references_before p es)
references-raised n b p es =
    ap (λ l. cond p.starts_sequence l (raise n es))
    (map-through unmarked (raise_entry n) unmarked (raise_entry n) (λ e. refl) es)
    ∙ cond-over (raise n) p.starts_sequence (map unmarked es) es

long-raised : (n : ℕ) (b : Bool) (p : Head) (first : Slice) (es : List Entry) (m : LongTermMember)
    → long_term_entry (raise_head n b p) first (raise n es) m ≡ raise_member n (long_term_entry p first es m)
long-raised n b p first es m = by_cycle m.delta_poc_msb_cycle
  where
    by_cycle : (c : Option ℕ)
        → first_number
        (λ e. is_reference e.mark && is_named (raise_head n b p) first m.poc_lsb c e.order_count)
        (raise n es) ≡ raise_member n
        (first_number (λ e. is_reference e.mark && is_named p first m.poc_lsb c e.order_count) es)
    by_cycle None =
        first-raised n (λ e. is_reference e.mark && is_named p first m.poc_lsb None e.order_count) (λ e. refl) es
    by_cycle (Some cycle) =
        first-raised n (λ e. is_reference e.mark && is_named p first m.poc_lsb (Some cycle) e.order_count)
        (λ e. refl) es

short-raised : (n : ℕ) (b : Bool) (p : Head) (es : List Entry) (m : ShortTermMember)
    → short_term_entry (raise_head n b p) (raise n es) m ≡ raise_member n (short_term_entry p es m)
short-raised n b p es m =
    first-raised n (λ e. is_short_term e.mark && int_eq e.order_count (p.order_count +ℤ m.delta_poc)) (λ e. refl) es

with_long-raised : (n : ℕ) (b : Bool) (p : Head) (first : Slice) (es : List Entry)
    → with_long_term (raise_head n b p) first (raise n es) ≡ raise n (with_long_term p first es)
with_long-raised n b p first es =
    ap (λ l. map (long_term_if l) (raise n es))
    (map-same (long_term_entry (raise_head n b p) first (raise n es)) (long_term_entry p first es)
    (raise_member n) (long-raised n b p first es) first.long_term_pics)
    ∙ map-through (long_term_if (map (raise_member n) members)) (raise_entry n) (long_term_if members)
    (raise_entry n) one es
  where
    members : List (Option ℕ)
    members = map (long_term_entry p first es) first.long_term_pics

    one : (e : Entry)
        → long_term_if (map (raise_member n) members) (raise_entry n e) ≡ raise_entry n (long_term_if members e)
    one e = ap (λ (c : Bool). cond c (record (raise_entry n e) { mark = LongTerm }) (raise_entry n e))
        (names-raised n e.number members) ∙ cond-over (raise_entry n) (names e.number members)
        (record e { mark = LongTerm }) e

sets : List (Option ℕ) → List (Option ℕ) → List (Option ℕ) → List (Option ℕ) → List (Option ℕ) → RefPicSet
sets a b c d e = record { st_curr_before = a; st_curr_after = b; st_foll = c; lt_curr = d; lt_foll = e }

pub same-sets : (s t : RefPicSet) → s.st_curr_before ≡ t.st_curr_before → s.st_curr_after ≡ t.st_curr_after
    → s.st_foll ≡ t.st_foll → s.lt_curr ≡ t.lt_curr → s.lt_foll ≡ t.lt_foll → s ≡ t
unfolding sets
same-sets s t a b c d e =
    ap (λ x. sets x s.st_curr_after s.st_foll s.lt_curr s.lt_foll) a
    ∙ ap (λ x. sets t.st_curr_before x s.st_foll s.lt_curr s.lt_foll) b
    ∙ ap (λ x. sets t.st_curr_before t.st_curr_after x s.lt_curr s.lt_foll) c
    ∙ ap (λ x. sets t.st_curr_before t.st_curr_after t.st_foll x s.lt_foll) d
    ∙ ap (λ x. sets t.st_curr_before t.st_curr_after t.st_foll t.lt_curr x) e

five-raised : (n : ℕ) (b : Bool) (p : Head) (first : Slice) (set : ShortTermRefPicSet)
    (es marked : List Entry)
    → five_lists (raise_head n b p) first set (raise n es) (raise n marked) ≡ raise_set n
    (five_lists p first set es marked)
five-raised n b p first set es marked =
    same-sets _ _ (short (filter is_curr_short_term set.negative_pics))
    (short (filter is_curr_short_term set.positive_pics))
    (short (filter (λ m. not (is_curr_short_term m)) (set.negative_pics ++ set.positive_pics)))
    (long (filter is_curr_long_term first.long_term_pics))
    (long (filter (λ m. not (is_curr_long_term m)) first.long_term_pics))
  where
    short : (ms : List ShortTermMember)
        → map (short_term_entry (raise_head n b p) (raise n marked)) ms ≡ map (raise_member n)
        (map (short_term_entry p marked) ms)
    short ms = map-same (short_term_entry (raise_head n b p) (raise n marked)) (short_term_entry p marked)
        (raise_member n) (short-raised n b p marked) ms

    long : (ms : List LongTermMember)
        → map (long_term_entry (raise_head n b p) first (raise n es)) ms ≡ map (raise_member n)
        (map (long_term_entry p first es) ms)
    long ms = map-same (long_term_entry (raise_head n b p) first (raise n es)) (long_term_entry p first es)
        (raise_member n) (long-raised n b p first es) ms

pub set-raised : (n : ℕ) (b : Bool) (p : Head) (first : Slice) (es : List Entry)
    → reference_set (raise_head n b p) first (raise n es) ≡ raise_set n (reference_set p first es)
unfolding reference_set
set-raised n b p first es = ap (λ (s : RefPicSet). cond (is_idr p.nal_unit_type) no_references s) five
    ∙ cond-over (raise_set n) (is_idr p.nal_unit_type) no_references
    (five_lists p first (short_term_set first) kept (with_long_term p first kept))
  where
    kept : List Entry
    kept = references_before p es

    q : Head
    q = raise_head n b p

    five : five_lists q first (short_term_set first) (references_before q (raise n es))
        (with_long_term q first (references_before q (raise n es))) ≡ raise_set n
        (five_lists p first (short_term_set first) kept (with_long_term p first kept))
    five =
        ap (λ l. five_lists q first (short_term_set first) l (with_long_term q first l)) (references-raised n b p es)
        ∙ ap (λ l. five_lists q first (short_term_set first) (raise n kept) l) (with_long-raised n b p first kept)
        ∙ five-raised n b p first (short_term_set first) kept (with_long_term p first kept)

members-raised : (n : ℕ) (set : RefPicSet) → all_members (raise_set n set) ≡ map (raise_member n) (all_members set)
members-raised n set =
    ap (λ l. l ++ map (raise_member n) set.st_foll ++ map (raise_member n) set.lt_curr
    ++ map (raise_member n) set.lt_foll) (sym (map-append (raise_member n) set.st_curr_before set.st_curr_after))
    ∙ ap (λ l. l ++ map (raise_member n) set.lt_curr ++ map (raise_member n) set.lt_foll)
    (sym (map-append (raise_member n) (set.st_curr_before ++ set.st_curr_after) set.st_foll))
    ∙ ap (λ l. l ++ map (raise_member n) set.lt_foll)
    (sym (map-append (raise_member n) (set.st_curr_before ++ set.st_curr_after ++ set.st_foll) set.lt_curr))
    ∙ sym (map-append (raise_member n) (set.st_curr_before ++ set.st_curr_after ++ set.st_foll
    ++ set.lt_curr) set.lt_foll)

pub marks-raised : (n : ℕ) (b : Bool) (p : Head) (first : Slice) (es : List Entry)
    → with_marks (raise_head n b p) first (raise n es) ≡ raise n (with_marks p first es)
unfolding with_marks
marks-raised n b p first es =
    ap (λ (s : RefPicSet). map (marked_if (all_members s))
    (with_long_term (raise_head n b p) first (references_before (raise_head n b p) (raise n es))))
    (set-raised n b p first es)
    ∙ ap (λ l. map (marked_if l)
    (with_long_term (raise_head n b p) first (references_before (raise_head n b p) (raise n es))))
    (members-raised n (reference_set p first es))
    ∙ ap (λ l. map (marked_if (map (raise_member n) members)) (with_long_term (raise_head n b p) first l))
    (references-raised n b p es)
    ∙ ap (map (marked_if (map (raise_member n) members))) (with_long-raised n b p first (references_before p es))
    ∙ map-through (marked_if (map (raise_member n) members)) (raise_entry n) (marked_if members)
    (raise_entry n) one (with_long_term p first (references_before p es))
  where
    members : List (Option ℕ)
    members = all_members (reference_set p first es)

    one : (e : Entry) → marked_if (map (raise_member n) members) (raise_entry n e) ≡ raise_entry n (marked_if members e)
    one e = ap (λ (c : Bool). cond c (raise_entry n e) (unmarked (raise_entry n e)))
        (names-raised n e.number members) ∙ cond-over (raise_entry n) (names e.number members) e (unmarked e)

-- reference lists
number-raised : (n : ℕ) (m : Option ℕ) → entry_of_number (raise_member n m) ≡ raise_place n (entry_of_number m)
number-raised n None = refl
number-raised n (Some m) = refl

current-raised : (n : ℕ) (s : Slice) → current_picture s ≡ map (raise_place n) (current_picture s)
current-raised n s = cond-over (map (raise_place n)) s.pps_curr_pic_ref_enabled_flag (Some CurrentPicture ∷ []) []

base-raised : (n : ℕ) (s : Slice) (a b c : List (Option ℕ))
    → map entry_of_number (map (raise_member n) a ++ map (raise_member n) b ++ map (raise_member n) c)
    ++ current_picture s ≡ map (raise_place n) (map entry_of_number (a ++ b ++ c) ++ current_picture s)
base-raised n s a b c =
    ap (λ l. map entry_of_number (l ++ map (raise_member n) c) ++ current_picture s)
    (sym (map-append (raise_member n) a b))
    ∙ ap (λ l. map entry_of_number l ++ current_picture s) (sym (map-append (raise_member n) (a ++ b) c))
    ∙ ap (λ l. l ++ current_picture s)
    (map-through entry_of_number (raise_member n) entry_of_number (raise_place n) (number-raised n) (a ++ b ++ c))
    ∙ ap (λ l. map (raise_place n) (map entry_of_number (a ++ b ++ c)) ++ l) (current-raised n s)
    ∙ sym (map-append (raise_place n) (map entry_of_number (a ++ b ++ c)) (current_picture s))

places-raised : (n : ℕ) (rule : ListRule) (base : List (Option RefPicListEntry))
    → list_places rule (map (raise_place n) base) ≡ map (raise_place n) (list_places rule base)
places-raised n rule base =
    ap (λ (l : ℕ). map (λ i. get_or (map (raise_place n) base) (entry_index rule.list_entry i % l) None)
    (numbers_below rule.num_ref_idx_active)) (length-map base (raise_place n))
    ∙ map-same (λ i. get_or (map (raise_place n) base) (entry_index rule.list_entry i % length base) None)
    (λ i. get_or base (entry_index rule.list_entry i % length base) None) (raise_place n)
    (λ i. listn.get_or-map (raise_place n) base (entry_index rule.list_entry i % length base) None)
    (numbers_below rule.num_ref_idx_active)

with_current-raised : (n : ℕ) (s : Slice) (l : List (Option RefPicListEntry))
    → with_current s (map (raise_place n) l) ≡ map (raise_place n) (with_current s l)
with_current-raised n s l =
    let test = s.pps_curr_pic_ref_enabled_flag && is_none s.list0.list_entry
    && nat_lt s.list0.num_ref_idx_active s.num_pic_total_curr in
    let k = s.list0.num_ref_idx_active - 1 in
    ap (λ x. cond test (x ++ Some CurrentPicture ∷ []) (map (raise_place n) l)) (take-map (raise_place n) k l)
    ∙ ap (λ x. cond test x (map (raise_place n) l))
    (sym (map-append (raise_place n) (take k l) (Some CurrentPicture ∷ [])))
    ∙ cond-over (map (raise_place n)) test (take k l ++ Some CurrentPicture ∷ []) l

pub list0-raised : (n : ℕ) (set : RefPicSet) (s : Slice)
    → ref_pic_list0 (raise_set n set) s ≡ map (raise_place n) (ref_pic_list0 set s)
unfolding ref_pic_list0
list0-raised n set s = by_type s.slice_type
  where
    whole : with_current s (list_places s.list0 (base0 (raise_set n set) s)) ≡ map (raise_place n)
        (with_current s (list_places s.list0 (base0 set s)))
    whole = ap (λ l. with_current s (list_places s.list0 l))
        (base-raised n s set.st_curr_before set.st_curr_after set.lt_curr)
        ∙ ap (with_current s) (places-raised n s.list0 (base0 set s))
        ∙ with_current-raised n s (list_places s.list0 (base0 set s))

    by_type : (t : SliceType) → list0_for t (raise_set n set) s ≡ map (raise_place n) (list0_for t set s)
    by_type I = refl
    by_type B = whole
    by_type P = whole

pub list1-raised : (n : ℕ) (set : RefPicSet) (s : Slice)
    → ref_pic_list1 (raise_set n set) s ≡ map (raise_place n) (ref_pic_list1 set s)
unfolding ref_pic_list1
list1-raised n set s = by_type s.slice_type
  where
    by_type : (t : SliceType) → list1_for t (raise_set n set) s ≡ map (raise_place n) (list1_for t set s)
    by_type B = ap (list_places s.list1) (base-raised n s set.st_curr_after set.st_curr_before set.lt_curr)
        ∙ places-raised n s.list1 (base1 set s)
    by_type P = refl
    by_type I = refl
