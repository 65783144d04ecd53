-- What is found of a reference picture set is what the walk says of it.
use Rattle.std.proofs.Common.{◌≡◌, ℕ, Bool, true, false, cond, not, ◌||◌, List, [], ◌∷◌, ◌++◌, map}
use Rattle.std.proofs.Common.{filter, refl, sym, ap, ◌∙◌}
use Rattle.std.specs.Prelude.{Option}
use Rattle.hevc_spec.specs.UnitTypes.{is_idr}
use Rattle.hevc_walk.specs.Meanings.{Slice, ShortTermMember, ShortTermRefPicSet}
use Rattle.hevc_walk.specs.Pictures.{Head}
use Rattle.hevc_walk.specs.Buffer.{Buffer, Entry, LongTerm}
use Rattle.hevc_walk.specs.ReferenceSets.{RefPicSet, names, no_references, all_members}
use Rattle.hevc_walk.specs.ReferenceSets.{reference_set, with_marks, references_before, five_lists}
use Rattle.hevc_walk.specs.ReferenceSets.{short_term_set, short_term_entry, long_term_entry}
use Rattle.hevc_walk.specs.ReferenceSets.{long_term_if, with_long_term, marked_if, unmarked}
use Rattle.hevc_walk.specs.ReferenceSets.{is_curr_short_term, is_curr_long_term}
use Rattle.hevc_walk_marks.proofs.Names.{names_append, names_split}

long_term_same : (xs ys : List (Option ℕ)) → ((n : ℕ) → names n xs ≡ names n ys) → (es : Buffer)
    → map (long_term_if xs) es ≡ map (long_term_if ys) es
long_term_same xs ys same [] = refl
long_term_same xs ys same (e ∷ es) =
    ap (λ b. cond b (record e { mark = LongTerm }) e ∷ map (long_term_if xs) es) (same e.number)
    ∙ ap (λ (l : Buffer). long_term_if ys e ∷ l) (long_term_same xs ys same es)

-- the found members mark as all of them do
pub marked_long_term : (p : Head) (first : Slice) (es : Buffer) (xs ys : List (Option ℕ))
    → xs ≡ map (long_term_entry p first es) (filter is_curr_long_term first.long_term_pics)
    → ys ≡ map (long_term_entry p first es) (filter (λ m. not (is_curr_long_term m)) first.long_term_pics)
    → map (long_term_if (xs ++ ys)) es ≡ with_long_term p first es
marked_long_term p first es xs ys is_curr is_foll =
    long_term_same (xs ++ ys) (map (long_term_entry p first es) first.long_term_pics)
    (λ n. names_append n xs ys ∙ ap (λ l. names n l || names n ys) is_curr
    ∙ ap (λ l. names n (map (long_term_entry p first es) (filter is_curr_long_term first.long_term_pics))
    || names n l) is_foll ∙ names_split n (long_term_entry p first es) is_curr_long_term first.long_term_pics) es

pub lists_are : (p : Head) (first : Slice) (set : ShortTermRefPicSet) (es marked : Buffer)
    (before after foll lt_curr lt_foll : List (Option ℕ))
    → before ≡ map (short_term_entry p marked) (filter is_curr_short_term set.negative_pics)
    → after ≡ map (short_term_entry p marked) (filter is_curr_short_term set.positive_pics)
    → foll ≡ map (short_term_entry p marked)
    (filter (λ m. not (is_curr_short_term m)) (set.negative_pics ++ set.positive_pics))
    → lt_curr ≡ map (long_term_entry p first es) (filter is_curr_long_term first.long_term_pics)
    → lt_foll ≡ map (long_term_entry p first es) (filter (λ m. not (is_curr_long_term m)) first.long_term_pics)
    → record {
      st_curr_before = before;
      st_curr_after = after;
      st_foll = foll;
      lt_curr = lt_curr;
      lt_foll = lt_foll;
    } ≡ five_lists p first set es marked
lists_are p first set es marked before after foll lt_curr lt_foll a b c d e =
    ap (λ l. record {
      st_curr_before = l;
      st_curr_after = after;
      st_foll = foll;
      lt_curr = lt_curr;
      lt_foll = lt_foll;
    }) a
    ∙ ap (λ l. record (five_lists p first set es marked) {
      st_curr_after = l;
      st_foll = foll;
      lt_curr = lt_curr;
      lt_foll = lt_foll;
    }) b
    ∙ ap (λ l. record (five_lists p first set es marked) { st_foll = l; lt_curr = lt_curr; lt_foll = lt_foll }) c
    ∙ ap (λ l. record (five_lists p first set es marked) { lt_curr = l; lt_foll = lt_foll }) d
    ∙ ap (λ l. record (five_lists p first set es marked) { lt_foll = l }) e

-- members of a set, over the marked buffer
pub found_by : (p : Head) (mid marked : Buffer) (found : List (Option ℕ)) (members : ShortTermRefPicSet
    → List ShortTermMember) (s t : ShortTermRefPicSet)
    → found ≡ map (short_term_entry p mid) (members s) → mid ≡ marked → t ≡ s
    → found ≡ map (short_term_entry p marked) (members t)
found_by p mid marked found members s t is same means =
    is ∙ ap (λ (b : Buffer). map (short_term_entry p b) (members s)) same
    ∙ ap (λ (x : ShortTermRefPicSet). map (short_term_entry p marked) (members x)) (sym means)

-- ---- IDR pictures, and others

unmarked_by : (b : Bool) (e : Entry) → unmarked (cond b (record e { mark = LongTerm }) e) ≡ unmarked e
unmarked_by true e = refl
unmarked_by false e = refl

none_named : (ms : List (Option ℕ)) (es : Buffer)
    → map (marked_if (all_members no_references)) (map (long_term_if ms) es) ≡ map unmarked es
none_named ms [] = refl
none_named ms (e ∷ es) =
    ap (λ (x : Entry). x ∷ map (marked_if (all_members no_references)) (map (long_term_if ms) es))
    (unmarked_by (names e.number ms) e) ∙ ap (λ (l : Buffer). unmarked e ∷ l) (none_named ms es)

pub idr_set : (p : Head) (first : Slice) (es : Buffer) → is_idr p.nal_unit_type ≡ true
    → reference_set p first es ≡ no_references
unfolding reference_set
idr_set p first es is =
    ap (λ b. cond b no_references
    (five_lists p first (short_term_set first) (references_before p es)
    (with_long_term p first (references_before p es)))) is

pub idr_marks : (p : Head) (first : Slice) (es : Buffer) → is_idr p.nal_unit_type ≡ true
    → with_marks p first es ≡ map unmarked (references_before p es)
unfolding with_marks
idr_marks p first es is =
    ap (λ s. map (marked_if (all_members s)) (with_long_term p first (references_before p es)))
    (idr_set p first es is)
    ∙ none_named (map (long_term_entry p first (references_before p es)) first.long_term_pics) (references_before p es)

pub other_set : (p : Head) (first : Slice) (es : Buffer) → is_idr p.nal_unit_type ≡ false
    → reference_set p first es ≡ five_lists p first (short_term_set first) (references_before p es)
    (with_long_term p first (references_before p es))
unfolding reference_set
other_set p first es is =
    ap (λ b. cond b no_references
    (five_lists p first (short_term_set first) (references_before p es)
    (with_long_term p first (references_before p es)))) is

pub other_marks : (p : Head) (first : Slice) (es : Buffer) (s : RefPicSet) → s ≡ reference_set p first es
    → map (marked_if (all_members s)) (with_long_term p first (references_before p es)) ≡ with_marks p first es
unfolding with_marks
other_marks p first es s is =
    ap (λ s. map (marked_if (all_members s)) (with_long_term p first (references_before p es))) is
