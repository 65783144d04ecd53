-- Entries that a reference picture set names, and marks.
use Rattle.std.proofs.Common.{◌≡◌, ◌≢◌, ◌⊎◌, inl, inr, ⊎_elim, ℕ, Bool, true, false, cond, not}
use Rattle.std.proofs.Common.{◌&&◌, ◌||◌, eqb, List, [], ◌∷◌, ◌++◌, map, filter, refl, sym, ap, ◌∙◌}
use Rattle.std.proofs.Common.{subst, arith}
use Rattle.std.specs.Prelude.{Option, Some, None, All}
use Rattle.std.proofs.lemmas.List.Elements.{All-cons}
use Rattle.std.proofs.lemmas.Bool.Decides.{nat_tests}
use Rattle.hevc_spec.specs.UnitTypes.{is_idr}
use Rattle.hevc_walk.specs.Meanings.{Slice, ShortTermMember, LongTermMember, ShortTermRefPicSet}
use Rattle.hevc_walk.specs.Pictures.{Head}
use Rattle.hevc_walk.specs.Buffer.{Buffer, Entry, Mark, Unused, ShortTerm, LongTerm, is_reference}
use Rattle.hevc_walk.specs.ReferenceSets.{names, first_number, is_short_term, short_term_entry}
use Rattle.hevc_walk.specs.ReferenceSets.{long_term_entry, no_references, all_members, five_lists}
use Rattle.hevc_walk.specs.ReferenceSets.{short_term_set, reference_set, with_marks}
use Rattle.hevc_walk.specs.ReferenceSets.{references_before, with_long_term, long_term_if}
use Rattle.hevc_walk.specs.ReferenceSets.{marked_if, unmarked, is_curr_short_term}
use Rattle.hevc_walk.specs.ReferenceSets.{is_curr_long_term}
use Rattle.hevc_walk_bumps.specs.Steps.{Absent, Distinct}
use Rattle.hevc_walk_marks.specs.Marked.{has_reference, short_term_members, long_term_members}
use Rattle.hevc_walk_marks.proofs.Names.{names_append, names_split}

-- an entry of this number passes the test
abbrev pub has_fit : (Entry → Bool) → ℕ → Buffer → Bool
has_fit q n [] = false
has_fit q n (e ∷ es) = (eqb e.number n && q e) || has_fit q n es

or_cases : (a b : Bool) → (a || b) ≡ true → (a ≡ true) ⊎ (b ≡ true)
or_cases true b h = inl refl
or_cases false b h = inr h

or_left : (a b : Bool) → a ≡ true → (a || b) ≡ true
or_left true b h = refl
or_left false b h = absurd (cc h)

or_right : (a b : Bool) → b ≡ true → (a || b) ≡ true
or_right true b h = refl
or_right false b h = h

same_number : (n : ℕ) → eqb n n ≡ true
same_number n = grind (arith, nat_tests)

equal : (m n : ℕ) → eqb m n ≡ true → m ≡ n
equal m n h = grind (arith, nat_tests)

other : (m n : ℕ) → m ≢ n → eqb m n ≡ false
other m n h = grind (arith, nat_tests)

first_fits : (p q : Entry → Bool) → ((e : Entry) → p e ≡ true → q e ≡ true) → (k : ℕ) (es : Buffer)
    → first_number p es ≡ Some k → has_fit q k es ≡ true
first_fits p q implies k [] h = absurd (cc h)
first_fits p q implies k (e ∷ es) h = by_test (first_fits p q implies k es) (p e) refl h
  where
    by_test : (first_number p es ≡ Some k → has_fit q k es ≡ true) → (b : Bool) → p e ≡ b
        → cond b (Some e.number) (first_number p es) ≡ Some k → has_fit q k (e ∷ es) ≡ true
    by_test further true is found =
        let same : e.number ≡ k = cc in
        or_left (eqb e.number k && q e) (has_fit q k es) (ap (λ x. eqb x k && q e) same
        ∙ ap (λ b. b && q e) (same_number k) ∙ implies e is)
    by_test further false is found = or_right (eqb e.number k && q e) (has_fit q k es) (further found)

named_fits : {M : Type 0} (f : M → Option ℕ) (q : Entry → Bool) (es : Buffer)
    → ((m : M) (k : ℕ) → f m ≡ Some k → has_fit q k es ≡ true) → (n : ℕ) (ms : List M)
    → names n (map f ms) ≡ true → has_fit q n es ≡ true
named_fits f q es found n [] h = absurd (cc h)
named_fits f q es found n (m ∷ ms) h = by_member (named_fits f q es found n ms) (f m) refl h
  where
    by_member : (names n (map f ms) ≡ true → has_fit q n es ≡ true) → (o : Option ℕ) → f m ≡ o
        → names n (o ∷ map f ms) ≡ true → has_fit q n es ≡ true
    by_member further None is named = further named
    by_member further (Some k) is named =
        ⊎_elim (λ same. subst (λ (x : ℕ). has_fit q x es ≡ true) (equal k n same) (found m k is))
        (λ rest. further rest) (or_cases (eqb k n) (names n (map f ms)) named)

and_first : (a b : Bool) → (a && b) ≡ true → a ≡ true
and_first true b h = refl
and_first false b h = absurd (cc h)

short_fits : (p : Head) (es : Buffer) (n : ℕ) (ms : List ShortTermMember)
    → names n (map (short_term_entry p es) ms) ≡ true → has_fit (λ e. is_short_term e.mark) n es ≡ true
short_fits p es n ms h = named_fits (short_term_entry p es) (λ e. is_short_term e.mark) es
    (λ m k is. first_fits _ (λ e. is_short_term e.mark) (λ e t. and_first (is_short_term e.mark) _ t) k es is) n ms h

long_fits : (p : Head) (first : Slice) (es : Buffer) (n : ℕ) (ms : List LongTermMember)
    → names n (map (long_term_entry p first es) ms) ≡ true → has_fit (λ e. is_reference e.mark) n es ≡ true
long_fits p first es n ms h = named_fits (long_term_entry p first es) (λ e. is_reference e.mark) es
    (λ m k is. first_fits _ (λ e. is_reference e.mark) (λ e t. and_first (is_reference e.mark) _ t) k es is) n ms h

short_is_reference : (m : Mark) → is_short_term m ≡ true → is_reference m ≡ true
short_is_reference Unused h = absurd (cc h)
short_is_reference ShortTerm h = refl
short_is_reference LongTerm h = absurd (cc h)

and_both : (a b c : Bool) → (b ≡ true → c ≡ true) → (a && b) ≡ true → (a && c) ≡ true
and_both true b c f h = f h
and_both false b c f h = h

weaker : (q r : Entry → Bool) → ((e : Entry) → q e ≡ true → r e ≡ true) → (n : ℕ) (es : Buffer)
    → has_fit q n es ≡ true → has_fit r n es ≡ true
weaker q r implies n [] h = h
weaker q r implies n (e ∷ es) h =
    ⊎_elim (λ here. or_left (eqb e.number n && r e) (has_fit r n es)
    (and_both (eqb e.number n) (q e) (r e) (implies e) here))
    (λ there. or_right (eqb e.number n && r e) (has_fit r n es) (weaker q r implies n es there))
    (or_cases (eqb e.number n && q e) (has_fit q n es) h)

-- long-term members stay references
long_term_by : (b : Bool) (e : Entry) → is_reference e.mark ≡ true
    → is_reference (cond b (record e { mark = LongTerm }) e).mark ≡ true
long_term_by true e h = refl
long_term_by false e h = h

number_by : (b : Bool) (e : Entry) → (cond b (record e { mark = LongTerm }) e).number ≡ e.number
number_by true e = refl
number_by false e = refl

long_term_fits : (ms : List (Option ℕ)) (n : ℕ) (es : Buffer)
    → has_fit (λ e. is_reference e.mark) n es ≡ true
    → has_fit (λ e. is_reference e.mark) n (map (long_term_if ms) es) ≡ true
long_term_fits ms n [] h = h
long_term_fits ms n (e ∷ es) h =
    ap (λ x. (eqb x n && is_reference (long_term_if ms e).mark) || has_fit
    (λ x. is_reference x.mark) n (map (long_term_if ms) es)) (number_by (names e.number ms) e)
    ∙ ⊎_elim (λ here. or_left (eqb e.number n && is_reference (long_term_if ms e).mark) _
    (and_both (eqb e.number n) (is_reference e.mark) (is_reference (long_term_if ms e).mark)
    (long_term_by (names e.number ms) e) here))
    (λ there. or_right (eqb e.number n && is_reference (long_term_if ms e).mark) _
    (long_term_fits ms n es there))
    (or_cases (eqb e.number n && is_reference e.mark) (has_fit (λ x. is_reference x.mark) n es) h)

-- and aren't short-term ones
no_short_by : (b : Bool) (n : ℕ) (e : Entry) → (eqb e.number n ≡ true → b ≡ true)
    → (eqb (cond b (record e { mark = LongTerm }) e).number n && is_short_term
    (cond b (record e { mark = LongTerm }) e).mark) ≡ false
no_short_by true n e h = by_test (eqb e.number n)
  where
    by_test : (a : Bool) → (a && false) ≡ false
    by_test true = refl
    by_test false = refl
no_short_by false n e h = by_test (eqb e.number n) refl
  where
    by_test : (a : Bool) → eqb e.number n ≡ a → (a && is_short_term e.mark) ≡ false
    by_test true is = absurd (cc (h is))
    by_test false is = refl

no_short : (ms : List (Option ℕ)) (n : ℕ) → names n ms ≡ true → (es : Buffer)
    → has_fit (λ e. is_short_term e.mark) n (map (long_term_if ms) es) ≡ false
no_short ms n named [] = refl
no_short ms n named (e ∷ es) =
    ap (λ b. b || has_fit (λ x. is_short_term x.mark) n (map (long_term_if ms) es))
    (no_short_by (names e.number ms) n e (λ is. ap (λ x. names x ms) (equal e.number n is) ∙ named))
    ∙ no_short ms n named es

-- what is named keeps its mark
kept_by : (b : Bool) (n : ℕ) (e : Entry) → (eqb e.number n ≡ true → b ≡ true)
    → (eqb e.number n && is_reference e.mark) ≡ true
    → (eqb (cond b e (unmarked e)).number n && is_reference (cond b e (unmarked e)).mark) ≡ true
kept_by true n e h is = is
kept_by false n e h is = absurd (cc (h (and_first (eqb e.number n) (is_reference e.mark) is)))

kept_fits : (ms : List (Option ℕ)) (n : ℕ) → names n ms ≡ true → (es : Buffer)
    → has_fit (λ e. is_reference e.mark) n es ≡ true → has_reference n (map (marked_if ms) es) ≡ true
kept_fits ms n named [] h = h
kept_fits ms n named (e ∷ es) h =
    ⊎_elim (λ here. or_left _ (has_reference n (map (marked_if ms) es))
    (kept_by (names e.number ms) n e (λ is. ap (λ x. names x ms) (equal e.number n is) ∙ named) here))
    (λ there. or_right (eqb (marked_if ms e).number n && is_reference (marked_if ms e).mark)
    (has_reference n (map (marked_if ms) es)) (kept_fits ms n named es there))
    (or_cases (eqb e.number n && is_reference e.mark) (has_fit (λ x. is_reference x.mark) n es) h)

-- ---- the set of a picture

module _ (p : Head) (first : Slice) (set : ShortTermRefPicSet) (es : Buffer) where
  long_named : (n : ℕ)
      → names n (long_term_members (five_lists p first set es (with_long_term p first es))) ≡ names n
      (map (long_term_entry p first es) first.long_term_pics)
  long_named n =
      names_append n (map (long_term_entry p first es) (filter is_curr_long_term first.long_term_pics))
      (map (long_term_entry p first es) (filter (λ m. not (is_curr_long_term m)) first.long_term_pics))
      ∙ names_split n (long_term_entry p first es) is_curr_long_term first.long_term_pics

  short_named : (n : ℕ)
      → names n (short_term_members (five_lists p first set es (with_long_term p first es))) ≡ true
      → has_fit (λ e. is_short_term e.mark) n (with_long_term p first es) ≡ true
  short_named n h =
      let before = map (short_term_entry p (with_long_term p first es)) (filter is_curr_short_term set.negative_pics) in
      let after = map (short_term_entry p (with_long_term p first es)) (filter is_curr_short_term set.positive_pics) in
      let foll = map (short_term_entry p (with_long_term p first es))
      (filter (λ m. not (is_curr_short_term m)) (set.negative_pics ++ set.positive_pics)) in
      ⊎_elim (λ a. ⊎_elim
      (λ b. short_fits p (with_long_term p first es) n (filter is_curr_short_term set.negative_pics) b)
      (λ b. short_fits p (with_long_term p first es) n (filter is_curr_short_term set.positive_pics) b)
      (or_cases (names n before) (names n after) (sym (names_append n before after) ∙ a)))
      (λ a. short_fits p (with_long_term p first es) n
      (filter (λ m. not (is_curr_short_term m)) (set.negative_pics ++ set.positive_pics)) a)
      (or_cases (names n (before ++ after)) (names n foll) (sym (names_append n (before ++ after) foll) ∙ h))

  long_member : (n : ℕ) → names n (map (long_term_entry p first es) first.long_term_pics) ≡ true
      → has_fit (λ e. is_reference e.mark) n (with_long_term p first es) ≡ true
  long_member n h = long_term_fits (map (long_term_entry p first es) first.long_term_pics) n es
      (long_fits p first es n first.long_term_pics h)

  -- a named picture is used for reference, as the set is derived
  pub member_fits : (n : ℕ)
      → names n (all_members (five_lists p first set es (with_long_term p first es))) ≡ true
      → has_fit (λ e. is_reference e.mark) n (with_long_term p first es) ≡ true
  member_fits n h =
      let s = five_lists p first set es (with_long_term p first es) in
      let st = short_term_members s in
      ⊎_elim (λ a. ⊎_elim
      (λ b. weaker (λ e. is_short_term e.mark) (λ e. is_reference e.mark)
      (λ e. short_is_reference e.mark) n (with_long_term p first es) (short_named n b))
      (λ b. long_member n
      (sym (long_named n)
      ∙ (names_append n s.lt_curr s.lt_foll ∙ or_left (names n s.lt_curr) (names n s.lt_foll) b)))
      (or_cases (names n st) (names n s.lt_curr) (sym (names_append n st s.lt_curr) ∙ a)))
      (λ a. long_member n
      (sym (long_named n) ∙ (names_append n s.lt_curr s.lt_foll ∙ or_right (names n s.lt_curr) (names n s.lt_foll) a)))
      (or_cases (names n (st ++ s.lt_curr)) (names n s.lt_foll) (sym (names_append n (st ++ s.lt_curr) s.lt_foll) ∙ h))

  pub members_apart : (n : ℕ)
      → names n (short_term_members (five_lists p first set es (with_long_term p first es))) ≡ true
      → names n (long_term_members (five_lists p first set es (with_long_term p first es))) ≡ false
  members_apart n h = by_test (names n (map (long_term_entry p first es) first.long_term_pics)) refl
    where
      by_test : (b : Bool) → names n (map (long_term_entry p first es) first.long_term_pics) ≡ b
          → names n (long_term_members (five_lists p first set es (with_long_term p first es))) ≡ false
      by_test true named =
          absurd (let a = short_named n h in
          let b = no_short (map (long_term_entry p first es) first.long_term_pics) n named es in cc)
      by_test false named = long_named n ∙ named

-- ---- one entry of a number

Each : (Entry → Type 0) → Buffer → Type 0
Each P [] = Unit {0}
Each P (e ∷ es) = P e × Each P es

each_more : (P Q : Entry → Type 0) → ((e : Entry) → P e → Q e) → (es : Buffer) → Each P es → Each Q es
unfolding Each
each_more P Q f [] h = tt
each_more P Q f (e ∷ es) h = (f e h.0, each_more P Q f es h.1)

each_all : (P : Entry → Type 0) (es : Buffer) → Each P es → All P es
unfolding Each
each_all P [] h = λ k d lt. absurd (omega arith)
each_all P (e ∷ es) h = All-cons P e es h.0 (each_all P es h.1)

no_fit : (q : Entry → Bool) (n : ℕ) (es : Buffer) → Absent n es → has_fit q n es ≡ false
no_fit q n [] h = refl
no_fit q n (e ∷ es) h = ap (λ b. (b && q e) || has_fit q n es) (other e.number n h.0) ∙ no_fit q n es h.1

-- where numbers differ, a fit for an entry's number is that entry
Alone : (Entry → Bool) → Buffer → Entry → Type 0
Alone q all e = has_fit q e.number all ≡ true → q e ≡ true

or_false : (a b : Bool) → b ≡ false → (a || b) ≡ true → a ≡ true
or_false true b h k = refl
or_false false b h k = absurd (cc (sym h ∙ k))

differ : (n : ℕ) (es : Buffer) → Absent n es → Each (λ e. e.number ≢ n) es
unfolding Each
differ n [] h = tt
differ n (e ∷ es) h = (h.0, differ n es h.1)

each_both : (P Q : Entry → Type 0) (es : Buffer) → Each P es → Each Q es → Each (λ e. P e × Q e) es
unfolding Each
each_both P Q [] a b = tt
each_both P Q (e ∷ es) a b = ((a.0, b.0), each_both P Q es a.1 b.1)

alone : (q : Entry → Bool) (es : Buffer) → Distinct es → Each (Alone q es) es
unfolding Each Alone
alone q [] d = tt
alone q (e ∷ es) d = (
  λ fits. by_own (or_false (eqb e.number e.number && q e) (has_fit q e.number es) (no_fit q e.number es d.0) fits),
  each_more (λ x. (x.number ≢ e.number) × (has_fit q x.number es ≡ true → q x ≡ true))
      (λ x. has_fit q x.number (e ∷ es) ≡ true → q x ≡ true)
      (λ x h fits. h.1
      (sym (ap (λ b. (b && q e) || has_fit q x.number es)
      (other e.number x.number (λ same. h.0 (sym same)))) ∙ fits)) es (each_both (λ x. x.number ≢ e.number)
      (λ x. has_fit q x.number es ≡ true → q x ≡ true) es (differ e.number es d.0) (alone q es d.1)),
)
  where
    by_own : (eqb e.number e.number && q e) ≡ true → q e ≡ true
    by_own h = sym (ap (λ b. b && q e) (same_number e.number)) ∙ h

each_map : (P : Entry → Type 0) (f : Entry → Entry) (es : Buffer) → Each (λ e. P (f e)) es → Each P (map f es)
unfolding Each
each_map P f [] h = tt
each_map P f (e ∷ es) h = (h.0, each_map P f es h.1)

exactly_one : (ms : List (Option ℕ)) (es : Buffer)
    → ((n : ℕ) → names n ms ≡ true → has_fit (λ e. is_reference e.mark) n es ≡ true) → (e : Entry)
    → Alone (λ x. is_reference x.mark) es e → is_reference (marked_if ms e).mark ≡ names (marked_if ms e).number ms
unfolding Alone
exactly_one ms es fits e only = by_test (names e.number ms) refl
  where
    by_test : (b : Bool) → names e.number ms ≡ b
        → is_reference (cond b e (unmarked e)).mark ≡ names (cond b e (unmarked e)).number ms
    by_test true is = only (fits e.number is) ∙ sym is
    by_test false is = sym is

pub exactly_by : (ms : List (Option ℕ)) (es : Buffer) → Distinct es
    → ((n : ℕ) → names n ms ≡ true → has_fit (λ e. is_reference e.mark) n es ≡ true)
    → All (λ e. is_reference e.mark ≡ names e.number ms) (map (marked_if ms) es)
exactly_by ms es distinct fits =
    each_all (λ e. is_reference e.mark ≡ names e.number ms) (map (marked_if ms) es)
    (each_map (λ e. is_reference e.mark ≡ names e.number ms) (marked_if ms) es
    (each_more (Alone (λ x. is_reference x.mark) es)
    (λ e. is_reference (marked_if ms e).mark ≡ names (marked_if ms e).number ms) (exactly_one ms es fits) es
    (alone (λ x. is_reference x.mark) es distinct)))

absent_map : (f : Entry → Entry) → ((e : Entry) → (f e).number ≡ e.number) → (n : ℕ) (es : Buffer)
    → Absent n es → Absent n (map f es)
absent_map f same n [] h = tt
absent_map f same n (e ∷ es) h = (λ is. h.0 (sym (same e) ∙ is), absent_map f same n es h.1)

distinct_map : (f : Entry → Entry) → ((e : Entry) → (f e).number ≡ e.number) → (es : Buffer) → Distinct es
    → Distinct (map f es)
distinct_map f same [] d = tt
distinct_map f same (e ∷ es) d = (
  subst (λ (n : ℕ). Absent n (map f es)) (sym (same e)) (absent_map f same e.number es d.0),
  distinct_map f same es d.1,
)

module _ (p : Head) (first : Slice) (es : Buffer) where
  set_by : (b : Bool) → is_idr p.nal_unit_type ≡ b
      → reference_set p first es ≡ cond b no_references
      (five_lists p first (short_term_set first) (references_before p es)
      (with_long_term p first (references_before p es)))
  unfolding reference_set
  set_by b is =
      ap (λ x. cond x no_references
      (five_lists p first (short_term_set first) (references_before p es)
      (with_long_term p first (references_before p es)))) is

  marks_by : with_marks p first es ≡ map (marked_if (all_members (reference_set p first es)))
      (with_long_term p first (references_before p es))
  unfolding with_marks
  marks_by = refl

  pub set_fits : (n : ℕ) → names n (all_members (reference_set p first es)) ≡ true
      → has_fit (λ e. is_reference e.mark) n (with_long_term p first (references_before p es)) ≡ true
  set_fits n h = by_test (is_idr p.nal_unit_type) refl
    where
      by_test : (b : Bool) → is_idr p.nal_unit_type ≡ b
          → has_fit (λ e. is_reference e.mark) n (with_long_term p first (references_before p es)) ≡ true
      by_test true is = absurd (let e = ap (λ s. names n (all_members s)) (set_by true is) in cc (sym e ∙ h))
      by_test false is =
          member_fits p first (short_term_set first) (references_before p es) n
          (sym (ap (λ s. names n (all_members s)) (set_by false is)) ∙ h)

  pub each_marked : (n : ℕ) → names n (all_members (reference_set p first es)) ≡ true
      → has_reference n (with_marks p first es) ≡ true
  each_marked n h = ap (has_reference n) marks_by ∙ kept_fits (all_members (reference_set p first es)) n h
      (with_long_term p first (references_before p es)) (set_fits n h)

  before_by : (b : Bool) → Distinct es → Distinct (cond b (map unmarked es) es)
  before_by true d = distinct_map unmarked (λ e. refl) es d
  before_by false d = d

  pub exactly_marked : Distinct es
      → All (λ e. is_reference e.mark ≡ names e.number (all_members (reference_set p first es))) (with_marks p first es)
  exactly_marked d =
      subst (All (λ e. is_reference e.mark ≡ names e.number (all_members (reference_set p first es)))) (sym marks_by)
      (exactly_by (all_members (reference_set p first es)) (with_long_term p first (references_before p es))
      (distinct_map
      (long_term_if (map (long_term_entry p first (references_before p es)) first.long_term_pics))
      (λ e. number_by
      (names e.number (map (long_term_entry p first (references_before p es)) first.long_term_pics)) e)
      (references_before p es) (before_by p.starts_sequence d)) set_fits)

  pub kinds_apart : (n : ℕ) → names n (short_term_members (reference_set p first es)) ≡ true
      → names n (long_term_members (reference_set p first es)) ≡ false
  kinds_apart n h = by_test (is_idr p.nal_unit_type) refl
    where
      by_test : (b : Bool) → is_idr p.nal_unit_type ≡ b → names n (long_term_members (reference_set p first es)) ≡ false
      by_test true is = ap (λ s. names n (long_term_members s)) (set_by true is)
      by_test false is = ap (λ s. names n (long_term_members s)) (set_by false is)
          ∙ members_apart p first (short_term_set first) (references_before p es) n
          (sym (ap (λ s. names n (short_term_members s)) (set_by false is)) ∙ h)
