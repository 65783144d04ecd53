-- How many flags of row 5 of table 7 are set in lines.
use Rattle.std.proofs.Common.{◌≡◌, ℕ, zero, suc, ◌+◌, ◌≤◌, Bool, true, false, eqb, List, [], ◌∷◌}
use Rattle.std.proofs.Common.{◌++◌, refl, sym, ap, ap₂, subst, ◌∙◌, append-nil, append_assoc, arith}
use Rattle.std.specs.Prelude.{◌&&◌, if◌then◌else◌}
use Rattle.std.proofs.lemmas.Bool.{eqb-true}
use Rattle.hevc_spec.specs.declared.Row.{Row}
use Rattle.hevc_spec.specs.Bits.{Form, Found, found, out_of_bounds, ended, form_at}
use Rattle.hevc_spec.specs.Table.{Table, done, missing, element, sized, part, Reading, gives, refuses, read}
use Rattle.hevc_spec.specs.Rows.{when, either, repeat}
use Rattle.hevc_spec.specs.Lines.{Line, HasLines, AreGood, joined}
use Rattle.hevc_reading_laws.proofs.FormLaws.{form_spelled}
use Rattle.hevc_reading_laws.proofs.TableLaws.{joined-append, AreGood-front, AreGood-rest, read_lines}
use Rattle.hevc_write_elements.specs.Choices.{IsFormed, IsFilled, is_row, skipped, flags_of_row, set_flags}

-- flags of lines that follow one another add up
pub set_flags-append : (a b : List Line) → set_flags (a ++ b) ≡ set_flags a + set_flags b
unfolding set_flags
set_flags-append [] b = omega arith
set_flags-append (l ∷ a) b = omega (arith, set_flags-append a b)

-- no more in lines of two parts
pub fewer_joined : (a b c d lines : List Line) → lines ≡ c ++ d → set_flags a ≤ set_flags c
    → set_flags b ≤ set_flags d → set_flags (a ++ b) ≤ set_flags lines
fewer_joined a b c d lines e p q = omega (arith, set_flags-append a b, set_flags-append c d, ap set_flags e, p, q)

-- no lines have no flags that are set
pub none_first : (lines : List Line) → set_flags [] ≤ set_flags lines
unfolding set_flags
none_first lines = omega arith

-- ---- one line

-- one line in place of another with no fewer flags
pub one_fewer : (m l : Line) (lines : List Line) → lines ≡ l ∷ []
    → flags_of_row m.head.row m.value ≤ flags_of_row l.head.row l.value → set_flags (m ∷ []) ≤ set_flags lines
unfolding set_flags
one_fewer m l lines e fewer = omega (arith, fewer, ap set_flags e)

-- the flags of one line
pub one_line : (l : Line) (lines : List Line) → lines ≡ l ∷ [] → set_flags lines ≡ flags_of_row l.head.row l.value
unfolding set_flags
one_line l lines e = ap set_flags e ∙ omega arith

-- the flags of no lines
pub no_lines : (lines : List Line) → lines ≡ [] → set_flags lines ≡ 0
unfolding set_flags
no_lines lines e = ap set_flags e

-- a value has as many flags as itself
pub as_many : (r : Row) (v : ℕ) → flags_of_row r v ≤ flags_of_row r v
as_many r v = omega arith

-- a value without flags has no more than any other
pub none_more : (r : Row) (n v : ℕ) → flags_of_row r n ≡ 0 → flags_of_row r n ≤ flags_of_row r v
none_more r n v e = omega (arith, e)

-- 0 is no flag that is set
pub zero_counts_none : (r : Row) → flags_of_row r 0 ≡ 0
zero_counts_none r = by_test (is_row r 7 5)
  where
    by_test : (t : Bool) → ◌≡◌ {A = ℕ} (if t && false then 1 else 0) 0
    by_test true = refl
    by_test false = refl

-- no row but 5 of table 7 has such flags
pub other_counts_none : (r : Row) (v : ℕ) → is_row r 7 5 ≡ false → flags_of_row r v ≡ 0
other_counts_none r v e = rw e refl

-- what is not kept has none
pub skipped_counts_none : (r : Row) (n : ℕ) → flags_of_row r (skipped r n) ≡ 0
skipped_counts_none r n = by_table (eqb r.0 7) refl
  where
    by_table : (t : Bool) → eqb r.0 7 ≡ t → flags_of_row r (skipped r n) ≡ 0
    by_table false e = other_counts_none r (skipped r n) (rw e refl)
    by_table true e =
        let none : skipped r n ≡ 0 = rw (eqb-true r.0 7 e) refl in
        ap (flags_of_row r) none ∙ zero_counts_none r

-- ---- tables without that row

-- none are set in lines of the table
pub record SetsNone {A : Type 0} (t : Table A) : Type 0 where
  pub none : (x : A) (lines : List Line) → HasLines t x lines → set_flags lines ≡ 0

-- so what is written for them has no more
pub none_filled : {A : Type 0} {t : Table A} {x : A} {bits : List Bool} → SetsNone t → IsFormed t x bits
    → (lines : List Line) → IsFilled t x lines bits
none_filled {x = x} sets formed lines = record {
  formed = formed;
  fewer = omega (arith, sets.none x formed.lines formed.has);
}

-- a table without rows sets none
pub done_none : {A : Type 0} {x : A} → SetsNone (done x)
done_none = record { none = λ y lines has. no_lines lines has.1 }

-- nor does a row of another table
pub element_none : {A : Type 0} (r : Row) (form : Form) (allowed : ℕ → Bool) (value : ℕ → A)
    → is_row r 7 5 ≡ false → SetsNone (element r form allowed value)
element_none r form allowed value other = record {
  none = λ y lines has. one_line _ lines has.3 ∙ other_counts_none r has.0 other;
}

-- nor do two parts of which none does
pub then_none : {A B : Type 0} {t : Table A} {k : A → Table B} → SetsNone t → ((x : A) → SetsNone (k x))
    → SetsNone (part t k)
then_none first second = record {
  none = λ y lines has. omega (
    arith,
    ap set_flags has.5,
    set_flags-append has.1 has.2,
    first.none has.0 has.1 has.3,
    (second has.0).none y has.2 has.4,
  );
}

-- nor does such a part under a condition
pub when_none : {A : Type 0} {t : Table A} (c : Bool) (absent : A) → SetsNone t → SetsNone (when c absent t)
unfolding when
when_none true absent there = there
when_none false absent there = done_none

-- nor does one of two such parts
pub either_none : {A : Type 0} {t s : Table A} (c : Bool) → SetsNone t → SetsNone s → SetsNone (either c t s)
unfolding either
either_none true first second = first
either_none false first second = second

-- nor do turns of which none does
pub turns_none : {S : Type 0} {body : ℕ → S → Table S} → ((i : ℕ) (s : S) → SetsNone (body i s))
    → (i n : ℕ) (s : S) → SetsNone (repeat body i n s)
unfolding repeat
turns_none each i zero s = done_none
turns_none each i (suc n) s = then_none (each i s) (λ next. turns_none each (i + 1) n next)

-- ---- bits tell how many are set

abbrev flags_found : Row → Found → ℕ
flags_found r (found v rest) = flags_of_row r v
flags_found r out_of_bounds = 0
flags_found r ended = 0

abbrev flags_after : {A : Type 0} → Reading A → (A → List Bool → ℕ) → ℕ
flags_after (gives x rest) k = k x rest
flags_after (refuses f rest) k = 0

abbrev flags_read : {A : Type 0} → Table A → List Bool → ℕ
flags_read (done x) bits = 0
flags_read (missing row id) bits = 0
flags_read (element row form allowed value) bits = flags_found row (form_at form bits)
flags_read (sized t f) bits = flags_read t bits
flags_read (part t k) bits = flags_read t bits + flags_after (read t bits) (λ x rest. flags_read (k x) rest)

-- the flags that are read are those of the lines
flags_are_read : {A : Type 0} (t : Table A) (x : A) (lines : List Line) (rest : List Bool)
    → HasLines t x lines → AreGood lines → flags_read t (joined lines ++ rest) ≡ set_flags lines
flags_are_read (done x) y lines rest has good = sym (no_lines lines has.1)
flags_are_read (missing row id) y lines rest has good = absurd has
flags_are_read (element row form allowed value) y lines rest has good =
    let l : Line = record {
      head = record { row = row; form = form; allowed = allowed };
      value = has.0;
      bits = has.1;
    } in
    let here : AreGood (l ∷ []) = subst AreGood has.3 good in
    let at : form_at form (has.1 ++ rest) ≡ found has.0 rest = form_spelled form has.0 has.1 rest here.0.1 in
    let all : joined lines ++ rest ≡ has.1 ++ rest = ap (λ (ls : List Line). joined ls ++ rest) has.3
    ∙ ap (λ (b : List Bool). b ++ rest) (append-nil has.1) in
    let count : set_flags lines ≡ flags_of_row row has.0 = one_line l lines has.3 in
    rw (all, at, count) refl
flags_are_read (sized t f) y lines rest has good = flags_are_read t has.0 lines rest has.1 good
flags_are_read (part t k) y lines rest has good =
    let first = has.1 in
    let others = has.2 in
    let good_all : AreGood (first ++ others) = subst AreGood has.5 good in
    let all : joined lines ++ rest ≡ joined first ++ (joined others ++ rest) =
    ap (λ (ls : List Line). joined ls ++ rest) has.5
    ∙ ap (λ (b : List Bool). b ++ rest) (joined-append first others)
    ∙ append_assoc (joined first) (joined others) rest in
    let good_first = AreGood-front first others good_all in
    let e = read_lines t has.0 first (joined others ++ rest) has.3 good_first in
    let f = flags_are_read t has.0 first (joined others ++ rest) has.3 good_first in
    let o = flags_are_read (k has.0) y others rest has.4 (AreGood-rest first others good_all) in
    let count : set_flags lines ≡ set_flags first + set_flags others =
    ap set_flags has.5 ∙ set_flags-append first others in
    rw (all, e, f, o, count) refl

-- so lines of a table with the same bits have as many
pub same_set : {A : Type 0} (t : Table A) (x y : A) (a b : List Line) → HasLines t x a → AreGood a
    → HasLines t y b → AreGood b → joined a ≡ joined b → set_flags a ≡ set_flags b
same_set t x y a b has_a good_a has_b good_b e =
    sym (flags_are_read t x a [] has_a good_a) ∙ ap (λ (bits : List Bool). flags_read t (bits ++ [])) e
    ∙ flags_are_read t y b [] has_b good_b
