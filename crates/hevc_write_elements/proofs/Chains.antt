-- Rows and parts one after another: an answer has a line for each, in the order of the table, with what the record has of it.
use Rattle.std.proofs.Common.{◌≡◌, ℕ, Bool, true, false, List, sym, ap, ◌∙◌}
use Rattle.std.specs.Prelude.{ℤ}
use Rattle.std.proofs.lemmas.Bool.{true≢false}
use Rattle.hevc_spec.specs.declared.Row.{Row}
use Rattle.hevc_spec.specs.Table.{Table, part}
use Rattle.hevc_spec.specs.Rows.{flag_row, skip_row, zero_row, bits_row, ue_row, se_row, when, either}
use Rattle.hevc_write_elements.specs.Choices.{skipped}
use Rattle.hevc_write_elements.specs.Filling.{EachFilling, Keeps, Writes, WritesTable, WritesIf}
use Rattle.hevc_write_elements.specs.Filling.{WritesEither, WritesFlag, WritesBits, WritesUe}
use Rattle.hevc_write_elements.specs.Filling.{WritesSe, WritesZeros}
use Rattle.hevc_write_elements.proofs.Fillings.{weakened, then_filled}
use Rattle.hevc_write_elements.proofs.RowRules.{IsKept, flag_written, zero_written, bits_written}
use Rattle.hevc_write_elements.proofs.RowRules.{ue_written, se_written, zeros_written}
use Rattle.hevc_write_elements.proofs.Parts.{Follows, flag_fillable, bits_fillable, ue_fillable}
use Rattle.hevc_write_elements.proofs.Parts.{se_fillable, flag_table, bits_table, ue_table}
use Rattle.hevc_write_elements.proofs.Parts.{se_table, table_written, where_present, when_written}
use Rattle.hevc_write_elements.proofs.Parts.{part_written, when_part_written, either_part_written}
pub use Rattle.hevc_write_elements.proofs.Fillings.{done_filled}

-- ---- what was written so far

-- A record that is x, and of which g has these values, tells that the bits so far are those that were written, where P holds.
pub record Reaches {A T : Type 0} (x : A) (P : Type 0) (g : A
    → T) (values : T) (bits written : List Bool) : Type 0 where
  pub reach : (s : A) → s ≡ x → g s ≡ values → P → bits ≡ written

-- nothing so far
abbrev pub NothingYet : {A : Type 0} → A → List Bool → List Bool → Type 0
NothingYet {A = A} x w old = Reaches {T = Unit {0}} x (w ≡ old) (λ (_ : A). tt) tt w old

-- before the first row
none : {A : Type 0} {x : A} {w old : List Bool} → NothingYet x w old
none = record { reach = λ s is same at. at }

-- a part, and a table, by its rows
pub writes : {A : Type 0} {p : A → Table A} {seen : A → A → A} {x : A} {old new : List Bool}
    → ((y : A) (w : List Bool) → NothingYet x w old
    → EachFilling (p y) w (λ z all. seen z x ≡ x → w ≡ old → all ≡ new)) → Writes p seen x old new
writes rows = record { written = λ y w. rows y w none }

-- the same for a whole table
pub writes_table : {A : Type 0} {t : Table A} {x : A} {old new : List Bool}
    → ((w : List Bool) → NothingYet x w old → EachFilling t w (λ z all. z ≡ x → w ≡ old → all ≡ new))
    → WritesTable t x old new
writes_table rows = record { written = λ w. rows w none }

-- one value more, which f has of the record
abbrev pub ReachesMore : {A C T : Type 0} → A → Type 0 → (A → C) → C → (A → T) → T → List Bool → List Bool → Type 0
ReachesMore {C = C} {T = T} x P f value g values bits written =
    Reaches {T = C × T} x P (λ s. (f s, g s)) (value, values) bits written

more : {A C T : Type 0} {x : A} {P : Type 0} {g : A → T} {values : T} {w old all new : List Bool} (f : A
    → C) {value : C}
    → Reaches x P g values w old → (value ≡ f x → w ≡ old → all ≡ new) → ReachesMore x P f value g values all new
more {C = C} {T = T} f so_far h = record {
  reach = λ s is same at. h (sym (ap (λ (p : C × T). p.0) same) ∙ ap f is)
      (so_far.reach s is (ap (λ (p : C × T). p.1) same) at);
}

-- what is added only under a condition, where this holds
pub is_present : {present : Bool} {Adds : List Bool → List Bool → Type 0} {old new : List Bool}
    → present ≡ true → Adds old new → WritesIf present Adds old new
is_present is h = record { there = λ _. h; absent = λ not_there. absurd (true≢false (sym is ∙ not_there)) }

-- the same for a part that is present under a condition
pub writes_if : {A : Type 0} {p : A → Table A} {seen : A → A
    → A} {x : A} {present : Bool} {old new : List Bool} → present ≡ true
    → ((y : A) (w : List Bool) → NothingYet x w old
    → EachFilling (p y) w (λ z all. seen z x ≡ x → w ≡ old → all ≡ new)) → WritesIf present (Writes p seen x) old new
writes_if is rows = is_present is (writes rows)

-- ---- one row or part after another

-- A row or a part, whose values are made of what is told by K with the bits.
pub record Step {B R : Type 0} (t : Table B) (w : List Bool) (made : R → B) (K : R → List Bool → Type 0) : Type 1 where
  pub filled : (Q : B → List Bool → Type 0)
      → ((value : R) (all : List Bool) → K value all → Q (made value) all) → EachFilling t w Q

-- what comes after it goes by
pub record Next {R : Type 0} (K : R → List Bool → Type 0) : Type 0 where
  pub value : R
  pub bits : List Bool
  pub known : K value bits

infixl 10 ◌>>=◌
pub ◌>>=◌ : {B D R : Type 0} {t : Table B} {k : B → Table D} {w : List Bool} {made : R → B} {K : R
    → List Bool → Type 0} {Q : D → List Bool → Type 0}
    → Step t w made K → ((next : Next K) → EachFilling (k (made next.value)) next.bits Q) → EachFilling (part t k) w Q
◌>>=◌ {k = k} {Q = Q} step rest =
    then_filled (step.filled (λ value all. EachFilling (k value) all Q)
    (λ value all known. rest (record { value = value; bits = all; known = known })))

-- the last row or part
pub ending : {B R : Type 0} {t : Table B} {w : List Bool} {made : R → B} {K : R → List Bool → Type 0} {Q : B
    → List Bool → Type 0}
    → Step t w made K → ((value : R) (all : List Bool) → K value all → Q (made value) all) → EachFilling t w Q
ending {Q = Q} step rest = step.filled Q rest

-- ---- rows

-- what is had of any record, as it comes from elsewhere
abbrev pub always : {A B : Type 0} → B → A → B
always b x = b

module _ (r : Row) (kept : IsKept r) {A T : Type 0} {x : A} {P : Type 0} {g : A
    → T} {values : T} {w old new : List Bool} where
  -- a flag that f has of the record
  pub flag_of : Reaches x P g values w old → (f : A → Bool) → WritesFlag (f x) old new
      → Step (flag_row r) w (λ v. v) (λ v all. ReachesMore x P f v g values all new)
  flag_of so_far f adds = record {
    filled = λ Q next. flag_written r kept adds (λ v all h. next v all (more f so_far h));
  }

  -- a number of n bits
  pub bits_of : (n min max : ℕ) → Reaches x P g values w old → (f : A → ℕ) → WritesBits n (f x) old new
      → Step (bits_row r n min max) w (λ v. v) (λ v all. ReachesMore x P f v g values all new)
  bits_of n min max so_far f adds = record {
    filled = λ Q next. bits_written r kept n min max adds (λ v is all h. next v all (more f so_far h));
  }

  -- an Exp-Golomb number
  pub ue_of : (min max : ℕ) → Reaches x P g values w old → (f : A → ℕ) → WritesUe (f x) old new
      → Step (ue_row r min max) w (λ v. v) (λ v all. ReachesMore x P f v g values all new)
  ue_of min max so_far f adds = record {
    filled = λ Q next. ue_written r kept min max adds (λ v is all h. next v all (more f so_far h));
  }

  -- what was written is that value as a number of some size
  pub se_of : (min max : ℤ) → Reaches x P g values w old → (f : A → ℤ) → {value : ℤ} → f x ≡ value
      → WritesSe value old new
      → Step (se_row r min max) w (λ v. v) (λ v all. ReachesMore x P f v g values all new)
  se_of min max so_far f is adds = record {
    filled = λ Q next. se_written r kept min max adds (λ v all h. next v all (more f so_far (λ e. h (e ∙ is))));
  }

  -- a flag that is not set
  pub zero_of : Reaches x P g values w old → WritesFlag false old new
      → Step (zero_row r) w (λ (_ : Unit {0}). false) (λ _ all. Reaches x P g values all new)
  zero_of so_far adds = record {
    filled = λ Q next. zero_written r kept adds
        (λ all h. next tt all (record { reach = λ s is same at. h (so_far.reach s is same at) }));
  }

  -- rows that are present where p holds of the record
  module _ (c : Bool) where
    pub flag_if_of : (absent : Bool) → Reaches x P g values w old → (p : A → Bool) (f : A → Bool)
        → WritesIf (p x) (WritesFlag (f x)) old new
        → Step (when c absent (flag_row r)) w (λ v. v)
        (λ v all. ReachesMore {C = Bool × Bool} x P (λ s. (p s, f s)) (c, v) g values all new)
    flag_if_of absent so_far p f adds = record {
      filled = λ Q next. when_written (flag_row r) c absent (flag_fillable r kept)
          (where_present (flag_table r kept) adds)
          (λ v all h. next v all (more {C = Bool × Bool} (λ s. (p s, f s)) so_far
          (λ e. h (ap (λ (q : Bool × Bool). q.0) e) (ap (λ (q : Bool × Bool). q.1) e))));
    }

    pub bits_if_of : (n min max absent : ℕ) → Reaches x P g values w old → (p : A → Bool) (f : A → ℕ)
        → WritesIf (p x) (WritesBits n (f x)) old new
        → Step (when c absent (bits_row r n min max)) w (λ v. v)
        (λ v all. ReachesMore {C = Bool × ℕ} x P (λ s. (p s, f s)) (c, v) g values all new)
    bits_if_of n min max absent so_far p f adds = record {
      filled = λ Q next. when_written (bits_row r n min max) c absent (bits_fillable r kept n min max)
          (where_present (bits_table r kept n min max) adds)
          (λ v all h. next v all (more {C = Bool × ℕ} (λ s. (p s, f s)) so_far
          (λ e. h (ap (λ (q : Bool × ℕ). q.0) e) (ap (λ (q : Bool × ℕ). q.1) e))));
    }

    pub ue_if_of : (min max absent : ℕ) → Reaches x P g values w old → (p : A → Bool) (f : A → ℕ)
        → WritesIf (p x) (WritesUe (f x)) old new
        → Step (when c absent (ue_row r min max)) w (λ v. v)
        (λ v all. ReachesMore {C = Bool × ℕ} x P (λ s. (p s, f s)) (c, v) g values all new)
    ue_if_of min max absent so_far p f adds = record {
      filled = λ Q next. when_written (ue_row r min max) c absent (ue_fillable r kept min max)
          (where_present (ue_table r kept min max) adds)
          (λ v all h. next v all (more {C = Bool × ℕ} (λ s. (p s, f s)) so_far
          (λ e. h (ap (λ (q : Bool × ℕ). q.0) e) (ap (λ (q : Bool × ℕ). q.1) e))));
    }

-- zeros that no record keeps
pub zeros_of : (r : Row) (n : ℕ) → skipped r n ≡ 0
    → {A T : Type 0} {x : A} {P : Type 0} {g : A → T} {values : T} {w old new : List Bool}
    → Reaches x P g values w old → WritesZeros n old new
    → Step (skip_row r n) w (λ (_ : Unit {0}). 0) (λ _ all. Reaches x P g values all new)
zeros_of r n none so_far adds = record {
  filled = λ Q next. zeros_written r n none adds
      (λ all h. next tt all (record { reach = λ s is same at. h (so_far.reach s is same at) }));
}

-- ---- tables within tables, and parts

-- a table of its own
pub table_of : {A B T : Type 0} {t : Table B} {x : A} {P : Type 0} {g : A → T} {values : T} {w old new : List Bool}
    → Reaches x P g values w old → (f : A → B) → WritesTable t (f x) old new
    → Step t w (λ v. v) (λ v all. ReachesMore x P f v g values all new)
table_of so_far f adds = record { filled = λ Q next. table_written adds (λ v all h. next v all (more f so_far h)) }

module _ {A : Type 0} (p : A → Table A) (own : A → A → A) (keeps : Keeps p own) (y : A) {seen : A → A
    → A} {T : Type 0} {x : A} {P : Type 0} {g : A → T} {values : T} {w old new : List Bool} where
  -- a part
  pub part_of : Reaches x P g values w old → Writes p seen x old new → seen x x ≡ x
      → Step (p y) w (λ z. own z y) (λ z all. ReachesMore x P (λ u. seen u x) (seen (own z y) x) g values all new)
  part_of so_far adds whole = record {
    filled = λ Q next. part_written p own keeps y adds whole (λ z all follow. next z all (record {
      reach = λ u is same at. follow u is (ap (λ (q : A × T). q.0) same)
          (so_far.reach u is (ap (λ (q : A × T). q.1) same) at);
    }));
  }

  -- a part that is present where some flag of the record is set
  pub part_if_of : {c : Bool} → Reaches x P g values w old → (flag : A → Bool)
      → WritesIf (flag x) (Writes p seen x) old new → seen x x ≡ x
      → Step (when c y (p y)) w (λ z. own z y)
      (λ z all. ReachesMore {C = Bool × A} x P (λ u. (flag u, seen u x)) (c, seen (own z y) x) g values all new)
  part_if_of so_far flag adds whole = record {
    filled = λ Q next. when_part_written p own keeps y adds whole (λ z all follow. next z all (record {
      reach = λ u is same at. follow (sym (ap (λ (q : (Bool × A) × T). q.0.0) same) ∙ ap flag is) u is
          (ap (λ (q : (Bool × A) × T). q.0.1) same)
          (so_far.reach u is (ap (λ (q : (Bool × A) × T). q.1) same) at);
    }));
  }

-- one of two parts, by some flag of the record
pub either_part_of : {A : Type 0} (p q : A → Table A) (own : A → A → A) (keeps_p : Keeps p own)
    (keeps_q : Keeps q own) (y : A) (c : Bool) {seen : A → A → A} {T : Type 0} {x : A} {P : Type 0} {g : A
    → T} {values : T} {w old new : List Bool}
    → Reaches x P g values w old → (flag : A → Bool)
    → WritesEither (flag x) (Writes p seen x) (Writes q seen x) old new → seen x x ≡ x
    → Step (either c (p y) (q y)) w (λ z. own z y)
    (λ z all. ReachesMore {C = Bool × A} x P (λ u. (flag u, seen u x)) (c, seen (own z y) x) g values all new)
either_part_of {A = A} p q own keeps_p keeps_q y c {T = T} so_far flag adds whole = record {
  filled = λ Q next. either_part_written p q own keeps_p keeps_q y c adds whole (λ z all follow. next z all (record {
    reach = λ u is same at. follow (sym (ap (λ (v : (Bool × A) × T). v.0.0) same) ∙ ap flag is) u is
        (ap (λ (v : (Bool × A) × T). v.0.1) same)
        (so_far.reach u is (ap (λ (v : (Bool × A) × T). v.1) same) at);
  }));
}
