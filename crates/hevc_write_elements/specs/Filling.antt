-- What writing by a table adds to the bits. The words for whole tables and their parts speak of any
-- record that the table can give: wherever it is the one that is written, what was added are lines
-- of it (Choices).
--
-- The elements of a part named P are told by functions that put them from one record into another:
-- P_of all that the part sets, what follows from its elements too; P_elements_of its elements
-- alone, where anything follows; P_with_inputs_of its elements, and those before it that it goes
-- by. P_rows is a part that no table has as it is. same_P says that the first ones of a list are
-- the same.
use Rattle.std.specs.Prelude.{◌≡◌, ℕ, ℤ, ◌+◌, ◌<◌, Bool, true, false, List, [], ◌∷◌, ◌++◌, length}
use Rattle.std.specs.Prelude.{take, replicate, slice_index_or}
use Rattle.hevc_spec.specs.Bits.{u, ue, se}
use Rattle.hevc_spec.specs.Table.{Table}
use Rattle.hevc_spec.specs.Rows.{repeat}
use Rattle.hevc_spec.specs.Lines.{Line, HasLines, AreGood}
use Rattle.hevc_bit_writer.specs.Writing.{CanSpell, spelled, code_number}
use Rattle.hevc_write_elements.specs.Choices.{IsFilled}

-- Whichever record the table gives by lines that are allowed: it has lines with the chosen values,
-- whose bits, added to w, make up bits of which Q holds with the record. No more flags of row 5 of
-- table 7 are set in them.
pub record EachFilling {A : Type 0} (t : Table A) (w : List Bool) (Q : A → List Bool → Type 0)
    : Type 0 where
  pub all : (x : A) (lines : List Line) → HasLines t x lines → AreGood lines
      → (bits : List Bool) × IsFilled t x lines bits × Q x (w ++ bits)

-- ---- elements

-- a flag is added
abbrev pub WritesFlag : Bool → List Bool → List Bool → Type 0
WritesFlag flag old new = new ≡ old ++ flag ∷ []

-- so many low bits of a number are added
abbrev pub WritesBits : ℕ → ℕ → List Bool → List Bool → Type 0
WritesBits n value old new = new ≡ old ++ spelled (u n) value

-- An Exp-Golomb number is added, where it has a spelling.
abbrev pub WritesUe : ℕ → List Bool → List Bool → Type 0
WritesUe value old new = CanSpell ue value → new ≡ old ++ spelled ue value

-- likewise a signed one
abbrev pub WritesSe : ℤ → List Bool → List Bool → Type 0
WritesSe value old new =
    CanSpell se (code_number value) → new ≡ old ++ spelled se (code_number value)

-- so many zeros are added
abbrev pub WritesZeros : ℕ → List Bool → List Bool → Type 0
WritesZeros n old new = new ≡ old ++ replicate n false

-- what is added only under a condition
pub record WritesIf (present : Bool) (Adds : List Bool → List Bool → Type 0) (old new : List Bool)
    : Type 0 where
  pub there : present ≡ true → Adds old new
  pub absent : present ≡ false → new ≡ old

-- one thing or another is added
pub record WritesEither (which : Bool) (First Second : List Bool → List Bool → Type 0)
    (old new : List Bool) : Type 0 where
  pub first : which ≡ true → First old new
  pub second : which ≡ false → Second old new

-- ---- tables and their parts

-- Where the table gives this record, its lines are added.
pub record WritesTable {A : Type 0} (t : Table A) (x : A) (old new : List Bool) : Type 0 where
  pub written : (w : List Bool) → EachFilling t w (λ z all. z ≡ x → w ≡ old → all ≡ new)

-- Where part of a table gives elements of this record, its lines are added: those elements that
-- `seen` puts from one record into another. They are the part's own, and those of the rows before
-- it that it goes by.
pub record Writes {A : Type 0} (p : A → Table A) (seen : A → A → A) (x : A) (old new : List Bool)
    : Type 0 where
  pub written : (y : A) (w : List Bool)
      → EachFilling (p y) w (λ z all. seen z x ≡ x → w ≡ old → all ≡ new)

-- Part of a table sets no elements but its own, those that `own` puts from one record into another.
pub record Keeps {A : Type 0} (p : A → Table A) (own : A → A → A) : Type 0 where
  pub same : (y : A) → own y y ≡ y
  pub last : (x y z : A) → own z (own y x) ≡ own z x
  pub kept : (y : A) (w : List Bool) → EachFilling (p y) w (λ z _. own z y ≡ z)

-- ---- repeated rows

-- The lists are as long as each other, and have the same first elements, so many.
pub record SameBelow {X : Type 0} (n : ℕ) (xs ys : List X) : Type 0 where
  pub long : length xs ≡ length ys
  pub same : (k : ℕ) (d : X) → k < n → slice_index_or xs k d ≡ slice_index_or ys k d

-- Where so many turns of repeated rows give elements that agree so far with those that are written,
-- the lines of these turns are added.
pub record WritesTurns {S : Type 0} (body : ℕ → S → Table S) (agrees : ℕ → S → Type 0) (n : ℕ)
    (old new : List Bool) : Type 0 where
  pub written : (y : S) (w : List Bool)
      → EachFilling (repeat body 0 n y) w (λ z all. agrees n z → w ≡ old → all ≡ new)

-- turn i of them, after which the elements of the turns before it are still there
pub record WritesTurn {S : Type 0} (body : ℕ → S → Table S) (agrees : ℕ → S → Type 0) (i : ℕ)
    (old new : List Bool) : Type 0 where
  pub written : (y : S) (w : List Bool)
      → EachFilling (body i y) w
      (λ z all. agrees (i + 1) z → agrees i y × (w ≡ old → all ≡ new))

-- so many first elements of a list
abbrev pub are_first : {X : Type 0} → List X → ℕ → List X → Type 0
are_first xs n ys = ys ≡ take n xs
