-- What is written for elements that no record keeps.
use Rattle.std.specs.Prelude.{◌≡◌, ℕ, ◌-◌, ◌+◌, ◌≤◌, ◌^◌, ◌==◌, ◌&&◌, Bool, true, if◌then◌else◌}
use Rattle.std.specs.Prelude.{List, [], ◌∷◌, Option, Some, None}
use Rattle.hevc_spec.specs.Lines.{Line, HasLines, AreGood, joined}
use Rattle.hevc_spec.specs.Table.{Table}
use Rattle.hevc_spec.specs.declared.Row.{Row}
use Rattle.hevc_spec.specs.Bits.{Form, u, ue, se, skip, check}

abbrev pub is_row : Row → ℕ → ℕ → Bool
is_row r table number = r.0 == table && r.1 == number

-- the number of so many bits that are not kept: ones for vps_reserved_0xffff_16bits (7.3.2.1),
-- and zeros elsewhere
abbrev pub skipped : Row → ℕ → ℕ
skipped r n = if is_row r 1 6 then 2 ^ n - 1 else 0

-- The value of an element that is not kept, where its row has one: scaling_list_pred_mode_flag is
-- 1, so each scaling list has its own entries (7.3.4), and slice_segment_header_extension_length is
-- 0, so slice headers have no extension (7.3.6.1).
abbrev pub chosen_value : Row → Option ℕ
chosen_value r = if is_row r 6 1 then Some 1 else if is_row r 14 51 then Some 0 else None

abbrev pub is_value : Option ℕ → ℕ → Bool
is_value None v = true
is_value (Some chosen) v = v == chosen

-- the value is one that may be written for an element of this row and form
unfoldable pub is_chosen : Row → Form → ℕ → Bool
is_chosen r (u n) v = is_value (chosen_value r) v
is_chosen r ue v = is_value (chosen_value r) v
is_chosen r se v = is_value (chosen_value r) v
is_chosen r (skip n) v = v == skipped r n
is_chosen r check v = true

-- the values of lines are those that are written
abbrev pub AreChosen : List Line → Type 0
AreChosen [] = Unit {0}
AreChosen (l ∷ ls) = (is_chosen l.head.row l.head.form l.value ≡ true) × AreChosen ls

-- 1 for a flag of row 5 of table 7 that is set (7.3.7)
abbrev pub flags_of_row : Row → ℕ → ℕ
flags_of_row r v = if is_row r 7 5 && v == 1 then 1 else 0

-- How many flags of row 5 of table 7 are set. A difference whose sum is a member of the new set has
-- one that is set, and any other difference none if the fewest are.
unfoldable pub set_flags : List Line → ℕ
set_flags [] = 0
set_flags (l ∷ ls) = flags_of_row l.head.row l.value + set_flags ls

-- A record's lines by a table, with the values that are written for what it doesn't keep: all are
-- allowed, and the bits spell them.
pub record IsFormed {A : Type 0} (t : Table A) (x : A) (bits : List Bool) : Type 0 where
  pub lines : List Line
  pub has : HasLines t x lines
  pub good : AreGood lines
  pub chosen : AreChosen lines
  pub parts : bits ≡ joined lines

-- So formed, with no more flags of row 5 of table 7 set than in these lines.
pub record IsFilled {A : Type 0} (t : Table A) (x : A) (others : List Line) (bits : List Bool)
    : Type 0 where
  pub formed : IsFormed t x bits
  pub fewer : set_flags formed.lines ≤ set_flags others
