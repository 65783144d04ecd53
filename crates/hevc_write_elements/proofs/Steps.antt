-- The steps by which a writer's answer goes through a table: each row or part, and what comes after it.
use Rattle.std.proofs.Common.{◌≡◌, ℕ, Bool, true, false, List}
use Rattle.std.specs.Prelude.{ℤ}
use Rattle.hevc_spec.specs.declared.Row.{Row}
use Rattle.hevc_spec.specs.Bits.{in_range, u}
use Rattle.hevc_spec.specs.Table.{Table, part, element}
use Rattle.hevc_spec.specs.Rows.{flag_row, skip_row, zero_row, bits_row, ue_row, se_row, check_row, when}
use Rattle.hevc_write_elements.specs.Choices.{skipped}
use Rattle.hevc_write_elements.specs.Filling.{EachFilling, Keeps, Writes, WritesTable, WritesIf}
use Rattle.hevc_write_elements.specs.Filling.{WritesFlag, WritesBits, WritesUe, WritesSe}
use Rattle.hevc_write_elements.specs.Filling.{WritesZeros}
use Rattle.hevc_write_elements.proofs.RowRules.{IsKept}
pub use Rattle.hevc_write_elements.proofs.Fillings.{then_filled, done_filled, instead_filled, joined_filled}
pub use Rattle.hevc_write_elements.proofs.RowRules.{flag_written, zero_written, bits_written}
pub use Rattle.hevc_write_elements.proofs.RowRules.{ue_written, se_written, number_written}
pub use Rattle.hevc_write_elements.proofs.RowRules.{zeros_written, skip_written, check_held}
pub use Rattle.hevc_write_elements.proofs.RowRules.{when_filled}
pub use Rattle.hevc_write_elements.proofs.Parts.{by, IsFillable, filled, Follows, flag_fillable}
pub use Rattle.hevc_write_elements.proofs.Parts.{zero_fillable, bits_fillable, ue_fillable}
pub use Rattle.hevc_write_elements.proofs.Parts.{se_fillable, zeros_fillable, check_fillable}
pub use Rattle.hevc_write_elements.proofs.Parts.{skip_fillable, when_fillable, either_fillable}
pub use Rattle.hevc_write_elements.proofs.Parts.{flag_table, bits_table, ue_table, se_table}
pub use Rattle.hevc_write_elements.proofs.Parts.{table_written, where_present, when_written}
pub use Rattle.hevc_write_elements.proofs.Parts.{part_kept, when_kept, part_written}
pub use Rattle.hevc_write_elements.proofs.Parts.{when_part_written, either_kept}
pub use Rattle.hevc_write_elements.proofs.Parts.{either_part_written, either_done_kept}
pub use Rattle.hevc_write_elements.proofs.Parts.{either_done_written, done_either_kept}
pub use Rattle.hevc_write_elements.proofs.Parts.{done_either_written, zeros_if_written}
pub use Rattle.hevc_write_elements.proofs.Parts.{either_zeros_written, some_zeros_written}
pub use Rattle.hevc_write_elements.proofs.Parts.{first_of_two, second_of_two, counted_part_written}
pub use Rattle.hevc_write_elements.proofs.Parts.{one_part_written, one_table_written}
pub use Rattle.hevc_write_elements.proofs.Parts.{one_table_if_written, IsDecided, numbers, flags}
pub use Rattle.hevc_write_elements.proofs.Parts.{integers, pairs, both_decided, decided_by}
pub use Rattle.hevc_write_elements.proofs.Parts.{lists_decided, kept_rows}

module _ (r : Row) (kept : IsKept r) {B : Type 0} {w old new : List Bool} {Q : B → List Bool → Type 0} where
  -- a flag
  pub flag_then : {k : Bool → Table B} {value : Bool} → WritesFlag value old new
      → ((v : Bool) (all : List Bool) → (v ≡ value → w ≡ old → all ≡ new) → EachFilling (k v) all Q)
      → EachFilling (part (flag_row r) k) w Q
  flag_then writes f = then_filled (flag_written r kept writes f)

  -- a flag that must be 0
  pub zero_then : {k : Bool → Table B} → WritesFlag false old new
      → ((all : List Bool) → (w ≡ old → all ≡ new) → EachFilling (k false) all Q)
      → EachFilling (part (zero_row r) k) w Q
  zero_then writes f = then_filled (zero_written r kept writes f)

  -- a number of n bits
  pub bits_then : (n min max : ℕ) {k : ℕ → Table B} {value : ℕ} → WritesBits n value old new
      → ((v : ℕ) → in_range min max v ≡ true → (all : List Bool) → (v ≡ value → w ≡ old → all ≡ new)
      → EachFilling (k v) all Q) → EachFilling (part (bits_row r n min max) k) w Q
  bits_then n min max writes f = then_filled (bits_written r kept n min max writes f)

  -- an Exp-Golomb number
  pub ue_then : (min max : ℕ) {k : ℕ → Table B} {value : ℕ} → WritesUe value old new
      → ((v : ℕ) → in_range min max v ≡ true → (all : List Bool) → (v ≡ value → w ≡ old → all ≡ new)
      → EachFilling (k v) all Q) → EachFilling (part (ue_row r min max) k) w Q
  ue_then min max writes f = then_filled (ue_written r kept min max writes f)

  -- a signed one
  pub se_then : (min max : ℤ) {k : ℤ → Table B} {value : ℤ} → WritesSe value old new
      → ((v : ℤ) (all : List Bool) → (v ≡ value → w ≡ old → all ≡ new) → EachFilling (k v) all Q)
      → EachFilling (part (se_row r min max) k) w Q
  se_then min max writes f = then_filled (se_written r kept min max writes f)

  -- a number of which some values are allowed
  pub number_then : (n : ℕ) (allowed : ℕ → Bool) {k : ℕ → Table B} {value : ℕ} → WritesBits n value old new
      → ((v : ℕ) (all : List Bool) → (v ≡ value → w ≡ old → all ≡ new) → EachFilling (k v) all Q)
      → EachFilling (part (element r (u n) allowed (λ v. v)) k) w Q
  number_then n allowed writes f = then_filled (number_written r kept n allowed writes f)

  module _ (c : Bool) {present : Bool} where
    pub flag_if_then : (absent : Bool) {k : Bool → Table B} {value : Bool}
        → WritesIf present (WritesFlag value) old new
        → ((v : Bool) (all : List Bool) → (c ≡ present → v ≡ value → w ≡ old → all ≡ new)
        → EachFilling (k v) all Q) → EachFilling (part (when c absent (flag_row r)) k) w Q
    flag_if_then absent writes f =
        then_filled (when_written (flag_row r) c absent (flag_fillable r kept)
        (where_present (flag_table r kept) writes) f)

    pub bits_if_then : (n min max absent : ℕ) {k : ℕ → Table B} {value : ℕ}
        → WritesIf present (WritesBits n value) old new
        → ((v : ℕ) (all : List Bool) → (c ≡ present → v ≡ value → w ≡ old → all ≡ new)
        → EachFilling (k v) all Q) → EachFilling (part (when c absent (bits_row r n min max)) k) w Q
    bits_if_then n min max absent writes f =
        then_filled (when_written (bits_row r n min max) c absent (bits_fillable r kept n min max)
        (where_present (bits_table r kept n min max) writes) f)

    pub ue_if_then : (min max absent : ℕ) {k : ℕ → Table B} {value : ℕ}
        → WritesIf present (WritesUe value) old new
        → ((v : ℕ) (all : List Bool) → (c ≡ present → v ≡ value → w ≡ old → all ≡ new)
        → EachFilling (k v) all Q) → EachFilling (part (when c absent (ue_row r min max)) k) w Q
    ue_if_then min max absent writes f =
        then_filled (when_written (ue_row r min max) c absent (ue_fillable r kept min max)
        (where_present (ue_table r kept min max) writes) f)

    pub se_if_then : (min max absent : ℤ) {k : ℤ → Table B} {value : ℤ}
        → WritesIf present (WritesSe value) old new
        → ((v : ℤ) (all : List Bool) → (c ≡ present → v ≡ value → w ≡ old → all ≡ new)
        → EachFilling (k v) all Q) → EachFilling (part (when c absent (se_row r min max)) k) w Q
    se_if_then min max absent writes f =
        then_filled (when_written (se_row r min max) c absent (se_fillable r kept min max)
        (where_present (se_table r kept min max) writes) f)

module _ {A B : Type 0} {w : List Bool} {Q : B → List Bool → Type 0} where
  -- a table within the table
  pub table_then : {t : Table A} {k : A → Table B} {x : A} {old new : List Bool} → WritesTable t x old new
      → ((z : A) (all : List Bool) → (z ≡ x → w ≡ old → all ≡ new) → EachFilling (k z) all Q)
      → EachFilling (part t k) w Q
  table_then writes f = then_filled (table_written writes f)

  module _ (p : A → Table A) (own : A → A → A) (keeps : Keeps p own) (y : A) {k : A → Table B} {seen : A → A
      → A} {x : A} {old new : List Bool} where
    pub part_then : Writes p seen x old new → seen x x ≡ x
        → ((z : A) (all : List Bool) → Follows seen (own z y) x w old all new
        → EachFilling (k (own z y)) all Q) → EachFilling (part (p y) k) w Q
    part_then writes whole f = then_filled (part_written p own keeps y writes whole f)

    pub part_if_then : {c present : Bool} → WritesIf present (Writes p seen x) old new → seen x x ≡ x
        → ((z : A) (all : List Bool) → (c ≡ present → Follows seen (own z y) x w old all new)
        → EachFilling (k (own z y)) all Q) → EachFilling (part (when c y (p y)) k) w Q
    part_if_then writes whole f = then_filled (when_part_written p own keeps y writes whole f)

module _ (r : Row) (n : ℕ) (none : skipped r n ≡ 0) {B : Type 0} {w old new : List Bool} {Q : B → List Bool
    → Type 0} where
  -- zeros that are not kept
  pub zeros_then : {k : ℕ → Table B} → WritesZeros n old new
      → ((all : List Bool) → (w ≡ old → all ≡ new) → EachFilling (k 0) all Q) → EachFilling (part (skip_row r n) k) w Q
  zeros_then writes f = then_filled (zeros_written r n none writes f)

module _ (r : Row) (holds : Bool) {B : Type 0} {w : List Bool} {Q : B → List Bool → Type 0} where
  -- a condition on what was read
  pub check_then : {k : ℕ → Table B} → (holds ≡ true → EachFilling (k 0) w Q)
      → EachFilling (part (check_row r holds) k) w Q
  check_then f = then_filled (check_held r holds f)

  -- one that is looked at under another
  pub check_if_then : (c : Bool) {k : ℕ → Table B} → EachFilling (k 0) w Q
      → EachFilling (part (when c 0 (check_row r holds)) k) w Q
  check_if_then c f = then_filled (when_filled (λ _. check_held r holds (λ _. f)) (λ _. f))
