-- What is told of a unit's elements.
use Rattle.std.specs.Prelude.{◌≡◌, ◌⊎◌, ℕ, ◌<◌, ◌≤◌, ◌^◌, List, length, Result, Ok, Err}
use Rattle.hevc_spec.specs.UnitHeader.{UnitHeader}
use Rattle.hevc_spec.specs.Units.{NalUnit, units}
use Rattle.hevc_stream.specs.Kept.{Kept}
use Rattle.hevc_bits.specs.FoundUnit.{FoundUnit}
use Rattle.hevc_bits.specs.declared.header.UnitError.{UnitError}
use Rattle.hevc_element_lines.specs.declared.style.Style.TheVariants.{Words}
use Rattle.hevc_element_lines.specs.Lines.{element_lines}
use Rattle.hevc_element_calls.specs.Names.{TellsText}
use Rattle.hevc_parser.specs.Telling.{told_of_unit}
use Rattle.hevc_pull.specs.declared.units.UnitCall.{UnitCall}
use Rattle.hevc_pull.specs.Units.{GoesOnAt, IsFirstFrom, status_of_first, told_first, told_unit}

-- the room of a caller's for a text, and how many bytes the whole text has
pub record TextCall : Type 0 where
  pub room : List ℕ
  pub size : ℕ

-- a line for each element of a unit that is read with the sets that are kept
abbrev pub elements_text : Kept → FoundUnit UnitHeader → List ℕ
elements_text kept u = element_lines Words (told_of_unit kept u)

-- The text is told, or there is no memory for it.
abbrev pub TellsElements : (text : List ℕ) → (old new : TextCall) → (status : ℕ) → Type 0
TellsElements text old new status =
    (status ≡ 0) × TellsText text old.room new.room new.size
    ⊎ (status ≡ 4) × (new ≡ old)

-- the unit, with its elements, or why there is none
abbrev pub TellsFound : List NalUnit → Kept → Result (FoundUnit UnitHeader) UnitError
    → (told : UnitCall) → (old new : TextCall) → (status : ℕ) → Type 0
TellsFound us kept (Ok u) told old new status =
    (told ≡ told_unit u) × TellsElements (elements_text kept u) old new status
TellsFound us kept (Err error) told old new status =
    (told ≡ told_first us) × (status ≡ status_of_first us) × (new ≡ old)

pub record TellsFirst (bytes : List ℕ) (kept : Kept) (told : UnitCall) (old new : TextCall)
    (status : ℕ) : Type 0 where
  pub few : length bytes < 2 ^ 60
  pub found : Result (FoundUnit UnitHeader) UnitError
  pub is_first : IsFirstFrom 0 bytes found
  pub tells : TellsFound (units bytes) kept found told old new status
  pub goes_on : GoesOnAt told.next (units bytes) bytes

-- Of too many bytes nothing is told.
abbrev pub Tells : (bytes : List ℕ) → Kept → (before told : UnitCall) → (old new : TextCall)
    → (status : ℕ) → Type 0
Tells bytes kept before told old new status =
    TellsFirst bytes kept told old new status
    ⊎ (2 ^ 60 ≤ length bytes) × (status ≡ 17) × (told ≡ before) × (new ≡ old)
