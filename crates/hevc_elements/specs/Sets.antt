-- What reading a parameter set out of its unit answered: nothing is left of the reader, and what it
-- read is the unit's payload.
use Rattle.std.specs.Prelude.{◌≡◌, ◌↔◌, ℕ, List, Bool, Result, Ok, Err, IfOk, IfErr, IsErrOf}
use Rattle.hevc_spec.specs.Payload.{payload}
use Rattle.hevc_spec.specs.UnitHeader.{UnitHeader}
use Rattle.hevc_bits.specs.FoundUnit.{FoundUnit, bytes_of}
use Rattle.hevc_spec.specs.Table.{Table, Fault, Reading, read, gives, refuses, out_of_bits}
use Rattle.hevc_spec.specs.Table.{out_of_range, not_kept}
use Rattle.hevc_spec.specs.Lines.{Spells, BreaksOff}
use Rattle.hevc_spec.specs.Rows.{row}
use Rattle.hevc_elements.specs.declared.parse_error.ParseError.{ParseError}
use Rattle.hevc_elements.specs.declared.parse_error.ParseError.TheVariants.{WrongNaluType}
use Rattle.hevc_elements.specs.declared.parse_error.ParseError.TheVariants.{OutOfBits, OutOfRange}
use Rattle.hevc_elements.specs.declared.parse_error.ParseError.TheVariants.{MissingSps, MissingPps}
use Rattle.hevc_elements.specs.declared.parse_error.ParseError.TheVariants.{NoMemory}
use Rattle.hevc_elements.specs.Naming.{names_sequence_set, names_picture_set}

-- the reading is refused with this fault, somewhere
abbrev pub IsRefused : {A : Type 0} → Fault → Reading A → Type 0
IsRefused fault reading = (rest : List Bool) × (reading ≡ refuses fault rest)

-- The error is the refusal of an element, or of a set that isn't kept; or an allocation fails.
abbrev pub RefusesSet : {A : Type 0} → ParseError → Reading A → Type 0
RefusesSet WrongNaluType reading = ⊥
RefusesSet OutOfBits reading = IsRefused out_of_bits reading
RefusesSet (OutOfRange table number) reading = IsRefused (out_of_range (row table number)) reading
RefusesSet (MissingSps id) reading = IsRefused (not_kept names_sequence_set id) reading
RefusesSet (MissingPps id) reading = IsRefused (not_kept names_picture_set id) reading
RefusesSet NoMemory reading = Unit {0}

-- The result, seen by a view, is the value that reading gives.
abbrev pub ReadsSet : {X A : Type 0} → (X → A) → Result X ParseError → Reading A → Type 0
ReadsSet view (Ok x) reading = (rest : List Bool) × (reading ≡ gives (view x) rest)
ReadsSet view (Err e) reading = RefusesSet e reading

-- some first lines are good, and the next one breaks with this fault
abbrev pub IsBroken : {A : Type 0} → Fault → Table A → List Bool → Type 0
IsBroken fault table payload = (rest : List Bool) × BreaksOff table fault payload rest

-- A refusal is that the table's next line breaks; or an allocation fails.
abbrev pub BreaksSet : {A : Type 0} → ParseError → Table A → List Bool → Type 0
BreaksSet WrongNaluType table payload = ⊥
BreaksSet OutOfBits table payload = IsBroken out_of_bits table payload
BreaksSet (OutOfRange number r) table payload = IsBroken (out_of_range (row number r)) table payload
BreaksSet (MissingSps id) table payload = IsBroken (not_kept names_sequence_set id) table payload
BreaksSet (MissingPps id) table payload = IsBroken (not_kept names_picture_set id) table payload
BreaksSet NoMemory table payload = Unit {0}

-- What a reader's answer says of the payload by the table of the set.
pub record MeansSet {X A : Type 0} (view : X → A) (table : Table A) (result : Result X ParseError)
    (payload : List Bool) : Type 0 where
  -- What is read has lines that are allowed and that the payload spells, up to some place.
  pub found : IfOk result (λ x. (rest : List Bool) × Spells table (view x) payload rest)
  -- What has such lines is read, or an allocation fails.
  pub only : (x : A) (rest : List Bool) → Spells table x payload rest
      → ReadsSet view result (gives x rest)
  -- A refusal is the first line that breaks, or a failed allocation.
  pub refused : IfErr result (λ e. BreaksSet e table payload)
  -- Where a line breaks, that is the refusal, or an allocation fails.
  pub broken : (fault : Fault) (rest : List Bool) → BreaksOff table fault payload rest
      → ReadsSet view result (refuses fault rest)

-- The answer names no set that isn't kept.
abbrev pub NamesNoSet : ParseError → Type 0
NamesNoSet (MissingSps id) = ⊥
NamesNoSet (MissingPps id) = ⊥
NamesNoSet e = Unit {0}

-- What reading a parameter set out of a unit answered, by its table and the type of its units.
pub record ReadsSetUnit {X A : Type 0} (view : X → A) (table : Table A) (nal_unit_type : ℕ)
    (unit : FoundUnit UnitHeader) (result : Result X ParseError) : Type 0 where
  -- the type of the unit is looked at first
  pub wrong_type : IsErrOf result WrongNaluType ↔ ¬ (unit.header.nal_unit_type ≡ nal_unit_type)
  pub read : unit.header.nal_unit_type ≡ nal_unit_type
      → ReadsSet view result (read table (payload (bytes_of unit)))
  pub means : unit.header.nal_unit_type ≡ nal_unit_type
      → MeansSet view table result (payload (bytes_of unit))
