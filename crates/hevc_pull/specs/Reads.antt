-- What reading a unit's parameter set or slice segment header tells and keeps.
use Rattle.std.specs.Prelude.{◌≡◌, ◌⊎◌, ℕ, ◌-◌, ◌<◌, ◌≤◌, ◌^◌, List, Bool, length, IsTrue, IsFalse}
use Rattle.std.specs.Prelude.{Result, Ok, Err}
use Rattle.hevc_spec.specs.UnitHeader.{UnitHeader}
use Rattle.hevc_spec.specs.UnitTypes.{is_slice}
use Rattle.hevc_spec.specs.Units.{NalUnit, units}
use Rattle.hevc_spec.specs.Payload.{payload}
use Rattle.hevc_spec.specs.Table.{Reading, gives, read}
use Rattle.hevc_records.specs.Vps.{PlainVps}
use Rattle.hevc_records.specs.Sps.{PlainSps}
use Rattle.hevc_records.specs.Pps.{PlainPps}
use Rattle.hevc_records.specs.SliceHeader.{PlainSliceSegmentHeader}
use Rattle.hevc_tables.specs.VpsTable.{video_parameter_set}
use Rattle.hevc_tables.specs.SpsTable.{sequence_parameter_set}
use Rattle.hevc_tables.specs.PpsTable.{picture_parameter_set}
use Rattle.hevc_stream.specs.Kept.{Kept, with_video_set, with_sequence_set, with_picture_set}
use Rattle.hevc_bits.specs.FoundUnit.{FoundUnit, bytes_of}
use Rattle.hevc_bits.specs.declared.header.UnitError.{UnitError}
use Rattle.hevc_elements.specs.declared.parse_error.ParseError.{ParseError}
use Rattle.hevc_elements.specs.declared.parse_error.ParseError.TheVariants.{WrongNaluType}
use Rattle.hevc_elements.specs.declared.parse_error.ParseError.TheVariants.{OutOfBits, OutOfRange}
use Rattle.hevc_elements.specs.declared.parse_error.ParseError.TheVariants.{MissingSps, MissingPps}
use Rattle.hevc_elements.specs.declared.parse_error.ParseError.TheVariants.{NoMemory}
use Rattle.hevc_elements.specs.Sets.{RefusesSet}
use Rattle.hevc_slice_header.specs.Answers.{slice_table}
use Rattle.hevc_parser.specs.declared.parser.Parser.{Parser}
use Rattle.hevc_parser.specs.Kept.{kept_by}
use Rattle.hevc_parser.specs.Slices.{active_of}
use Rattle.hevc_pull.specs.Fields.Vps.{fields_of_vps}
use Rattle.hevc_pull.specs.Fields.Sps.{fields_of_sps}
use Rattle.hevc_pull.specs.Fields.Pps.{fields_of_pps}
use Rattle.hevc_pull.specs.Fields.Slice.{fields_of_slice}
use Rattle.hevc_pull.specs.declared.units.UnitCall.{UnitCall}
use Rattle.hevc_pull.specs.declared.reads.UnitRead.{UnitRead}
use Rattle.hevc_pull.specs.Units.{GoesOnAt, IsFirstFrom, status_of_first, told_first, told_unit}

-- each refusal has the status that decoding gives it; a sequence set that isn't kept has its own
abbrev pub status_of_refusal : ParseError → ℕ
status_of_refusal WrongNaluType = 6
status_of_refusal OutOfBits = 7
status_of_refusal (OutOfRange table row) = 8
status_of_refusal (MissingSps id) = 18
status_of_refusal (MissingPps id) = 9
status_of_refusal NoMemory = 4

-- the table and the row of an element that is out of range, or else the id of a set that isn't kept
abbrev pub table_of_refusal : ParseError → ℕ
table_of_refusal (OutOfRange table row) = table
table_of_refusal error = 0

abbrev pub row_of_refusal : ParseError → ℕ
row_of_refusal (OutOfRange table row) = row
row_of_refusal (MissingSps id) = id
row_of_refusal (MissingPps id) = id
row_of_refusal error = 0

abbrev pub status_of_reading : {T : Type 0} → Result T ParseError → ℕ
status_of_reading (Ok value) = 0
status_of_reading (Err error) = status_of_refusal error

-- what is told of a unit whose content was read, or refused
abbrev pub told_of_read : {T : Type 0} → FoundUnit UnitHeader → Result T ParseError → UnitCall
told_of_read u (Ok value) = told_unit u
told_of_read u (Err error) =
    record (told_unit u) { table = table_of_refusal error; row = row_of_refusal error }

-- what is told of a set or a header; all else stays
abbrev pub with_vps : PlainVps → UnitRead → UnitRead
with_vps set told = record told { vps = fields_of_vps set }

abbrev pub with_sps : PlainSps → UnitRead → UnitRead
with_sps set told = record told { sps = fields_of_sps set }

abbrev pub with_pps : PlainPps → UnitRead → UnitRead
with_pps set told = record told { pps = fields_of_pps set }

abbrev pub with_slice : PlainSliceSegmentHeader → UnitRead → UnitRead
with_slice header told = record told { slice = fields_of_slice header }

-- What the payload gives by its table is kept and told; a refusal keeps and tells nothing.
abbrev pub Takes : {A T : Type 0} → Reading A → (keep : A → Kept → Kept)
    → (tell : A → UnitRead → UnitRead) → Result T ParseError → (before now : Kept)
    → (old new : UnitRead) → Type 0
Takes {A} reading keep tell (Ok value) before now old new =
    (set : A) × (rest : List Bool) × (reading ≡ gives set rest)
    × (now ≡ keep set before) × (new ≡ tell set old)
Takes reading keep tell (Err error) before now old new =
    RefusesSet error reading × (now ≡ before) × (new ≡ old)

abbrev pub keep_nothing : PlainSliceSegmentHeader → Kept → Kept
keep_nothing header kept = kept

abbrev pub IsOther : ℕ → Type 0
IsOther nal_unit_type =
    ¬ (nal_unit_type ≡ 32) × ¬ (nal_unit_type ≡ 33) × ¬ (nal_unit_type ≡ 34)
    × IsFalse (is_slice nal_unit_type)

-- The content of a unit by its type (Table 7-1): tables 1, 5, 11 and 14. Of other units nothing is
-- read.
pub record ReadsContent {T : Type 0} (u : FoundUnit UnitHeader) (answer : Result T ParseError)
    (before now : Kept) (old new : UnitRead) : Type 0 where
  pub video : u.header.nal_unit_type ≡ 32
      → Takes (read video_parameter_set (payload (bytes_of u))) with_video_set with_vps
      answer before now old new
  pub sequence : u.header.nal_unit_type ≡ 33
      → Takes (read sequence_parameter_set (payload (bytes_of u))) with_sequence_set with_sps
      answer before now old new
  pub picture : u.header.nal_unit_type ≡ 34
      → Takes
      (read (picture_parameter_set (u.header.nuh_temporal_id_plus1 - 1) before.sequence_sets)
      (payload (bytes_of u)))
      with_picture_set with_pps answer before now old new
  pub slice : IsTrue (is_slice u.header.nal_unit_type)
      → Takes (read (slice_table (active_of before) u) (payload (bytes_of u)))
      keep_nothing with_slice answer before now old new
  pub other : IsOther u.header.nal_unit_type
      → (status_of_reading answer ≡ 0) × (now ≡ before) × (new ≡ old)

-- the unit was told, and its content was read
pub record ReadsUnit (u : FoundUnit UnitHeader) (before now : Kept) (old new : UnitRead)
    (status : ℕ) : Type 0 where
  pub answer : Result (Unit {0}) ParseError
  pub content : ReadsContent u answer before now (record old { unit = new.unit }) new
  pub unit_is : new.unit ≡ told_of_read u answer
  pub status_is : status ≡ status_of_reading answer

-- the unit, or why there is none: then where it lies is told and nothing else, and nothing is kept
abbrev pub ReadsFound : List NalUnit → Result (FoundUnit UnitHeader) UnitError → (before now : Kept)
    → (old new : UnitRead) → (status : ℕ) → Type 0
ReadsFound us (Ok u) before now old new status = ReadsUnit u before now old new status
ReadsFound us (Err error) before now old new status =
    (status ≡ status_of_first us) × (now ≡ before) × (new ≡ record old { unit = told_first us })

pub record ReadsFirst (bytes : List ℕ) (before now : Kept) (old new : UnitRead) (status : ℕ)
    : Type 0 where
  pub few : length bytes < 2 ^ 60
  pub found : Result (FoundUnit UnitHeader) UnitError
  pub is_first : IsFirstFrom 0 bytes found
  pub reads : ReadsFound (units bytes) found before now old new status
  pub goes_on : GoesOnAt new.unit.next (units bytes) bytes

-- Of too many bytes nothing is read.
abbrev pub Reads : (bytes : List ℕ) → (before now : Parser) → (old new : UnitRead)
    → (status : ℕ) → Type 0
Reads bytes before now old new status =
    ReadsFirst bytes (kept_by before) (kept_by now) old new status
    ⊎ ((2 ^ 60 ≤ length bytes) × (status ≡ 17) × (now ≡ before) × (new ≡ old))
