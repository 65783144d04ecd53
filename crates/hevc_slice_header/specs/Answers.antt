-- What reading the rows of a header answered, and where it left the reader:
-- they name a picture set, and want memory.
use Rattle.std.specs.Prelude.{◌≡◌, ◌↔◌, ℕ, drop, Option, Result, Ok, Err, IfOk, IfErr, OnOk, OnErr}
use Rattle.std.specs.Prelude.{IsErrOf, IsTrue, IsFalse}
use Rattle.std.specs.BTreeMap.{BTreeMap}
use Rattle.hevc_spec.specs.Payload.{payload}
use Rattle.hevc_spec.specs.Table.{Table, read}
use Rattle.hevc_spec.specs.UnitHeader.{UnitHeader}
use Rattle.hevc_spec.specs.UnitTypes.{is_slice}
use Rattle.hevc_records.specs.SliceHeader.{PlainSliceSegmentHeader, default_slice_header}
use Rattle.hevc_tables.specs.SliceHeaderTable.{ActiveSets, slice_segment_header}
use Rattle.hevc_bits.specs.FoundUnit.{FoundUnit, bytes_of}
use Rattle.hevc_short_term.specs.Predictions.{IsInOrder}
use Rattle.hevc_picture_slice.specs.declared.slice_header.SliceHeader.{SliceHeader}
use Rattle.hevc_picture_slice.specs.SliceHeader.{plain_slice_header}
use Rattle.hevc_elements.specs.declared.parse_error.ParseError.{ParseError}
use Rattle.hevc_elements.specs.declared.parse_error.ParseError.TheVariants.{WrongNaluType}
use Rattle.hevc_elements.specs.declared.parse_error.ParseError.TheVariants.{MissingSps, NoMemory}
use Rattle.hevc_elements.specs.Scan.{Position, left, Scan, gave}
use Rattle.hevc_elements.specs.Naming.{RefusesNaming}
use Rattle.hevc_elements.specs.Sets.{ReadsSet, MeansSet}
use Rattle.hevc_sequence_set.specs.declared.sps.Sps.{Sps}
use Rattle.hevc_picture_slice.specs.declared.pps.Pps.{Pps}
use Rattle.hevc_slice_header.specs.declared.active_sets.ActiveSets as declared
use Rattle.hevc_slice_header.specs.ActiveSets.{AreFound}
use Rattle.hevc_slice_header.specs.Kept.{kept_active_sets}
use Rattle.hevc_slice_header.specs.CurrentSet.{HasCurrentSet}
use Rattle.hevc_slice_header.specs.Lists.{HasLists}

-- The error is the refusal of an element or of a set that isn't kept, and the reader is where
-- the element began, or after the one that names the set; or an allocation fails.
abbrev pub RefusesHeader : {A : Type 0} → ParseError → Position → Scan A → Type 0
RefusesHeader NoMemory new scan = Unit {0}
RefusesHeader e new scan = RefusesNaming e new scan

-- The result, seen by a view, is the value that reading gives,
-- and the reader is after its last bit.
abbrev pub AnswersHeader : {X A : Type 0} → (X → A) → Result X ParseError → Position → Scan A
    → Type 0
AnswersHeader view (Ok x) new scan = scan ≡ gave (view x) new.telling (left new)
AnswersHeader view (Err e) new scan = RefusesHeader e new scan

-- The answer names no sequence set.
abbrev pub NamesNoSequenceSet : ParseError → Type 0
NamesNoSequenceSet (MissingSps id) = ⊥
NamesNoSequenceSet e = Unit {0}

-- What a header's reader says of the sets that it makes active, of those that are kept.
pub record FindsSets (picture_sets : BTreeMap ℕ Pps) (sequence_sets : BTreeMap ℕ Sps)
    (result : Result declared.ActiveSets ParseError) (header : SliceHeader) : Type 0 where
  pub names : IfErr result NamesNoSequenceSet
  pub current : OnOk result (HasCurrentSet (kept_active_sets picture_sets sequence_sets)
      (plain_slice_header header))
  pub lists : OnOk result (HasLists (plain_slice_header header))
  pub sets : IfOk result (λ sets.
      AreFound picture_sets sequence_sets header.pic_parameter_set_id sets)

-- table 14 over the payload of a slice's unit, with the sets that are kept (7.3.6.1)
abbrev pub slice_table : (ℕ → Option ActiveSets) → FoundUnit UnitHeader
    → Table PlainSliceSegmentHeader
slice_table kept unit =
    slice_segment_header unit.header.nal_unit_type (drop 2 (bytes_of unit)) kept

-- What reading the header of a slice's unit answered, and the header that it left.
pub record ReadsSlice {X : Type 0} (kept : ℕ → Option ActiveSets) (unit : FoundUnit UnitHeader)
    (result : Result X ParseError) (header : SliceHeader) : Type 0 where
  -- the type of the unit is looked at first
  pub wrong_type : IsErrOf result WrongNaluType ↔ IsFalse (is_slice unit.header.nal_unit_type)
  pub read : IsTrue (is_slice unit.header.nal_unit_type)
      → ReadsSet (λ _. plain_slice_header header) result
      (read (slice_table kept unit) (payload (bytes_of unit)))
  pub means : IsTrue (is_slice unit.header.nal_unit_type)
      → MeansSet (λ _. plain_slice_header header) (slice_table kept unit) result
      (payload (bytes_of unit))
  pub names : IfErr result NamesNoSequenceSet
  pub refused : OnErr result (plain_slice_header header ≡ default_slice_header)
  -- of the header's own short-term set negatives fall, positives rise, and none is 0 (7.4.8)
  pub predictions : IsInOrder header.short_term_ref_pic_set
  -- CurrRpsIdx is at most the number of the sequence set's short-term sets, and that number exactly
  -- where the header names none of them
  pub current : OnOk result (HasCurrentSet kept (plain_slice_header header))
  -- each list whose order is signalled has an entry for each active place, each below
  -- NumPicTotalCurr
  pub lists : OnOk result (HasLists (plain_slice_header header))
