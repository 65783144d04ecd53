-- What the rows of a header refuse, and what follows for the header with its sizes.
use Rattle.std.proofs.Common.{◌≡◌, ℕ, ◌-◌, Bool, List, length, Option, Result, Ok, Err, refl}
use Rattle.hevc_spec.specs.Table.{Table, Fault, read, gives, refuses, out_of_bits, out_of_range, not_kept}
use Rattle.hevc_spec.specs.Rows.{row}
use Rattle.std.specs.Prelude.{IsErrOf}
use Rattle.hevc_elements.specs.Telling.{Telling, and_told, told}
use Rattle.hevc_elements.specs.Naming.{names_sequence_set, names_picture_set}
use Rattle.hevc_elements.specs.Scan.{Position, left, Scan, gave, refused, scan}
use Rattle.hevc_elements.proofs.ScanLaws.{gave_is_read, refused_is_read, naming_tells}
use Rattle.hevc_elements.specs.Sets.{IsRefused}
use Rattle.hevc_records.specs.SliceHeader.{PlainSliceSegmentHeader}
use Rattle.hevc_elements.specs.declared.parse_error.ParseError.{ParseError}
use Rattle.hevc_elements.specs.declared.parse_error.ParseError.TheVariants.{WrongNaluType}
use Rattle.hevc_elements.specs.declared.parse_error.ParseError.TheVariants.{OutOfBits, OutOfRange}
use Rattle.hevc_elements.specs.declared.parse_error.ParseError.TheVariants.{MissingSps, MissingPps}
use Rattle.hevc_elements.specs.declared.parse_error.ParseError.TheVariants.{NoMemory}
use Rattle.hevc_elements.specs.Reads.{Refuses}
use Rattle.hevc_elements.specs.Growing.{RefusesGrowing}
use Rattle.hevc_elements.specs.Sets.{RefusesSet, ReadsSet, MeansSet}
use Rattle.hevc_elements.proofs.SetMeaning.{set_found, set_only, set_refused, set_broken}
use Rattle.hevc_tables.specs.SliceHeaderTable.{ActiveSets, elements, aligned, with_sizes, slice_segment_header}
use Rattle.hevc_slice_header.specs.Answers.{RefusesHeader, AnswersHeader, NamesNoSequenceSet}

module _ {A : Type 0} (new : Position) (reading : Scan A) where
  pub names_none : (e : ParseError) → Refuses e new reading → NamesNoSequenceSet e
  names_none WrongNaluType h = tt
  names_none OutOfBits h = tt
  names_none (OutOfRange table number) h = tt
  names_none (MissingSps id) h = absurd h
  names_none (MissingPps id) h = tt
  names_none NoMemory h = tt

  pub names_none_growing : (e : ParseError) → RefusesGrowing e new reading → NamesNoSequenceSet e
  names_none_growing WrongNaluType h = tt
  names_none_growing OutOfBits h = tt
  names_none_growing (OutOfRange table number) h = tt
  names_none_growing (MissingSps id) h = absurd h
  names_none_growing (MissingPps id) h = tt
  names_none_growing NoMemory h = tt

pub ruleset answered = (names_none, names_none_growing)

module _ (nal_unit_type : ℕ) (payload : List ℕ) (kept : ℕ → Option ActiveSets) (all : List Bool)
    (t : Telling) (new : Position) where
  sized_refused : (fault : Fault)
      → scan (aligned (elements nal_unit_type kept)) t all ≡ refused fault new.telling (left new)
      → IsRefused fault (read (slice_segment_header nal_unit_type payload kept) all)
  unfolding slice_segment_header
  sized_refused fault h =
      let e : read (aligned (elements nal_unit_type kept)) all ≡ refuses fault (left new) =
      refused_is_read (aligned (elements nal_unit_type kept)) t new.telling all (left new) fault h in
      (left new, rw e refl)

  pub header_refused : (e : ParseError)
      → RefusesHeader e new (scan (aligned (elements nal_unit_type kept)) t all)
      → RefusesSet e (read (slice_segment_header nal_unit_type payload kept) all)
  header_refused WrongNaluType h = absurd h
  header_refused OutOfBits h = sized_refused out_of_bits h
  header_refused (OutOfRange table number) h = sized_refused (out_of_range (row table number)) h
  header_refused (MissingSps id) h = sized_refused (not_kept names_sequence_set id) h
  header_refused (MissingPps id) h = sized_refused (not_kept names_picture_set id) h
  header_refused NoMemory h = tt

  pub header_read : (h : PlainSliceSegmentHeader)
      → scan (aligned (elements nal_unit_type kept)) t all ≡ gave h new.telling (left new)
      → read (slice_segment_header nal_unit_type payload kept) all ≡ gives
      (with_sizes payload h (length all - length (left new))) (left new)
  unfolding slice_segment_header
  header_read h s =
      let e : read (aligned (elements nal_unit_type kept)) all ≡ gives h (left new) =
      gave_is_read (aligned (elements nal_unit_type kept)) t new.telling all (left new) h s in
      rw e refl

-- What is told, but where memory is wanted.
module _ (nal_unit_type : ℕ) (payload : List ℕ) (kept : ℕ → Option ActiveSets) (all : List Bool)
    (t : Telling) (new : Position) where
  pub header_tells : {X : Type 0} (view : X → PlainSliceSegmentHeader) (r : Result X ParseError)
      → AnswersHeader view r new (scan (aligned (elements nal_unit_type kept)) t all)
      → (IsErrOf r NoMemory → ⊥)
      → new.telling ≡ and_told (told (slice_segment_header nal_unit_type payload kept) all) t
  unfolding slice_segment_header
  header_tells view (Err NoMemory) h some = absurd (some refl)
  header_tells view (Ok x) h some = naming_tells view new (aligned (elements nal_unit_type kept)) t all (Ok x) h
  header_tells view (Err WrongNaluType) h some = absurd h
  header_tells view (Err OutOfBits) h some =
      naming_tells view new (aligned (elements nal_unit_type kept)) t all (Err OutOfBits) h
  header_tells view (Err (OutOfRange a b)) h some =
      naming_tells view new (aligned (elements nal_unit_type kept)) t all (Err (OutOfRange a b)) h
  header_tells view (Err (MissingSps id)) h some =
      naming_tells view new (aligned (elements nal_unit_type kept)) t all (Err (MissingSps id)) h
  header_tells view (Err (MissingPps id)) h some =
      naming_tells view new (aligned (elements nal_unit_type kept)) t all (Err (MissingPps id)) h

-- what was read means what the lines of the payload say
pub means_as_read : {X A : Type 0} (view : X → A) (t : Table A) (r : Result X ParseError)
    (payload : List Bool) → ReadsSet view r (read t payload) → MeansSet view t r payload
means_as_read view t r payload h = record {
  found = set_found view t payload r h;
  only = set_only view t payload r h;
  refused = set_refused view t payload r h;
  broken = set_broken view t payload r h;
}
