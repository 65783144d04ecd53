-- Picture order counts, from unit to unit (8.3.1).
use Rattle.std.specs.Prelude.{ℕ, ℤ, ◌==◌, true, false, if◌then◌else◌, Option, Some, None}
use Rattle.hevc_spec.specs.UnitHeader.{UnitHeader}
use Rattle.hevc_spec.specs.UnitTypes.{is_slice}
use Rattle.hevc_spec.specs.Payload.{payload}
use Rattle.hevc_spec.specs.Table.{Reading, gives, refuses, read}
use Rattle.hevc_bits.specs.FoundUnit.{FoundUnit, bytes_of}
use Rattle.hevc_records.specs.SliceHeader.{PlainSliceSegmentHeader}
use Rattle.hevc_tables.specs.SliceHeaderTable.{ActiveSets}
use Rattle.hevc_slice_header.specs.Answers.{slice_table}
use Rattle.hevc_walk.specs.Pictures.{Context, Head, head, order_count_in_range}
use Rattle.hevc_stream.specs.Kept.{Kept}
use Rattle.hevc_stream.specs.Options.{default_options}
use Rattle.hevc_stream.specs.Slices.{coded_slice}
use Rattle.hevc_parser.specs.Slices.{active_of}
use Rattle.hevc_syntax_text.specs.declared.counting.Counting.{Counting}

-- before the first picture
abbrev pub at_first : Counting
at_first = record { first_in_bitstream = true; first_after_end = true; prev_tid0_count = None }

-- the context of the next picture, as the walk has it; the two other facts say nothing of its count
abbrev pub context_of : Counting → Context
context_of c = record {
  number = 0;
  first_in_bitstream = c.first_in_bitstream;
  first_after_end = c.first_after_end;
  prev_tid0_count = c.prev_tid0_count;
  latest_irap_no_rasl = false;
}

-- what a slice segment that is first in its picture tells of it, with its active sets
abbrev pub head_at : Counting → FoundUnit UnitHeader → PlainSliceSegmentHeader → ActiveSets → Head
head_at c unit h sets =
    head (context_of c) (coded_slice default_options unit.header (bytes_of unit) h sets)

-- prevTid0Pic is the picture, or the one before it
abbrev pub tid0_behind : Head → Option ℤ → Option ℤ
tid0_behind p count = if p.valid_for_prev_tid0 then Some p.order_count else count

-- after a picture; one whose count is no 32-bit number counts for no other
abbrev pub behind_picture : Head → Counting → Counting
behind_picture p c =
    if order_count_in_range p
    then record {
      first_in_bitstream = false;
      first_after_end = false;
      prev_tid0_count = tid0_behind p c.prev_tid0_count;
    }
    else c

-- after a unit that is no slice segment: an end of sequence (36) or of the bitstream (37)
abbrev pub behind_end : ℕ → Counting → Counting
behind_end nal_unit_type c =
    if nal_unit_type == 36 then record c { first_after_end = true }
    else if nal_unit_type == 37 then record c { first_in_bitstream = true }
    else c

abbrev pub with_active : {A : Type 0} → A → (ActiveSets → A) → Option ActiveSets → A
with_active other told None = other
with_active other told (Some sets) = told sets

-- something of a header that is read and first in its picture, and its active sets
abbrev pub of_first : {A : Type 0} → A → (PlainSliceSegmentHeader → ActiveSets → A) → Kept
    → Reading PlainSliceSegmentHeader → A
of_first other told kept (gives h rest) =
    if h.first_slice_segment_in_pic_flag
    then with_active other (told h) (active_of kept h.pic_parameter_set_id)
    else other
of_first other told kept (refuses fault rest) = other

-- the header of a slice segment, read with the sets that are kept
abbrev pub header_in : Kept → FoundUnit UnitHeader → Reading PlainSliceSegmentHeader
header_in kept unit = read (slice_table (active_of kept) unit) (payload (bytes_of unit))

abbrev pub behind_slice : Counting → Kept → FoundUnit UnitHeader → Counting
behind_slice c kept unit =
    of_first c (λ h sets. behind_picture (head_at c unit h sets) c) kept (header_in kept unit)

-- after a unit, with the sets that are kept at it
unfoldable pub counting_behind : Counting → Kept → FoundUnit UnitHeader → Counting
counting_behind c kept unit =
    if is_slice unit.header.nal_unit_type then behind_slice c kept unit
    else behind_end unit.header.nal_unit_type c
