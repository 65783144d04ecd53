-- The headers of slice segments, whole (7.4.7.1).
use Rattle.std.specs.Prelude.{Bool, true, false, Option, Some, option_map, if◌then◌else◌}
use Rattle.hevc_records.specs.SliceHeader.{PlainSliceSegmentHeader, completed_header}
use Rattle.hevc_records.specs.SliceHeader.{default_slice_header}
use Rattle.hevc_sequence_set.specs.declared.sps.Sps.{Sps}
use Rattle.hevc_sequence_set.specs.Sps.{plain_sps}
use Rattle.hevc_picture_slice.specs.declared.pps.Pps.{Pps}
use Rattle.hevc_picture_slice.specs.Pps.{plain_pps}
use Rattle.hevc_picture_slice.specs.declared.slice.Slice.{Slice}
use Rattle.hevc_picture_slice.specs.declared.slice_header.SliceHeader.{SliceHeader}
use Rattle.hevc_picture_slice.specs.SliceHeader.{plain_slice_header}
use Rattle.hevc_backend.specs.Handed.{Segment}

-- what dependent slice segments take from an independent one: all but what each has of its own
abbrev pub shared_header : PlainSliceSegmentHeader → PlainSliceSegmentHeader
shared_header independent = completed_header default_slice_header independent

-- the same of the latest independent segment, after one more segment
abbrev pub latest_behind : Option PlainSliceSegmentHeader → PlainSliceSegmentHeader
    → Option PlainSliceSegmentHeader
latest_behind latest own =
    if own.dependent_slice_segment_flag then latest else Some (shared_header own)

-- the whole header of a segment, None of a dependent one with no independent one before it
abbrev pub whole_header : Option PlainSliceSegmentHeader → PlainSliceSegmentHeader
    → Option PlainSliceSegmentHeader
whole_header latest own =
    if own.dependent_slice_segment_flag then option_map (completed_header own) latest else Some own

-- of the header that is kept
abbrev pub latest_of : Option SliceHeader → Option PlainSliceSegmentHeader
latest_of kept = option_map (λ h. shared_header (plain_slice_header h)) kept

-- a segment with its sets and its whole header
abbrev pub whole_segment : Option PlainSliceSegmentHeader → Slice → Sps → Pps → Option Segment
whole_segment latest slice sps pps =
    option_map (λ h. record { sps = plain_sps sps; pps = plain_pps pps; header = h })
    (whole_header latest (plain_slice_header slice.header))

abbrev pub OnTrue : Bool → Type 0 → Type 0
OnTrue true holds = holds
OnTrue false holds = Unit {0}
