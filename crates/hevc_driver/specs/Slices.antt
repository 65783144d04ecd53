-- What slice segments stand for, with the sets that they make active (7.4.7.1).
use Rattle.std.specs.Prelude.{◌≡◌, Bool, true, false, Option, Some, None}
use Rattle.hevc_bits.specs.FoundUnit.{bytes_of}
use Rattle.hevc_sequence_set.specs.declared.sps.Sps.{Sps}
use Rattle.hevc_sequence_set.specs.Sps.{plain_sps}
use Rattle.hevc_picture_slice.specs.declared.pps.Pps.{Pps}
use Rattle.hevc_picture_slice.specs.Pps.{plain_pps}
use Rattle.hevc_picture_slice.specs.declared.slice.Slice as code
use Rattle.hevc_picture_slice.specs.declared.slice_header.SliceHeader as code_header
use Rattle.hevc_picture_slice.specs.SliceHeader.{plain_slice_header}
use Rattle.hevc_walk.specs.Meanings.{Slice}
use Rattle.hevc_walk.specs.DependentSlices.{KeptHeader}
use Rattle.hevc_walk_inputs.specs.Headers.{slice_header_of}
use Rattle.hevc_stream.specs.Slices.{coded_slice}
use Rattle.hevc_options.specs.declared.Options.{Options}
use Rattle.hevc_options.specs.Options.{options_of}

unfoldable pub slice_of : Options → code.Slice → Sps → Pps → Slice
slice_of options slice sps pps =
    coded_slice (options_of options) slice.nalu.header (bytes_of slice.nalu)
    (plain_slice_header slice.header) (record { sps = plain_sps sps; pps = plain_pps pps })

-- the header that is kept of an independent slice segment
unfoldable pub kept_of : code_header.SliceHeader → KeptHeader
kept_of h = record {
  pic_parameter_set_id = h.pic_parameter_set_id;
  header = slice_header_of (plain_slice_header h);
}

-- a segment that wasn't completed is as it was
abbrev pub StaysUnlessWhole : {A : Type 0} → Bool → A → A → Type 0
StaysUnlessWhole true old new = Unit {0}
StaysUnlessWhole false old new = new ≡ old

-- a segment is left completed, and as it was where it lacks an independent one
abbrev pub LeavesSlice : Option Slice → Slice → Slice → Type 0
LeavesSlice None old new = new ≡ old
LeavesSlice (Some whole) old new = new ≡ whole
