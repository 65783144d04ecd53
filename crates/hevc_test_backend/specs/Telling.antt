-- What a backend that keeps all that comes has kept.
use Rattle.std.specs.Prelude.{List, map}
use Rattle.hevc_backend.specs.Handed.{Handed, Sequence, Announced, Begun, Decoded, Segment}
use Rattle.hevc_backend.specs.Handed.{PlainDpb, plain_picture}
use Rattle.hevc_sequence_set.specs.Sps.{plain_sps}
use Rattle.hevc_picture_slice.specs.Pps.{plain_pps}
use Rattle.hevc_picture_slice.specs.SliceHeader.{plain_slice_header}
use Rattle.hevc_dpb.specs.Plain.{plain_entries}
use Rattle.hevc_test_backend.specs.declared.KeptSegment.{KeptSegment}
use Rattle.hevc_test_backend.specs.declared.KeptDpb.{KeptDpb}
use Rattle.hevc_test_backend.specs.declared.Came as came

abbrev pub kept_segment : KeptSegment → Segment
kept_segment s = record {
  sps = plain_sps s.sps;
  pps = plain_pps s.pps;
  header = plain_slice_header s.header;
}

abbrev pub kept_dpb : KeptDpb → PlainDpb
kept_dpb d = record { entries = plain_entries d.entries.items; max_num_pics = d.max_num_pics }

abbrev pub handed_of : came.Came → Handed
handed_of (came.TheVariants.Sequence set) = Sequence (plain_sps set)
handed_of (came.TheVariants.Announced number picture) = Announced number (plain_picture picture)
handed_of (came.TheVariants.Begun number picture dpb segment) =
    Begun number (plain_picture picture) (kept_dpb dpb) (kept_segment segment)
handed_of (came.TheVariants.Decoded number dpb segment) =
    Decoded number (kept_dpb dpb) (kept_segment segment)

abbrev pub all_handed : List came.Came → List Handed
all_handed cs = map handed_of cs
