use Rattle.std.proofs.Common.{rules}
use Rattle.hevc_spec.proofs.PlaceLaws.{ahead_then}
use Rattle.hevc_spec.specs.Rows.{when}
use Rattle.hevc_tables.specs.SliceHeaderTable.{quantiser}
use Rattle.hevc_slice_header.proofs.quantiser.read_quantiser.Goals as goal

pub returns-then-pps : goal.returns-then-pps
unfolding quantiser when
returns-then-pps c = record {
  reads = search rules;
  moves = ahead_then _ _ _
      (ahead_then _ _ _ c.in_ok-qp_delta.ensures.read.moves c.in_ok-check.ensures.read.moves)
      c.read_chroma_offsets.ensures.moves;
}
