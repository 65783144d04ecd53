use Rattle.std.proofs.Common.{◌≡◌, ◌-◌}
use Rattle.hevc_spec.specs.Payload.{IsAhead}
use Rattle.hevc_elements.specs.Scan.{scanned}
use Rattle.hevc_spec.specs.Rows.{repeat}
use Rattle.hevc_tables.specs.WeightedPredictionTable.{chroma_flag, chroma_flags}
use Rattle.hevc_slice_parts.specs.Projections.{plain_list_weights}
use Rattle.hevc_slice_parts.proofs.list_weights.read_chroma_flags.Given as goal

abbrev pub invariant-loop-i : goal.invariant-loop-i
invariant-loop-i l = record {
  same : scanned (repeat (chroma_flag l.list) l.i (l.count - l.i) (plain_list_weights l.w)) l.r ≡ scanned
      (chroma_flags l.list l.count (plain_list_weights l.fn.w)) l.fn.r;
  ahead : IsAhead l.fn.r.place l.r.place;
}
