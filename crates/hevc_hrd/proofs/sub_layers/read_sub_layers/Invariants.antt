use Rattle.std.proofs.Common.{◌≡◌, ◌-◌}
use Rattle.hevc_spec.specs.Payload.{IsAhead}
use Rattle.hevc_elements.specs.Scan.{scanned}
use Rattle.hevc_spec.specs.Rows.{repeat}
use Rattle.hevc_tables.specs.HrdTable.{sub_layer, sub_layers}
use Rattle.hevc_video_set.specs.HrdParams.{plain_hrd_params}
use Rattle.hevc_hrd.proofs.sub_layers.read_sub_layers.Given as goal

abbrev pub invariant-loop-i : goal.invariant-loop-i
invariant-loop-i l = record {
  same : scanned (repeat sub_layer l.i (l.count - l.i) (plain_hrd_params l.hrd)) l.r ≡ scanned
      (sub_layers l.max_sub_layers_minus1 (plain_hrd_params l.fn.hrd)) l.fn.r;
  ahead : IsAhead l.fn.r.place l.r.place;
}
