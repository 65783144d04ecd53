use Rattle.std.proofs.Common.{◌≡◌, ◌-◌}
use Rattle.hevc_spec.specs.Payload.{IsAhead}
use Rattle.hevc_elements.specs.Scan.{scanned}
use Rattle.hevc_spec.specs.Rows.{repeat}
use Rattle.hevc_tables.specs.HrdTable.{schedule, sub_layer_hrd_parameters}
use Rattle.hevc_video_set.specs.SublayerHrdParameters.{plain_sublayer_hrd_parameters}
use Rattle.hevc_hrd.proofs.schedules.read_schedules.Given as goal

abbrev pub invariant-loop-i : goal.invariant-loop-i
invariant-loop-i l = record {
  same : scanned (repeat (schedule l.by_units) l.i (l.count - l.i) (plain_sublayer_hrd_parameters l.hrd))
      l.r ≡ scanned (sub_layer_hrd_parameters l.by_units l.cpb_cnt_minus1) l.fn.r;
  ahead : IsAhead l.fn.r.place l.r.place;
}
