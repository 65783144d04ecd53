use Rattle.std.proofs.Common.{false, refl, arith}
use Rattle.hevc_tables.specs.HrdTable.{schedule}
use Rattle.hevc_write_elements.proofs.Steps.{flag_then, ue_then, ue_if_then, done_filled}
use Rattle.hevc_write_elements.proofs.Loops.{one_less}
use Rattle.hevc_write_set_parts.proofs.hrd_schedules.write_schedule.Goals as goal

pub returns : goal.returns
unfolding schedule
returns c =
    let x = c.args.x.now in
    record {
      written = λ y w.
          ue_then _ refl _ _ c.in_ok-ue.ensures (λ v1 _ b1 rate_row.
          ue_then _ refl _ _ c.in_ok-ue-2.ensures (λ v2 _ b2 size_row.
          ue_if_then _ refl _ _ _ _ c.in_ok-ue_if.ensures (λ v3 b3 unit_size_row.
          ue_if_then _ refl _ _ _ _ c.in_ok-ue_if-2.ensures (λ v4 b4 unit_rate_row.
          flag_then _ refl c.in_ok-flag.ensures (λ v5 b5 constant_row.
          done_filled (λ a.
          let rate = one_less c.args.i y.bit_rate_value_minus1 x.bit_rate_value_minus1 v1 0 (omega arith) a.0 in
          let size = one_less c.args.i y.cpb_size_value_minus1 x.cpb_size_value_minus1 v2 0 (omega arith) a.1 in
          let unit_size = one_less c.args.i y.cpb_size_du_value_minus1 x.cpb_size_du_value_minus1 v3 0
          (omega arith) a.2 in
          let unit_rate = one_less c.args.i y.bit_rate_du_value_minus1 x.bit_rate_du_value_minus1 v4 0
          (omega arith) a.3 in
          let constant = one_less c.args.i y.cbr_flag x.cbr_flag v5 false (omega arith) a.4 in (
            (rate.0, size.0, unit_size.0, unit_rate.0, constant.0),
            λ at. constant_row constant.1
                (unit_rate_row refl unit_rate.1
                (unit_size_row refl unit_size.1 (size_row size.1 (rate_row rate.1 at)))),
          )))))));
    }
