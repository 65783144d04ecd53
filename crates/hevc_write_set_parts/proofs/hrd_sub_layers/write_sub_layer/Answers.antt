use Rattle.std.proofs.Common.{◌≡◌, ◌<◌, length, ℕ, Bool, false, get_or, refl, ap, ap₂, ◌∙◌, arith}
use Rattle.std.specs.Prelude.{not}
use Rattle.hevc_records.specs.HrdParams.{PlainHrdParams}
use Rattle.hevc_records.specs.SublayerHrdParameters.{default_sublayer_hrd_parameters}
use Rattle.hevc_tables.specs.HrdTable.{sub_layer, sub_layer_hrd_parameters}
use Rattle.hevc_video_set.specs.HrdParams.{plain_hrd_params}
use Rattle.std.proofs.lemmas.List.{length-map, get_or-map}
use Rattle.hevc_video_set.specs.SublayerHrdParameters.{plain_sublayer_hrd_parameters}
use Rattle.hevc_write_elements.proofs.Fillings.{then_filled}
use Rattle.hevc_write_elements.proofs.Steps.{flag_then, flag_if_then, ue_if_then}
use Rattle.hevc_write_elements.proofs.Steps.{one_table_if_written, pairs, flags, numbers}
use Rattle.hevc_write_elements.proofs.Steps.{done_filled}
use Rattle.hevc_write_elements.proofs.Loops.{one_less}
use Rattle.hevc_write_set_parts.proofs.HrdKeeps.{schedules_fillable}
use Rattle.hevc_write_set_parts.proofs.hrd_sub_layers.write_sub_layer.Goals as goal

pub returns : goal.returns
unfolding sub_layer
returns c =
    let x = plain_hrd_params c.args.x.now in
    let i = c.args.i in
    let nal_in : c.args.i < length (plain_hrd_params c.args.x.now).nal_hrd = simp length-map (omega arith) in
    let vcl_in : c.args.i < length (plain_hrd_params c.args.x.now).vcl_hrd = simp length-map (omega arith) in
    let j : Bool × ℕ = (x.sub_pic_hrd_params_present_flag, get_or x.cpb_cnt_minus1 i 0) in
    let same_schedules = λ (y : PlainHrdParams) (v : ℕ). pairs (flags y.sub_pic_hrd_params_present_flag j.0)
    (numbers v j.1) in
    record {
      written = λ y w.
          flag_then _ refl c.in_ok-flag.ensures (λ v1 b1 fixed_row.
          flag_if_then _ refl _ _ c.in_ok-flag_if.ensures (λ v2 b2 within_row.
          ue_if_then _ refl _ _ _ _ c.in_ok-ue_if.ensures (λ v3 b3 duration_row.
          flag_if_then _ refl _ _ c.in_ok-flag_if-2.ensures (λ v4 b4 low_delay_row.
          ue_if_then _ refl _ _ _ _ c.in_ok-ue_if-2.ensures (λ v5 b5 count_row.
          then_filled (one_table_if_written (λ (k : Bool × ℕ). sub_layer_hrd_parameters k.0 k.1)
          (λ k. schedules_fillable k.0 k.1) (y.sub_pic_hrd_params_present_flag, v5) j _ _
          (same_schedules y v5) c.in_ok-write_schedules_if.ensures (λ v6 b6 nal_row.
          then_filled (one_table_if_written (λ (k : Bool × ℕ). sub_layer_hrd_parameters k.0 k.1)
          (λ k. schedules_fillable k.0 k.1) (y.sub_pic_hrd_params_present_flag, v5) j _ _
          (same_schedules y v5) c.in_ok-write_schedules_if-2.ensures (λ v7 b7 vcl_row.
          done_filled (λ a.
          let fixed = one_less i y.fixed_pic_rate_general_flag x.fixed_pic_rate_general_flag v1 false
          (omega arith) a.1 in
          let within = one_less i y.fixed_pic_rate_within_cvs_flag x.fixed_pic_rate_within_cvs_flag v2 false
          (omega arith) a.2 in
          let duration = one_less i y.elemental_duration_in_tc_minus1 x.elemental_duration_in_tc_minus1 v3 0
          (omega arith) a.3 in
          let low_delay = one_less i y.low_delay_hrd_flag x.low_delay_hrd_flag v4 false (omega arith) a.4 in
          let count = one_less i y.cpb_cnt_minus1 x.cpb_cnt_minus1 v5 0 (omega arith) a.5 in
          let nal = one_less i y.nal_hrd x.nal_hrd v6 default_sublayer_hrd_parameters nal_in a.6 in
          let vcl = one_less i y.vcl_hrd x.vcl_hrd v7 default_sublayer_hrd_parameters vcl_in a.7 in
          let which : (y.sub_pic_hrd_params_present_flag, v5) ≡ j =
          ap₂ (λ (b : Bool) (n : ℕ). (b, n)) a.0.units count.1 in (
            (
              record { nal = a.0.nal; vcl = a.0.vcl; units = a.0.units },
              fixed.0,
              within.0,
              duration.0,
              low_delay.0,
              count.0,
              nal.0,
              vcl.0,
            ),
            λ at.
                vcl_row a.0.vcl which
                (vcl.1 ∙ get_or-map plain_sublayer_hrd_parameters c.args.x.now.vcl_hrd i _ _ (omega arith))
                (nal_row a.0.nal which
                (nal.1 ∙ get_or-map plain_sublayer_hrd_parameters c.args.x.now.nal_hrd i _ _ (omega arith))
                (count_row (ap not low_delay.1) count.1
                (low_delay_row (ap not within.1) low_delay.1
                (duration_row within.1 duration.1 (within_row (ap not fixed.1) within.1 (fixed_row fixed.1 at)))))),
          )))))))))));
    }
