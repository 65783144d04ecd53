use Rattle.std.proofs.Common.{ℕ, Bool, refl, sym, ◌∙◌}
use Rattle.hevc_tables.specs.SliceHeaderTable.{is_weighted, weights}
use Rattle.hevc_tables.specs.SliceTypes.{is_b}
use Rattle.hevc_tables.specs.WeightedPredictionTable.{pred_weight_table}
use Rattle.hevc_sequence_set.specs.Sps.{plain_sps}
use Rattle.hevc_picture_slice.specs.Pps.{plain_pps}
use Rattle.hevc_picture_slice.specs.SliceHeader.{plain_slice_header}
use Rattle.hevc_write_slice_parts.proofs.WeightKeeps.{pred_weight_table_fillable}
use Rattle.hevc_write_elements.proofs.Steps.{by, done_filled, then_filled, flag_if_then, ue_then}
use Rattle.hevc_write_elements.proofs.Steps.{one_table_if_written, flags, numbers, pairs}
use Rattle.hevc_write_slice_header.proofs.prediction.write_weights.Goals as goal

pub returns : goal.returns
unfolding weights
returns c =
    let x = plain_slice_header c.args.x.now in
    let sps = plain_sps c.args.sps.now in
    record {
      written = λ y w.
          then_filled (one_table_if_written (λ (k : Bool × (ℕ × ℕ)). pred_weight_table sps k.0 k.1.0 k.1.1)
          (λ k. pred_weight_table_fillable sps k.0 k.1.0 k.1.1)
          (is_b y.type_, (y.num_ref_idx_l0_active_minus1, y.num_ref_idx_l1_active_minus1))
          (is_b x.type_, (x.num_ref_idx_l0_active_minus1, x.num_ref_idx_l1_active_minus1)) _ _
          (pairs (flags (is_b y.type_) (is_b x.type_))
          (pairs (numbers y.num_ref_idx_l0_active_minus1 x.num_ref_idx_l0_active_minus1)
          (numbers y.num_ref_idx_l1_active_minus1 x.num_ref_idx_l1_active_minus1)))
          c.in_ok-write_pred_weight_table_if.ensures (λ v1 b1 pred_weight_table_row.
          ue_then _ refl _ _ c.in_ok-ue_u8.ensures (λ v2 _ b2 five_minus_max_num_merge_cand_row.
          flag_if_then _ refl _ _ c.in_ok-flag_if.ensures (λ v3 b3 use_integer_mv_flag_row.
          done_filled (λ e at.
          use_integer_mv_flag_row refl (by e (λ r. r.use_integer_mv_flag))
          (five_minus_max_num_merge_cand_row (by e (λ r. r.five_minus_max_num_merge_cand))
          (pred_weight_table_row (by e (λ r. is_weighted (plain_pps c.args.pps.now) r.type_)
          ∙ sym c.is_weighted.ensures)
          (by e (λ r. (is_b r.type_, (r.num_ref_idx_l0_active_minus1, r.num_ref_idx_l1_active_minus1))))
          (by e (λ r. r.pred_weight_table)) at)))))));
    }
