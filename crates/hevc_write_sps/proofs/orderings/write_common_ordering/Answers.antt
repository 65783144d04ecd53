use Rattle.std.proofs.Common.{refl, sym, ◌∙◌}
use Rattle.hevc_tables.specs.SpsTable.{common_ordering}
use Rattle.hevc_write_elements.proofs.Steps.{by, done_filled, ue_then}
use Rattle.hevc_write_set_parts.proofs.Orderings.{highest_is}
use Rattle.hevc_write_sps.proofs.orderings.write_common_ordering.Goals as goal

pub returns : goal.returns
unfolding common_ordering
returns c =
    let first = c.in_ok-write_number.ensures in
    let second = c.in_ok-write_number-2.ensures in
    let third = c.in_ok-write_number-3.ensures in
    record {
      written = λ y w.
          ue_then _ refl _ _ first.1 (λ v1 _ b1 max_dec_pic_buffering_minus1_row.
          ue_then _ refl _ _ second.1 (λ v2 _ b2 max_num_reorder_pics_row.
          ue_then _ refl _ _ third.1 (λ v3 _ b3 max_latency_increase_plus1_row.
          done_filled (λ e at.
          let m = by e (λ r. r.max_sub_layers_minus1) ∙ sym c.from-highest.ensures in
          max_latency_increase_plus1_row
          (highest_is y.max_sub_layers_minus1 v3 _ _ (by e (λ r. r.max_latency_increase_plus1)) m)
          (max_num_reorder_pics_row (highest_is y.max_sub_layers_minus1 v2 _ _ (by e (λ r. r.max_num_reorder_pics)) m)
          (max_dec_pic_buffering_minus1_row
          (highest_is y.max_sub_layers_minus1 v1 _ _ (by e (λ r. r.max_dec_pic_buffering_minus1)) m) at))))));
    }
