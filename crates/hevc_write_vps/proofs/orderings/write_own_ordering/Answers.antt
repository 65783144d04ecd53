use Rattle.std.proofs.Common.{refl}
use Rattle.hevc_tables.specs.VpsTable.{own_ordering}
use Rattle.hevc_video_set.specs.Vps.{plain_vps}
use Rattle.hevc_write_elements.proofs.Steps.{check_if_then, done_filled, ue_then}
use Rattle.hevc_write_elements.proofs.Loops.{one_less}
use Rattle.hevc_write_vps.proofs.orderings.write_own_ordering.Goals as goal

pub returns : goal.returns
unfolding own_ordering
returns c =
    let x = plain_vps c.args.x.now in
    let i = c.args.i in
    let first = c.in_ok-write_number.ensures in
    let second = c.in_ok-write_number-2.ensures in
    let third = c.in_ok-write_number-3.ensures in
    record {
      written = λ y w.
          ue_then _ refl _ _ first.1 (λ v1 _ b1 buffering_row.
          ue_then _ refl _ _ second.1 (λ v2 _ b2 reordering_row.
          ue_then _ refl _ _ third.1 (λ v3 _ b3 latency_row.
          check_if_then _ _ _ (check_if_then _ _ _ (done_filled (λ a.
          let buffering = one_less i y.max_dec_pic_buffering_minus1 x.max_dec_pic_buffering_minus1 v1 0 first.0 a.0 in
          let reordering = one_less i y.max_num_reorder_pics x.max_num_reorder_pics v2 0 second.0 a.1 in
          let latency = one_less i y.max_latency_increase_plus1 x.max_latency_increase_plus1 v3 0 third.0 a.2 in (
            (buffering.0, reordering.0, latency.0),
            λ at. latency_row latency.1 (reordering_row reordering.1 (buffering_row buffering.1 at)),
          )))))));
    }
