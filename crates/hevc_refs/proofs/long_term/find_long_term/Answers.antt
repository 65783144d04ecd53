use Rattle.std.proofs.Common.{◌≡◌, ◌+◌, [], w32, refl, ap, ◌∙◌, arith, map, filter, not}
use Rattle.std.proofs.lemmas.Int.{to_z-of_z}
use Rattle.hevc_walk_inputs.specs.Headers.{long_term_member}
use Rattle.hevc_picture_slice.specs.SliceHeader.{plain_slice_header}
use Rattle.hevc_walk.specs.ReferenceSets.{long_term_entry, is_curr_long_term}
use Rattle.hevc_walk.specs.ReferenceLists.{numbers_below}
use Rattle.hevc_dpb.specs.Views.{buffer_of}
use Rattle.hevc_refs.proofs.MemberLaws.{wanted_more}
use Rattle.hevc_refs.proofs.long_term.find_long_term.Goals as goal

pub loop-i-preserved : goal.loop-i-preserved
loop-i-preserved g c = record {
  few_curr = omega arith;
  few_foll = omega arith;
  curr = λ p first is_count is_m. wanted_more (long_term_entry p first (buffer_of c.args.dpb.now))
      is_curr_long_term (long_term_member (plain_slice_header c.args.header.now)) [] c.loop-i.i
      c.loop-i.curr.items _ c.number_of-number.result _ (c.loop-i.invariant.curr p first is_count is_m)
      (c.number_of-number.ensures p first is_count is_m) refl c.push_if.ensures.pushed;
  foll = λ p first is_count is_m. wanted_more (long_term_entry p first (buffer_of c.args.dpb.now))
      (λ m. not (is_curr_long_term m)) (long_term_member (plain_slice_header c.args.header.now)) []
      c.loop-i.i c.loop-i.foll.items _ c.number_of-number.result _
      (c.loop-i.invariant.foll p first is_count is_m) (c.number_of-number.ensures p first is_count is_m)
      refl c.push_if-in-loop-i.ensures.pushed;
}

pub returns-clause-curr : goal.returns-clause-curr
returns-clause-curr g c p first is_count is_m =
    let end : c.loop-i.i ≡ c.args.header.now.num_long_term_sps + c.args.header.now.num_long_term_pics = omega arith in
    c.loop-i.invariant.curr p first (to_z-of_z w32 c.args.order_count c.ranges.order_count ∙ is_count)
    (to_z-of_z w32 c.args.modulus c.ranges.modulus ∙ is_m)
    ∙ ap (λ n. map (long_term_entry p first (buffer_of c.args.dpb.now))
    (filter is_curr_long_term (map (long_term_member (plain_slice_header c.args.header.now)) (numbers_below n)))) end

pub returns-clause-foll : goal.returns-clause-foll
returns-clause-foll g c p first is_count is_m =
    let end : c.loop-i.i ≡ c.args.header.now.num_long_term_sps + c.args.header.now.num_long_term_pics = omega arith in
    c.loop-i.invariant.foll p first (to_z-of_z w32 c.args.order_count c.ranges.order_count ∙ is_count)
    (to_z-of_z w32 c.args.modulus c.ranges.modulus ∙ is_m)
    ∙ ap (λ n. map (long_term_entry p first (buffer_of c.args.dpb.now))
    (filter (λ m. not (is_curr_long_term m))
    (map (long_term_member (plain_slice_header c.args.header.now)) (numbers_below n)))) end
