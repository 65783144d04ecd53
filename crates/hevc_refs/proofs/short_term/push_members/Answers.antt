use Rattle.std.proofs.Common.{◌≡◌, ◌++◌, ℤ, ◌+ℤ◌, ◌&&◌, pos, slice_index_or, w32, ap, ◌∙◌, arith, map, filter}
use Rattle.std.specs.Ordering.{int_eq}
use Rattle.std.proofs.lemmas.Int.{ints, to_z-of_z}
use Rattle.hevc_walk_inputs.specs.Headers.{short_term_member}
use Rattle.hevc_walk.specs.ReferenceSets.{first_number, is_short_term, short_term_entry}
use Rattle.hevc_walk.specs.ReferenceLists.{numbers_below}
use Rattle.hevc_dpb.specs.Views.{buffer_of}
use Rattle.hevc_refs.specs.Marking.{is_wanted}
use Rattle.hevc_refs.proofs.MemberLaws.{wanted_more}
use Rattle.hevc_refs.proofs.short_term.push_members.Goals as goal

pub loop-i-preserved : goal.loop-i-preserved
loop-i-preserved g c = record {
  few = omega arith;
  pushed = λ p is_count. wanted_more (short_term_entry p (buffer_of c.args.dpb.now))
      (is_wanted c.args.wanted) (short_term_member c.args.deltas.now c.args.used.now) c.args.out.now.items
      c.loop-i.i c.loop-i.out.items _ c.number_of-number.result _ (c.loop-i.invariant.pushed p is_count)
      (c.number_of-number.ensures
      ∙ ap (λ (x : ℤ). first_number (λ e. is_short_term e.mark && int_eq e.order_count x)
      (buffer_of c.args.dpb.now)) {y = p.order_count +ℤ slice_index_or c.args.deltas.now c.loop-i.i (pos 0)}
      (omega (arith, ints, is_count))) c.is_wanted.ensures c.push_if.ensures.pushed;
}

pub returns-clause-pushed : goal.returns-clause-pushed
returns-clause-pushed g c p is_count =
    let end : c.loop-i.i ≡ c.args.count = omega arith in
    c.loop-i.invariant.pushed p (to_z-of_z w32 c.args.order_count c.ranges.order_count ∙ is_count)
    ∙ ap (λ n. c.args.out.now.items ++ map (short_term_entry p (buffer_of c.args.dpb.now))
    (filter (is_wanted c.args.wanted)
    (map (short_term_member c.args.deltas.now c.args.used.now) (numbers_below n)))) end
