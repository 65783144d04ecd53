use Rattle.std.proofs.Common.{◌++◌, ℕ, List, [], ap, sym, subst, ◌∙◌, arith, append-nil, append_assoc, Option}
use Rattle.hevc_spec.specs.Units.{NalUnit, kept_bytes, units_from}
use Rattle.hevc_parser.specs.Kept.{kept_by}
use Rattle.hevc_stream.specs.Kept.{Kept}
use Rattle.hevc_write.specs.Steps.{TakesNextIfAny}
use Rattle.hevc_write.proofs.Rewritten.{Left, begins, ends, takes}
use Rattle.hevc_write.proofs.rewriting.append_rewritten.Goals as goal

pub loop-parser-init : goal.loop-parser-init
loop-parser-init c = record {
  within = omega arith;
  grows = ([], sym (append-nil c.args.out.now.items));
  left = begins c.args.stream.now c.args.out.now.items (kept_by c.new-parser.result).sequence_sets
      (ap (λ (k : Kept). k.sequence_sets) c.new-parser.ensures);
}

pub loop-parser-preserved : goal.loop-parser-preserved
loop-parser-preserved c =
    let stream = c.args.stream.now in
    let before = c.loop-parser.invariant in
    let old = (kept_by c.loop-parser.parser).sequence_sets in
    let new = (kept_by c.append_next.new.parser).sequence_sets in
    let n = subst
    (λ (o : Option ℕ). TakesNextIfAny stream c.loop-parser.position o c.loop-parser.out.items
    c.append_next.new.out.items old new) c.in-Some.is c.in_ok-next.ensures.next in
    let left = subst
    (λ (us : List NalUnit). Left stream c.args.out.now.items c.loop-parser.out.items old us) n.first before.left in
    record {
      within = n.within;
      grows = (
        before.grows.0 ++ c.append_next.ensures.grows.0,
        c.append_next.ensures.grows.1
            ∙ ap (λ (x : List ℕ). x ++ c.append_next.ensures.grows.0) before.grows.1
            ∙ append_assoc c.args.out.now.items before.grows.0 c.append_next.ensures.grows.0,
      );
      left = takes stream c.args.out.now.items c.loop-parser.out.items c.append_next.new.out.items old new
          n.unit (units_from kept_bytes c.in-Some.next stream) left (n.takes left.kept left.sets_are);
    }

pub returns-clause-ok : goal.returns-clause-ok
returns-clause-ok c =
    let stream = c.args.stream.now in
    let before = c.loop-parser.invariant in
    let old = (kept_by c.loop-parser.parser).sequence_sets in
    let new = (kept_by c.append_next.new.parser).sequence_sets in
    let n = subst
    (λ (o : Option ℕ). TakesNextIfAny stream c.loop-parser.position o c.loop-parser.out.items
    c.append_next.new.out.items old new) c.in_default.is c.in_ok-next.ensures.next in
    let all = ends stream c.args.out.now.items c.loop-parser.out.items old
    (units_from kept_bytes c.loop-parser.position stream) n.0 before.left in
    (all.0, n.1 ∙ all.1, all.2)
