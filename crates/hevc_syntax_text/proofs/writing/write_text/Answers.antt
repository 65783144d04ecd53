use Rattle.std.proofs.Common.{ℕ, Option, arith, subst}
use Rattle.hevc_syntax_text.specs.Standing.{before_of}
use Rattle.hevc_syntax_text.specs.Steps.{TakesNext, TakesNextIfAny}
use Rattle.hevc_syntax_text.proofs.Steps.{once}
use Rattle.hevc_syntax_text.proofs.Flowing.{flow_ends, flow_ends_early, flow_less, flow_next, flow_on, flow_over}
use Rattle.hevc_syntax_text.proofs.Flowing.{flow_part, on_refusal}
use Rattle.hevc_syntax_text.proofs.writing.write_text.Goals as goal

pub returns-in_err-next-clause-less : goal.returns-in_err-next-clause-less
returns-in_err-next-clause-less g c =
    on_refusal c.from_residual.result _ (flow_less _ _ _ _ _ _ c.loop-text.invariant.flow)

pub returns-in_err-write_block-clause-less : goal.returns-in_err-write_block-clause-less
returns-in_err-write_block-clause-less g c =
    let stream = c.args.stream.now in
    let old = c.loop-text.text in
    let new = c.take_next.new.self in
    let t : TakesNext stream c.loop-text.position c.in-Some.next old new =
    subst (λ (o : Option ℕ). TakesNextIfAny stream c.loop-text.position o old new) c.in-Some.is c.in_ok-next.ensures in
    let f = flow_next c.args.request stream _ _ old new c.loop-text.position c.in-Some.next c.loop-text.invariant.flow
    t in
    on_refusal c.from_residual-in_err-write_block.result _
    (flow_part _ _ _ _ _ _ f (g.K.Sink.written c.write_block.new.sink) c.in_err-write_block.ensures.less)

pub loop-text-preserved : goal.loop-text-preserved
loop-text-preserved g c =
    let stream = c.args.stream.now in
    let old = c.loop-text.text in
    let new = c.take_next.new.self in
    let t : TakesNext stream c.loop-text.position c.in-Some.next old new =
    subst (λ (o : Option ℕ). TakesNextIfAny stream c.loop-text.position o old new) c.in-Some.is c.in_ok-next.ensures in
    let f = flow_next c.args.request stream _ _ old new c.loop-text.position c.in-Some.next c.loop-text.invariant.flow
    t in
    let before = c.loop-text.invariant in
    let same = c.write_block.ensures.same in
    let one = once old.request old.units (before_of old.sets) stream t.unit in
    record {
      within = t.within;
      few = omega (arith, before.few, t.ahead, t.takes.units, same.units);
      less = omega (arith, before.less, t.takes.units, t.takes.refused, one, same.units, same.refused);
      faults = omega (arith, before.faults, c.write_block.ensures.later);
      flow = flow_on _ _ _ _ _ _ f (g.K.Sink.written c.write_block.new.sink) c.write_block.new.self
          c.in_ok-write_block.ensures.passes same;
    }

pub returns-clause-whole : goal.returns-clause-whole
returns-clause-whole g c =
    let f = flow_over c.args.request c.args.stream.now _ _ c.loop-text.text c.take_next.new.self c.loop-text.position
    c.in_ok-next.field-0 c.in_default.not-Some c.loop-text.invariant.flow c.in_ok-next.ensures in
    flow_ends _ _ _ _ (g.K.Sink.written c.finish.new.sink) _ f c.finish.result c.finish.ensures.all
    c.finish.ensures.status

pub returns-clause-less : goal.returns-clause-less
returns-clause-less g c =
    let f = flow_over c.args.request c.args.stream.now _ _ c.loop-text.text c.take_next.new.self c.loop-text.position
    c.in_ok-next.field-0 c.in_default.not-Some c.loop-text.invariant.flow c.in_ok-next.ensures in
    flow_ends_early _ _ _ _ (g.K.Sink.written c.finish.new.sink) _ f c.finish.result c.finish.ensures.less
