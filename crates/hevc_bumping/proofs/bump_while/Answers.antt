use Rattle.std.proofs.Common.{false, refl, sym, ap, ◌∙◌, arith, [], ◌∷◌, ◌++◌}
use Rattle.hevc_bumping.specs.declared.frame.Frame.{Frame}
use Rattle.hevc_walk.specs.Buffer.{in_output_order}
use Rattle.hevc_walk_bumps.proofs.Bumps.{over, none_left_waiting}
use Rattle.hevc_dpb.specs.Plain.{plain_entry}
use Rattle.hevc_dpb.specs.Views.{stored_entries, buffer_of}
use Rattle.hevc_bumping.specs.Rules.{holds}
use Rattle.hevc_bumping.proofs.Steps.{output_entries, plain_distinct, step, begun, ended, onward}
use Rattle.hevc_bumping.proofs.Steps.{unchanged, none_waits, stays_whole}
use Rattle.hevc_bumping.proofs.bump_while.Goals as goal

pub loop-rule-init : goal.loop-rule-init
loop-rule-init g c = record {
  so_far = begun (holds c.args.rule) c.args.dpb.now c.args.queue.now c.requires.latency;
  room = c.requires.room;
}

pub loop-rule-smaller : goal.loop-rule-smaller
loop-rule-smaller g c =
    let s = step (holds c.args.rule) (buffer_of c.loop-rule.dpb) (buffer_of c.bump.new.self)
    (plain_entry c.in-Some.entry) (plain_distinct (stored_entries c.loop-rule.dpb) c.loop-rule.dpb.distinct)
    (sym c.loop-rule-test.ensures) c.in-Some.ensures.first (c.in-Some.ensures.buffer refl) in
    omega (arith, s.fewer)

pub loop-rule-preserved : goal.loop-rule-preserved
loop-rule-preserved g c =
    let s = step (holds c.args.rule) (buffer_of c.loop-rule.dpb) (buffer_of c.bump.new.self)
    (plain_entry c.in-Some.entry) (plain_distinct (stored_entries c.loop-rule.dpb) c.loop-rule.dpb.distinct)
    (sym c.loop-rule-test.ensures) c.in-Some.ensures.first (c.in-Some.ensures.buffer refl) in
    record {
      so_far = onward (holds c.args.rule) c.args.dpb.now c.loop-rule.dpb c.bump.new.self c.args.queue.now
          c.loop-rule.queue _ c.in-Some.entry c.loop-rule.invariant.so_far s
          (c.push_back_reserved.ensures.items
          ∙ ap (λ (f : Frame g.row.H.Denot). c.loop-rule.queue.items ++ f ∷ []) c.of.ensures)
          c.push_back_reserved.ensures.capacity c.in-Some.ensures.given
          (record {
            handles = c.in-Some.ensures.leaves.handles;
            entries = output_entries false _ (stored_entries c.loop-rule.dpb)
                (stored_entries c.bump.new.self) c.in-Some.ensures.left;
            size = c.in-Some.ensures.leaves.keeps.size;
            room = c.in-Some.ensures.leaves.keeps.room;
            latency = c.in-Some.ensures.leaves.keeps.latency c.loop-rule.invariant.so_far.latency;
          });
      room = omega (
        arith,
        s.fewer,
        c.push_back_reserved.ensures.len,
        c.push_back_reserved.ensures.capacity,
        c.loop-rule.invariant.room,
      );
    }

pub returns-in-None : goal.returns-in-None
returns-in-None g c =
    let none = none_waits (buffer_of c.loop-rule.dpb) c.in-None.ensures.first in
    let same = c.in-None.ensures.buffer refl ∙ stays_whole (buffer_of c.loop-rule.dpb) none in
    ended (holds c.args.rule) c.args.dpb.now c.bump.new.self c.args.queue.now c.loop-rule.queue
    (unchanged (holds c.args.rule) c.args.dpb.now c.loop-rule.dpb c.bump.new.self c.args.queue.now
    c.loop-rule.queue c.loop-rule.invariant.so_far same
    (record {
      handles = c.in-None.ensures.leaves.handles;
      entries = output_entries false _ (stored_entries c.loop-rule.dpb)
          (stored_entries c.bump.new.self) c.in-None.ensures.left;
      size = c.in-None.ensures.leaves.keeps.size;
      room = c.in-None.ensures.leaves.keeps.room;
      latency = c.in-None.ensures.leaves.keeps.latency c.loop-rule.invariant.so_far.latency;
    }))
    (none_left_waiting (holds c.args.rule) (buffer_of c.bump.new.self) (ap in_output_order same ∙ none))

pub returns : goal.returns
returns g c =
    ended (holds c.args.rule) c.args.dpb.now c.loop-rule.dpb c.args.queue.now c.loop-rule.queue
    c.loop-rule.invariant.so_far
    (over (holds c.args.rule) (buffer_of c.loop-rule.dpb) (sym c.loop-rule-test.ensures))
