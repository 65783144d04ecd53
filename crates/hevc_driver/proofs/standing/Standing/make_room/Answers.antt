use Rattle.std.proofs.Common.{refl, sym, ap, ◌∙◌, length, arith, rules}
use Rattle.hevc_dpb.specs.Plain.{plain_entries}
use Rattle.hevc_dpb.specs.Entries.{tickets}
use Rattle.hevc_dpb.specs.Views.{buffer_of}
use Rattle.hevc_dpb.proofs.Sublists.{sublist_part}
use Rattle.hevc_bumping.specs.Bumps.{num_waiting}
use Rattle.hevc_driver.specs.Heads.{head_of}
use Rattle.hevc_driver.specs.Standings.{standing}
use Rattle.hevc_driver.proofs.PictureBegins.{clears, drains, bumps}
use Rattle.hevc_driver.proofs.Rooms.{needed_order}
use Rattle.hevc_backend.proofs.HandedLaws.{stored_part}
use Rattle.hevc_driver.proofs.Rooms.{needed_pictures, none_pictures}
use Rattle.hevc_driver.proofs.Soundness.{bumped_total}
use Rattle.hevc_driver.proofs.standing.Standing.make_room.Goals as goal

pub returns-then-head-clause-part : goal.returns-then-head-clause-part
returns-then-head-clause-part g c log handed asked t =
    clears t _ _ (head_of c.args.head.now) (standing c.args.self.now) c.clear.new.self c.if-head.true
    (ap plain_entries c.clear.ensures.entries) (ap tickets c.clear.ensures.entries) refl refl refl refl refl

pub returns-then-starts_sequence-clause-part : goal.returns-then-starts_sequence-clause-part
returns-then-starts_sequence-clause-part g c log handed asked t =
    drains t _ _ (head_of c.args.head.now)
    (standing c.args.self.now) c.args.self.now.dpb c.output_all.new.dpb c.args.self.now.queue
    c.output_all.new.queue c.if-head.false (sym c.starts_sequence.ensures ∙ c.if-starts_sequence.true) refl
    c.output_all.ensures refl refl refl refl refl refl refl

pub returns-else-starts_sequence-clause-part : goal.returns-else-starts_sequence-clause-part
returns-else-starts_sequence-clause-part g c log handed asked t =
    bumps t _ _ (head_of c.args.head.now) (standing c.args.self.now) c.remove_unused.new.self
    c.bump_for_room.new.dpb c.args.self.now.queue c.bump_for_room.new.queue c.if-head.false
    (sym c.starts_sequence.ensures ∙ c.if-starts_sequence.false) c.remove_unused.ensures.buffer
    (λ x k. sublist_part c.remove_unused.ensures.leaves.handles x k) c.bump_for_room.ensures refl refl refl refl refl refl

pub bump_for_room-requires-clause-room : goal.bump_for_room-requires-clause-room
bump_for_room-requires-clause-room g c =
    let same = ap num_waiting c.remove_unused.ensures.buffer in
    let kept = ap length (needed_order (buffer_of c.args.self.now.dpb)) in
    omega (arith, same, kept, c.requires.room.queue)

pub returns-else-starts_sequence-clause-leaves : goal.returns-else-starts_sequence-clause-leaves
returns-else-starts_sequence-clause-leaves g c =
    let same = ap num_waiting c.remove_unused.ensures.buffer in
    let kept = ap length (needed_order (buffer_of c.args.self.now.dpb)) in
    let b = c.bump_for_room.ensures in
    record {
      handles = λ x k. sublist_part c.remove_unused.ensures.leaves.handles x (b.handles x k);
      pictures = λ x k. needed_pictures _ _ c.remove_unused.ensures.entries x (stored_part _ _ b.entries x k);
      size = b.size ∙ c.remove_unused.ensures.leaves.keeps.size;
      latency = b.latency;
      grows = record {
        few = (let t = bumped_total _ _ _ _ _ b in omega (arith, t, same, kept));
        capacity = b.capacity;
        stored = b.room ∙ c.remove_unused.ensures.leaves.keeps.room;
      };
      accepted = refl;
      current = refl;
      kept = refl;
    }

pub returns-then-head-clause-leaves : goal.returns-then-head-clause-leaves
returns-then-head-clause-leaves g c = record {
  handles = search rules;
  pictures = none_pictures _ _ c.clear.ensures.entries;
  size = search rules;
  latency = search rules;
  grows = search rules;
  accepted = refl;
  current = refl;
  kept = refl;
}

pub returns-then-starts_sequence-clause-leaves : goal.returns-then-starts_sequence-clause-leaves
returns-then-starts_sequence-clause-leaves g c = record {
  handles = search rules;
  pictures = stored_part _ _ c.output_all.ensures.entries;
  size = search rules;
  latency = search rules;
  grows = record {
    few = (let t = bumped_total _ _ _ _ _ c.output_all.ensures in omega (arith, t));
    capacity = c.output_all.ensures.capacity;
    stored = c.output_all.ensures.room;
  };
  accepted = refl;
  current = refl;
  kept = refl;
}
