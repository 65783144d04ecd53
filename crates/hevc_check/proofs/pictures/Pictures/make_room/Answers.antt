use Rattle.std.proofs.Common.{◌∙◌, arith}
use Rattle.hevc_check.proofs.Sounds.{left_sound, few_waiting}
use Rattle.hevc_check.proofs.pictures.Pictures.make_room.Goals as goal

pub bump_for_room-requires-clause-room : goal.bump_for_room-requires-clause-room
bump_for_room-requires-clause-room c =
    let few = few_waiting c.self.inside.dpb in
    omega (arith, few, c.clear-2.ensures.len, c.clear-2.ensures.capacity, c.self.invariant.queue)

pub invariant_of-self-2 : goal.invariant_of-self-2
invariant_of-self-2 c =
    let w = c.self.inside in
    let b = c.bump_for_room.ensures in
    left_sound w.accepted w.accepted w.dpb c.bump_for_room.new.dpb w.out c.bump_for_room.new.queue w.latest w.next
    c.self.invariant (b.size ∙ c.self.invariant.sized) b.latency b.room (b.capacity ∙ c.clear-2.ensures.capacity)
    b.handles
