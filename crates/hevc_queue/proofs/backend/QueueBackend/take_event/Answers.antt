use Rattle.hevc_queue.proofs.QueueLaws.{first_taken, queue_less}
use Rattle.hevc_queue.proofs.backend.QueueBackend.take_event.Goals as goal

-- the queue after the call
pub invariant_of-self : goal.invariant_of-self
invariant_of-self c =
    let q = c.self.inside in
    queue_less q.history.items q.queue c.take.new.self c.take.result c.self.invariant
    c.take.ensures.first c.take.ensures.taken c.take.ensures.unchanged

-- the event is that of the call at its place
pub returns-clause-told : goal.returns-clause-told
returns-clause-told c =
    let q = c.self.inside in
    rw (← c.self.view_is)
    (first_taken q.history.items q.queue c.take.new.self.events c.take.result c.self.invariant.1
    c.take.ensures.first)
