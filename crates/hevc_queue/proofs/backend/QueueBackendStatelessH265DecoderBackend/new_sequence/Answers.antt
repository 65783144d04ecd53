use Rattle.std.proofs.Common.{length, refl, ap, sym, ◌∙◌}
use Rattle.hevc_queue.specs.Controls.{wanted}
use Rattle.hevc_queue.specs.declared.given.Given.TheVariants.{Sequence}
use Rattle.hevc_queue.specs.Queue.{Queue}
use Rattle.hevc_queue.proofs.ControlLaws.{latest_stay}
use Rattle.hevc_queue.proofs.QueueLaws.{queue_more}
use Rattle.hevc_queue.proofs.backend.QueueBackendStatelessH265DecoderBackend.new_sequence.Goals as goal

-- the queue after the call
pub invariant_of-self-2 : goal.invariant_of-self-2
invariant_of-self-2 c =
    let q = c.self.inside in
    let g = Sequence c.args.sps.now in
    let at = c.in_ok-place.ensures.place ∙ ap (λ (queue : Queue). length queue.given) (sym c.self.view_is) in
    let more =
    queue_more q.history.items c.and-self-inside.result.items g
    c.in_ok-place.place q.queue c.put.new.self c.sequence_event-event.result
    c.self.invariant at c.sequence_event-event.ensures
    c.in_ok-put.ensures.put c.and-self-inside.ensures in
    let filled = latest_stay q.before.items q.history.items g (wanted q.controls) (λ latest. refl)
    (λ latest. refl) c.self.invariant.2 in
    (more.0, more.1, rw c.and-self-inside.ensures filled)
