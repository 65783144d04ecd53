use contract.BorrowLft.{⊑_meet, ⊑_static}
use Rattle.std.proofs.Common.{length, ap, sym, ◌∙◌}
use Rattle.hevc_queue.specs.declared.given.Given.TheVariants.{Slice}
use Rattle.hevc_queue.specs.Controls.{wanted}
use Rattle.hevc_queue.specs.Given.{slice_with}
use Rattle.hevc_queue.specs.Queue.{Queue}
use Rattle.hevc_queue.proofs.ControlLaws.{latest_slices}
use Rattle.hevc_queue.proofs.QueueLaws.{queue_more}
use Rattle.hevc_queue.proofs.backend.QueueBackendStatelessH265DecoderBackend.decode_slice.Goals as goal

-- the queue after the call, and what is filled
pub invariant_of-self-2 : goal.invariant_of-self-2
invariant_of-self-2 c =
    let q = c.self.inside in
    let a = c.args in
    let given = slice_with a.number a.slice.now a.sps.now a.pps.now a.dpb.now a.ref_pic_list0.now a.ref_pic_list1.now in
    let at = c.in_ok-place.ensures.place ∙ ap (λ (queue : Queue). length queue.given) (sym c.self.view_is) in
    let more =
    queue_more q.history.items c.and-self-inside.result.items (Slice given)
    c.in_ok-place.place q.queue c.put.new.self c.slice_event-event.result
    c.self.invariant at (c.slice_event-event.ensures)
    c.in_ok-put.ensures.put c.and-self-inside.ensures in
    let filled =
    latest_slices q.before.items q.history.items given (wanted q.controls)
    (wanted c.fill_slice.new.controls) c.fill_slice.ensures c.self.invariant.2 in
    (more.0, more.1, rw c.and-self-inside.ensures filled)

-- the call is told of what lives as long as the arguments
pub and-self-inside-requires : goal.and-self-inside-requires
and-self-inside-requires c κs within =
    let told = (⊑_meet _ _ _
    (⊑_meet _ _ _ within.0 (⊑_meet _ _ _ (⊑_meet _ _ _ (⊑_meet _ _ _ within.1.0 (⊑_static _)) (⊑_static _))
    (⊑_static _)))
    (⊑_meet _ _ _ (⊑_meet _ _ _ within.1.1.0 (⊑_static _))
    (⊑_meet _ _ _ (⊑_meet _ _ _ within.1.1.1.0 (⊑_static _))
    (⊑_meet _ _ _ (⊑_meet _ _ _ within.1.1.1.1.0 (⊑_static _))
    (⊑_meet _ _ _ (⊑_meet _ _ _ within.1.1.1.1.1.0 (⊑_static _))
    (⊑_meet _ _ _ (⊑_meet _ _ _ within.1.1.1.1.1.1.0 (⊑_static _)) (⊑_static _))))))) in
    (⊑_static _, ⊑_meet _ _ _ told told)
