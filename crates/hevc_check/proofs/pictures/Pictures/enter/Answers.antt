use Rattle.std.proofs.Common.{ap, sym, refl, ◌∙◌}
use Rattle.std.specs.Prelude.{option_map}
use Rattle.hevc_backend.specs.Negotiation.{format_of}
use Rattle.hevc_walk.specs.Buffer.{Buffer}
use Rattle.hevc_walk.specs.Walk.{Store, begin_picture, needed_entries}
use Rattle.hevc_dpb.specs.Entries.{tickets}
use Rattle.hevc_dpb.specs.Views.{stored_entries, buffer_of}
use Rattle.hevc_dpb.proofs.Sublists.{sublist_part}
use Rattle.hevc_driver.specs.Heads.{head_of}
use Rattle.hevc_driver.specs.Slices.{slice_of}
use Rattle.hevc_driver.proofs.Doing.{keeps_all}
use Rattle.hevc_check.specs.Places.{Place, room_left}
use Rattle.hevc_check.proofs.Places.{with_store, skipped_next, not_decoded, entered_next, decoded_is}
use Rattle.hevc_check.proofs.Sounds.{left_sound}
use Rattle.hevc_check.proofs.pictures.Pictures.enter.Goals as goal

pub returns-then-head-clause-left : goal.returns-then-head-clause-left
returns-then-head-clause-left c o pps range =
    let v = c.args.self.now in
    let p = head_of c.args.head.now in
    ap (λ (s : Store). record v { store = s })
    (sym (skipped_next p (slice_of o c.args.slice.now c.args.sps.now pps) v.store
    (not_decoded p range c.if-head.true)))

pub invariant_of-self : goal.invariant_of-self
invariant_of-self c =
    let w = c.self.inside in
    let m = c.reference_set.ensures.kept in
    let r = c.remove_unused.ensures in
    left_sound w.accepted w.accepted w.dpb c.remove_unused.new.self w.out w.out w.latest w.next c.self.invariant
    (r.leaves.keeps.size ∙ m.size ∙ c.self.invariant.sized)
    (r.leaves.keeps.latency (m.latency c.self.invariant.latency)) (r.leaves.keeps.room ∙ m.room) refl
    (λ x k. keeps_all (tickets (stored_entries w.dpb)) (tickets (stored_entries c.reference_set.new.dpb)) m.handles x
    (sublist_part r.leaves.handles x k))

pub returns-clause-left : goal.returns-clause-left
returns-clause-left c o pps range =
    let v = c.args.self.now in
    let p = head_of c.args.head.now in
    let s = slice_of o c.args.slice.now c.args.sps.now pps in
    let decoded = decoded_is p range c.if-head.false in
    let there = c.remove_unused.ensures.buffer ∙ ap needed_entries (c.reference_set.ensures.marks o pps) in
    let w : Place =
    record {
      store = record
          { accepted = option_map format_of c.self.inside.accepted; buffer = buffer_of c.self.inside.dpb };
      latest =
          v.latest;
      next = v.next;
      kept = v.kept;
    } in
    c.make_room.ensures
    ∙ with_store _ v _ _ c.self.view_is
    (ap (λ (es : Buffer). record { accepted = w.store.accepted; buffer = room_left p es }) there
    ∙ sym (entered_next p s w.store decoded) ∙ ap (λ (x : Place). (begin_picture p s x.store).next) c.self.view_is)
