use Rattle.std.proofs.Common.{ap, sym, ◌∙◌, subst, arith, None}
use Rattle.std.specs.Prelude.{Contains}
use Rattle.hevc_dpb.specs.Entries.{numbers, tickets}
use Rattle.hevc_dpb.specs.Views.{stored_entries, buffer_of}
use Rattle.hevc_walk_marks.specs.Marked.{has_reference}
use Rattle.hevc_walk.specs.Walk.{make_room}
use Rattle.hevc_walk_units.specs.Units.{Standing, Current, on_store}
use Rattle.hevc_backend.proofs.NamedLaws.{set_among, set_stored}
use Rattle.hevc_refs.specs.Sets.{plain_set}
use Rattle.hevc_backend.specs.Named.{SetNamesAmong}
use Rattle.hevc_driver.specs.Heads.{head_of, context_of}
use Rattle.hevc_driver.specs.Slices.{slice_of}
use Rattle.hevc_driver.specs.Does.{Completes}
use Rattle.hevc_driver.specs.Standings.{standing, traces}
use Rattle.hevc_driver.proofs.Soundness.{none_with}
use Rattle.hevc_backend.proofs.HandedLaws.{stored_marked}
use Rattle.hevc_driver.proofs.Doing.{no_given}
use Rattle.hevc_driver.proofs.PictureBegins.{entered}
use Rattle.hevc_driver.proofs.Rooms.{reference_stays, marks_wait}
use Rattle.hevc_driver.proofs.standing.Standing.enter.Goals as goal

pub returns-clause-part : goal.returns-clause-part
returns-clause-part g c log handed asked t o pps =
    entered t _ _ (head_of c.args.head.now) (slice_of o c.args.slice.now c.args.sps.now pps)
    (standing c.args.self.now) _ (buffer_of c.reference_set.new.dpb) (context_of c.behind-self.result)
    (tickets (stored_entries c.reference_set.new.dpb))
    (c.reference_set.ensures.marks o pps) c.behind-self.ensures c.reference_set.ensures.kept.handles
    (subst (λ (k : Current). Completes t
    (record (traces log handed asked c.args.self.now)
    { tickets = tickets (stored_entries c.reference_set.new.dpb) })
    (traces log handed asked c.make_room.new.self)
    (on_store (make_room (head_of c.args.head.now))
    (record (standing c.args.self.now) {
      store = record (standing c.args.self.now).store { buffer = buffer_of c.reference_set.new.dpb };
      next = context_of c.behind-self.result;
      current = k;
    })) (standing c.make_room.new.self))
    (none_with _ _ _ c.requires.none ∙ sym c.requires.none) (c.make_room.ensures.part log handed asked t))

pub returns-clause-set : goal.returns-clause-set
returns-clause-set g c o pps = ap plain_set c.make_room.ensures.set ∙ c.reference_set.ensures.set o pps

pub returns-clause-references : goal.returns-clause-references
returns-clause-references g c =
    subst (SetNamesAmong (numbers (stored_entries c.make_room.new.self.dpb))) (sym c.make_room.ensures.set)
    (set_stored c.reference_set.new.out (stored_entries c.make_room.new.self.dpb)
    (set_among c.reference_set.new.out (stored_entries c.make_room.new.self.dpb) (λ n h.
    ap (λ (s : Standing). has_reference n s.store.buffer) (c.make_room.ensures.part None None None no_given).next
    ∙ reference_stays (head_of c.args.head.now)
    (record (standing c.args.self.now).store { buffer = buffer_of c.reference_set.new.dpb }) n
    c.args.head.now.prior (λ begins. absurd (cc (sym (c.reference_set.ensures.nothing n begins) ∙ h)))
    (c.reference_set.ensures.named n h))))

pub make_room-requires-clause-room : goal.make_room-requires-clause-room
make_room-requires-clause-room g c =
    let k = c.reference_set.ensures.kept in
    let wait = marks_wait (stored_entries c.reference_set.new.dpb) (stored_entries c.args.self.now.dpb) k.entries in
    record {
      queue = omega (arith, wait, c.requires.room.queue);
      stored = omega (arith, k.room, c.requires.room.stored);
    }

pub returns-clause-leaves : goal.returns-clause-leaves
returns-clause-leaves g c =
    let k = c.reference_set.ensures.kept in
    let l = c.make_room.ensures.leaves in
    let wait = marks_wait (stored_entries c.reference_set.new.dpb) (stored_entries c.args.self.now.dpb) k.entries in
    record {
      handles = λ x h. subst (λ ts. Contains ts x) k.handles (l.handles x h);
      pictures = λ x h. subst (λ ts. Contains ts x) (stored_marked _ _ k.entries) (l.pictures x h);
      size = l.size ∙ k.size;
      latency = l.latency;
      grows = record {
        few = omega (arith, wait, l.grows.few);
        capacity = l.grows.capacity;
        stored = l.grows.stored ∙ k.room;
      };
      accepted = l.accepted;
      current = l.current;
      kept = l.kept;
    }
