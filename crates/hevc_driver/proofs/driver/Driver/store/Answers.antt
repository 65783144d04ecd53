use Rattle.std.proofs.Common.{refl, sym, ap, ◌∙◌, arith, rules}
use Rattle.std.proofs.lemmas.List.{length-map}
use Rattle.hevc_dpb.specs.Entries.{tickets}
use Rattle.hevc_dpb.specs.Plain.{plain_entry}
use Rattle.hevc_dpb.specs.Views.{stored_entries, buffer_of, max_num_pics_of}
use Rattle.hevc_dpb.proofs.Members.{contains_later}
use Rattle.hevc_bumping.specs.Bumps.{num_waiting}
use Rattle.hevc_walk_units.specs.Units.{Current}
use Rattle.hevc_refs.specs.Sets.{plain_set}
use Rattle.hevc_backend.specs.declared.call.Call.TheVariants.{SubmitPicture}
use Rattle.hevc_backend.proofs.ToldLaws.{told_call, submitted_more}
use Rattle.hevc_backend.specs.Trait.{Frames}
use Rattle.hevc_driver.specs.Heads.{head_of}
use Rattle.hevc_driver.specs.Standings.{standing}
use Rattle.hevc_backend.proofs.HandedLaws.{announced_same, announced_stored, stored_more, stored_part}
use Rattle.hevc_driver.proofs.Storing.{not_skipped, unsubmitted, fills, stored, room_left, no_room}
use Rattle.hevc_driver.proofs.Soundness.{as_announced_same, none_announced, below_absent}
use Rattle.hevc_driver.proofs.Soundness.{below_part, stored_below, stored_waiting, bumped_total}
use Rattle.hevc_driver.proofs.Soundness.{none_newest, none_latest, kept_sound, sound_told}
use Rattle.hevc_driver.proofs.driver.Driver.store.Goals as goal

pub store_picture-requires-clause-other : goal.store_picture-requires-clause-other
store_picture-requires-clause-other g c = below_absent _ _ c.requires.newest.newer

pub returns-in_err-handle-clause-part : goal.returns-in_err-handle-clause-part
returns-in_err-handle-clause-part g c t =
    unsubmitted _ _ _ _ _ (head_of c.args.opened.head) (plain_set c.args.self.now.standing.set)
    (standing c.args.self.now.standing) _ c.from_residual.ensures.1
    (not_skipped _ c.args.opened.decoded) c.in_err-handle.ensures.log c.in_err-handle.ensures.handed
    (ap (λ (f : Frames). f.asked) c.in_err-handle.ensures.frames) refl refl
    (ap (λ (v : Current). record (standing c.args.self.now.standing) { current = v }) c.requires.none)

pub returns-in_err-store_picture-clause-part : goal.returns-in_err-store_picture-clause-part
returns-in_err-store_picture-clause-part g c t =
    fills _ _ _ _ (head_of c.args.opened.head) (plain_set c.args.self.now.standing.set)
    (standing c.args.self.now.standing) _
    (max_num_pics_of c.args.self.now.standing.dpb) c.in_ok-handle.handle
    c.from_residual-in_err-store_picture.ensures.1 (not_skipped _ c.args.opened.decoded) c.requires.sound.sized
    (no_room _ _ _ _ _ c.in_err-store_picture.was c.store_picture.ensures.full.0
    (sym (length-map (stored_entries c.args.self.now.standing.dpb) plain_entry)))
    c.in_ok-handle.ensures.log c.in_ok-handle.ensures.handed
    (ap (λ (f : Frames). f.asked) c.in_ok-handle.ensures.frames) refl
    (ap (λ d. tickets (stored_entries d)) c.in_err-store_picture.ensures.stays)
    (cc (ap buffer_of c.in_err-store_picture.ensures.stays, c.requires.none, c.tid0_behind-self.ensures))

pub returns-clause-part : goal.returns-clause-part
returns-clause-part g c t =
    stored _ _ _ (head_of c.args.opened.head) (plain_set c.args.self.now.standing.set)
    (standing c.args.self.now.standing) _
    (max_num_pics_of c.args.self.now.standing.dpb) c.in_ok-handle.handle c.store_picture.new.self
    c.bump_additionally.new.dpb c.args.self.now.standing.queue c.bump_additionally.new.queue
    (not_skipped _ c.args.opened.decoded) c.requires.sound.sized
    (room_left _ _ _ _ _ c.in_ok-store_picture.was c.store_picture.ensures.full.1
    (sym (length-map (stored_entries c.args.self.now.standing.dpb) plain_entry)))
    c.in_ok-handle.ensures.log c.in_ok-handle.ensures.handed
    (ap (λ (f : Frames). f.asked) c.in_ok-handle.ensures.frames)
    (c.in_ok-store_picture.ensures.buffer (head_of c.args.opened.head) (record {
      same_number = refl;
      order_count = refl;
      pic_output_flag = refl;
    }) c.requires.sound.latency) c.in_ok-store_picture.ensures.stored.handles c.bump_additionally.ensures refl refl
    refl (cc (c.requires.none, c.tid0_behind-self.ensures))

pub bump_additionally-requires-clause-room : goal.bump_additionally-requires-clause-room
bump_additionally-requires-clause-room g c =
    let more = stored_waiting (head_of c.args.opened.head) (buffer_of c.args.self.now.standing.dpb) in
    let same = ap num_waiting (c.in_ok-store_picture.ensures.buffer (head_of c.args.opened.head) (record {
      same_number = refl;
      order_count = refl;
      pic_output_flag = refl;
    }) c.requires.sound.latency) in
    omega (arith, more, same, c.requires.room.queue)

pub returns-in_err-store_picture-clause-stays : goal.returns-in_err-store_picture-clause-stays
returns-in_err-store_picture-clause-stays g c =
    let same = c.in_err-store_picture.ensures.stays in
    let s = kept_sound _ _ _ _ c.requires.sound refl (ap stored_entries same)
    (ap max_num_pics_of same) refl refl refl in
    record {
      sound = sound_told _ _ _ _ _ s
          (told_call (SubmitPicture c.args.opened.head.number c.in_ok-handle.handle)
          c.in_ok-handle.ensures.log s.told
          (λ t h. record {
            handles = λ x k. contains_later _ x _ (h.handles x k);
            sequence = h.sequence;
            picture = none_latest _ _ _ c.requires.none;
          })) (as_announced_same _ _ _ c.in_ok-handle.ensures.handed s.announced);
      grows = search rules;
      kept = refl;
    }

pub returns-clause-stays : goal.returns-clause-stays
returns-clause-stays g c =
    let more = stored_waiting (head_of c.args.opened.head) (buffer_of c.args.self.now.standing.dpb) in
    let same = ap num_waiting (c.in_ok-store_picture.ensures.buffer (head_of c.args.opened.head) (record {
      same_number = refl;
      order_count = refl;
      pic_output_flag = refl;
    }) c.requires.sound.latency) in
    let s = c.requires.sound in
    let b = c.bump_additionally.ensures in
    let e = c.in_ok-store_picture.ensures in
    let t = bumped_total _ _ _ _ _ b in
    record {
      sound = record {
        sized = b.size ∙ e.keeps.size ∙ s.sized;
        latency = b.latency;
        below = below_part _ _ _ _ (stored_below _ _ _ _ s.below c.requires.newest.counted e.stored.handles)
            (omega arith) b.handles;
        newest = none_newest _ _ _ c.requires.none;
        announced = record {
          stored = announced_same _ _ _ _ refl (stored_part _ _ b.entries)
              (announced_stored _ _ _ _ _ c.args.opened.head.picture c.in_ok-handle.ensures.handed
              (stored_more _ _ c.args.opened.head.number c.args.opened.head.picture c.in_ok-handle.handle
              e.stored.entries) c.requires.announced s.announced.stored);
          current = none_announced _ _ _ c.requires.none;
        };
        told = told_call (SubmitPicture c.args.opened.head.number c.in_ok-handle.handle)
            c.in_ok-handle.ensures.log s.told (λ t h. record {
              handles = λ x k. submitted_more _ _ _ _ e.stored.handles h.handles x (b.handles x k);
              sequence = h.sequence;
              picture = none_latest _ _ _ c.requires.none;
            });
      };
      grows = record {
        few = omega (arith, more, same, t);
        capacity = b.capacity;
        stored = b.room ∙ c.in_ok-store_picture.ensures.keeps.room;
      };
      kept = refl;
    }
