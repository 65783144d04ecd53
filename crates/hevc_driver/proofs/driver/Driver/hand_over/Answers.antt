use Rattle.std.proofs.Common.{refl, ap, subst, false, [], ◌∷◌}
use Rattle.hevc_walk.specs.Walk as walk
use Rattle.hevc_refs.specs.Sets.{plain_set}
use Rattle.hevc_backend.specs.Calls.{new_picture_call, begin_picture_call, decode_slice_call}
use Rattle.hevc_backend.proofs.ToldLaws.{told_call, told_same}
use Rattle.hevc_backend.proofs.NamedLaws.{list0_among, list1_among}
use Rattle.hevc_backend.specs.Handed.{plain_dpb, plain_picture, segment_of}
use Rattle.hevc_backend.specs.Trait.{Frames}
use Rattle.hevc_backend.proofs.HandedLaws.{announced_now, announced_more, among_more, among_now}
use Rattle.hevc_driver.specs.Given.{given_slice}
use Rattle.hevc_driver.specs.Does.{Does}
use Rattle.hevc_driver.specs.Heads.{head_of}
use Rattle.hevc_driver.specs.Slices.{slice_of}
use Rattle.hevc_driver.specs.Standings.{traces}
use Rattle.hevc_driver.specs.Moments.{new_call, begin_call}
use Rattle.hevc_driver.proofs.Doing.{runs_stop, does_call, does_then, stops_at, stops_then, keeps_all, keeps_more}
use Rattle.hevc_driver.proofs.SliceViews.{slice_made}
use Rattle.hevc_driver.proofs.Soundness.{as_announced_more, as_announced_same, accepted_sequence}
use Rattle.hevc_driver.proofs.Soundness.{fits_none, sound_told, same_grows}
use Rattle.hevc_driver.proofs.driver.Driver.hand_over.Goals as goal

pub returns-in_err-picture-clause-part : goal.returns-in_err-picture-clause-part
returns-in_err-picture-clause-part g c o =
    runs_stop _ _ _ _ _ _ _ _ c.from_residual.ensures.1
    (stops_at _ _ _ (new_call (head_of c.args.head.now)) _ _ c.in_err-picture.ensures.log
    c.in_err-picture.ensures.handed (ap (λ (f : Frames). f.asked) c.in_err-picture.ensures.not_taken) refl
    (keeps_all _ _ refl) (tt, refl))

pub begin_picture-requires-clause-told : goal.begin_picture-requires-clause-told
begin_picture-requires-clause-told g c =
    told_call (new_picture_call c.args.head.now.number c.args.head.now.picture c.args.timestamp)
    c.in_ok-picture.ensures.log c.requires.ready.sound.told
    (λ t h. record {
      handles = h.handles;
      sequence = accepted_sequence _ _ _ c.requires.ready.accepted h.sequence;
      picture = refl;
    })

pub begin_picture-requires-clause-begun : goal.begin_picture-requires-clause-begun
begin_picture-requires-clause-begun g c =
    told_call (new_picture_call c.args.head.now.number c.args.head.now.picture c.args.timestamp)
    c.in_ok-picture.ensures.log c.requires.ready.sound.told (λ t h. refl)

pub begin_picture-requires-clause-stored : goal.begin_picture-requires-clause-stored
begin_picture-requires-clause-stored g c =
    announced_more _ _ _ _ c.in_ok-picture.ensures.handed c.requires.ready.sound.announced.stored

pub decode_slice-requires-clause-stored : goal.decode_slice-requires-clause-stored
decode_slice-requires-clause-stored g c =
    announced_more _ _ _ _ c.in_ok-begin_picture.ensures.handed
    (announced_more _ _ _ _ c.in_ok-picture.ensures.handed c.requires.ready.sound.announced.stored)

pub begin_picture-requires-clause-announced : goal.begin_picture-requires-clause-announced
begin_picture-requires-clause-announced g c = announced_now _ _ _ _ c.in_ok-picture.ensures.handed

pub returns-in_err-begin_picture-clause-stays : goal.returns-in_err-begin_picture-clause-stays
returns-in_err-begin_picture-clause-stays g c =
    record {
      sound = sound_told _ _ _ _ _ c.requires.ready.sound
          (told_same c.in_err-begin_picture.ensures.log
          (told_call (new_picture_call c.args.head.now.number c.args.head.now.picture c.args.timestamp)
          c.in_ok-picture.ensures.log c.requires.ready.sound.told
          (λ t h. fits_none _ t _ c.requires.ready.none refl refl h)) (λ t h. h))
          (as_announced_same _ _ _ c.in_err-begin_picture.ensures.handed
          (as_announced_more _ _ _ c.args.self.now.standing c.in_ok-picture.ensures.handed
          c.requires.ready.sound.announced));
      grows = same_grows 0 _ _ refl refl;
      kept = refl;
    }

pub returns-in_err-begin_picture-clause-part : goal.returns-in_err-begin_picture-clause-part
returns-in_err-begin_picture-clause-part g c o =
    let p = head_of c.args.head.now in
    runs_stop _ _ _ _ _ _ _ _ c.from_residual-in_err-begin_picture.ensures.1
    (stops_then _ _
    (traces (g.B.StatelessH265DecoderBackend.log c.new_picture.new.self)
    (g.B.StatelessH265DecoderBackend.handed c.new_picture.new.self)
    (g.B.StatelessH265DecoderBackend.frames c.new_picture.new.self).asked c.args.self.now.standing) _
    (walk.Called (new_call p) ∷ []) _ _
    (does_call _ _ _ (new_picture_call c.args.head.now.number c.args.head.now.picture c.args.timestamp)
    c.in_ok-picture.ensures.log c.in_ok-picture.ensures.handed
    (ap (λ (f : Frames). f.asked) c.in_ok-picture.ensures.taken) refl (keeps_more _ _ _ refl) refl)
    (stops_at _ _ _ (begin_call p (plain_set c.args.self.now.standing.set)) _ _
    c.in_err-begin_picture.ensures.log c.in_err-begin_picture.ensures.handed
    (ap (λ (f : Frames). f.asked) c.in_err-begin_picture.ensures.frames) refl (keeps_all _ _ refl) (tt, refl)))

pub decode_slice-requires-clause-list0 : goal.decode_slice-requires-clause-list0
decode_slice-requires-clause-list0 g c =
    list0_among _ c.args.self.now.standing.set
    (slice_of (record { handle_cra_as_bla = false; highest_tid = 6; highest_layer = 63 }) c.args.slice.now c.args.sps.now
    c.args.pps.now) _
    (c.build_lists.ensures.list0 (record { handle_cra_as_bla = false; highest_tid = 6; highest_layer = 63 }) c.args.sps.now)
    c.requires.newest.references

pub decode_slice-requires-clause-list1 : goal.decode_slice-requires-clause-list1
decode_slice-requires-clause-list1 g c =
    list1_among _ c.args.self.now.standing.set
    (slice_of (record { handle_cra_as_bla = false; highest_tid = 6; highest_layer = 63 }) c.args.slice.now c.args.sps.now
    c.args.pps.now) _
    (c.build_lists.ensures.list1 (record { handle_cra_as_bla = false; highest_tid = 6; highest_layer = 63 }) c.args.sps.now)
    c.requires.newest.references

pub decode_slice-requires-clause-told : goal.decode_slice-requires-clause-told
decode_slice-requires-clause-told g c =
    told_call (begin_picture_call c.args.head.now.number c.args.self.now.standing.set) c.in_ok-begin_picture.ensures.log
    (told_call (new_picture_call c.args.head.now.number c.args.head.now.picture c.args.timestamp)
    c.in_ok-picture.ensures.log c.requires.ready.sound.told
    (λ t h. record {
      handles = h.handles;
      sequence = accepted_sequence _ _ _ c.requires.ready.accepted h.sequence;
      picture = refl;
    })) (λ t h. h)

pub returns-in_err-decode_slice-clause-stays : goal.returns-in_err-decode_slice-clause-stays
returns-in_err-decode_slice-clause-stays g c =
    record {
      sound = sound_told _ _ _ _ _ c.requires.ready.sound
          (told_same c.in_err-decode_slice.ensures.log
          (told_call (begin_picture_call c.args.head.now.number c.args.self.now.standing.set)
          c.in_ok-begin_picture.ensures.log
          (told_call (new_picture_call c.args.head.now.number c.args.head.now.picture c.args.timestamp)
          c.in_ok-picture.ensures.log c.requires.ready.sound.told
          (λ t h. fits_none _ t _ c.requires.ready.none refl refl h)) (λ t h. h)) (λ t h. h))
          (as_announced_same _ _ _ c.in_err-decode_slice.ensures.handed
          (as_announced_more _ _ _ c.args.self.now.standing c.in_ok-begin_picture.ensures.handed
          (as_announced_more _ _ _ c.args.self.now.standing c.in_ok-picture.ensures.handed
          c.requires.ready.sound.announced)));
      grows = same_grows 0 _ _ refl refl;
      kept = refl;
    }

pub returns-in_err-decode_slice-clause-part : goal.returns-in_err-decode_slice-clause-part
returns-in_err-decode_slice-clause-part g c o =
    let p = head_of c.args.head.now in
    runs_stop _ _ _ _ _ _ _ _ c.from_residual-in_err-decode_slice.ensures.1
    (stops_then _ _
    (traces (g.B.StatelessH265DecoderBackend.log c.new_picture.new.self)
    (g.B.StatelessH265DecoderBackend.handed c.new_picture.new.self)
    (g.B.StatelessH265DecoderBackend.frames c.new_picture.new.self).asked c.args.self.now.standing) _
    (walk.Called (new_call p) ∷ []) _ _
    (does_call _ _ _ (new_picture_call c.args.head.now.number c.args.head.now.picture c.args.timestamp)
    c.in_ok-picture.ensures.log c.in_ok-picture.ensures.handed
    (ap (λ (f : Frames). f.asked) c.in_ok-picture.ensures.taken) refl (keeps_more _ _ _ refl) refl)
    (stops_then _ _
    (traces (g.B.StatelessH265DecoderBackend.log c.begin_picture.new.self)
    (g.B.StatelessH265DecoderBackend.handed c.begin_picture.new.self)
    (g.B.StatelessH265DecoderBackend.frames c.begin_picture.new.self).asked c.args.self.now.standing) _
    (walk.Called (begin_call p (plain_set c.args.self.now.standing.set)) ∷ []) _ _
    (does_call _ _ _ (begin_picture_call c.args.head.now.number c.args.self.now.standing.set)
    c.in_ok-begin_picture.ensures.log c.in_ok-begin_picture.ensures.handed
    (ap (λ (f : Frames). f.asked) c.in_ok-begin_picture.ensures.frames) refl (keeps_more _ _ _ refl) tt)
    (stops_at _ _ _
    (walk.slice_call p (plain_set c.args.self.now.standing.set)
    (slice_of o c.args.slice.now c.args.sps.now c.args.pps.now)) [] _ c.in_err-decode_slice.ensures.log
    c.in_err-decode_slice.ensures.handed (ap (λ (f : Frames). f.asked) c.in_err-decode_slice.ensures.frames)
    refl (keeps_all _ _ refl) (tt, refl))))

pub returns-clause-part : goal.returns-clause-part
returns-clause-part g c o =
    let p = head_of c.args.head.now in
    let given = given_slice c.args.timestamp (plain_picture c.args.head.now.picture)
    (plain_dpb c.args.self.now.standing.dpb) (segment_of c.args.slice.now c.args.sps.now c.args.pps.now) in
    record {
      does = does_then _ _
          (traces (g.B.StatelessH265DecoderBackend.log c.new_picture.new.self)
          (g.B.StatelessH265DecoderBackend.handed c.new_picture.new.self)
          (g.B.StatelessH265DecoderBackend.frames c.new_picture.new.self).asked c.args.self.now.standing) _
          (walk.Called (new_call p) ∷ []) _
          (does_call _ _ _
          (new_picture_call c.args.head.now.number c.args.head.now.picture c.args.timestamp)
          c.in_ok-picture.ensures.log c.in_ok-picture.ensures.handed
          (ap (λ (f : Frames). f.asked) c.in_ok-picture.ensures.taken) refl (keeps_more _ _ _ refl) refl)
          (does_then _ _
          (traces (g.B.StatelessH265DecoderBackend.log c.begin_picture.new.self)
          (g.B.StatelessH265DecoderBackend.handed c.begin_picture.new.self)
          (g.B.StatelessH265DecoderBackend.frames c.begin_picture.new.self).asked c.args.self.now.standing)
          _ (walk.Called (begin_call p (plain_set c.args.self.now.standing.set)) ∷ []) _
          (does_call _ _ _ (begin_picture_call c.args.head.now.number c.args.self.now.standing.set)
          c.in_ok-begin_picture.ensures.log c.in_ok-begin_picture.ensures.handed
          (ap (λ (f : Frames). f.asked) c.in_ok-begin_picture.ensures.frames) refl (keeps_more _ _ _ refl) tt)
          (subst (λ (made : walk.Call). Does given
          (traces (g.B.StatelessH265DecoderBackend.log c.begin_picture.new.self)
          (g.B.StatelessH265DecoderBackend.handed c.begin_picture.new.self)
          (g.B.StatelessH265DecoderBackend.frames c.begin_picture.new.self).asked c.args.self.now.standing)
          (traces (g.B.StatelessH265DecoderBackend.log c.decode_slice.new.self)
          (g.B.StatelessH265DecoderBackend.handed c.decode_slice.new.self)
          (g.B.StatelessH265DecoderBackend.frames c.decode_slice.new.self).asked c.args.self.now.standing)
          (walk.Called made ∷ []))
          (slice_made g.row.B-Handle.Denot o c.args.slice.now c.args.sps.now c.args.pps.now p
          (plain_set c.args.self.now.standing.set) _ _ (c.build_lists.ensures.list0 o c.args.sps.now)
          (c.build_lists.ensures.list1 o c.args.sps.now))
          (does_call given
          (traces (g.B.StatelessH265DecoderBackend.log c.begin_picture.new.self)
          (g.B.StatelessH265DecoderBackend.handed c.begin_picture.new.self)
          (g.B.StatelessH265DecoderBackend.frames c.begin_picture.new.self).asked c.args.self.now.standing)
          (traces (g.B.StatelessH265DecoderBackend.log c.decode_slice.new.self)
          (g.B.StatelessH265DecoderBackend.handed c.decode_slice.new.self)
          (g.B.StatelessH265DecoderBackend.frames c.decode_slice.new.self).asked c.args.self.now.standing)
          (decode_slice_call c.args.head.now.number c.args.slice.now c.build_lists.new.lists.ref_pic_list0
          c.build_lists.new.lists.ref_pic_list1) c.in_ok-decode_slice.ensures.log
          c.in_ok-decode_slice.ensures.handed
          (ap (λ (f : Frames). f.asked) c.in_ok-decode_slice.ensures.frames) refl (keeps_more _ _ _ refl) tt)));
      next = refl;
    }

pub returns-clause-stays : goal.returns-clause-stays
returns-clause-stays g c =
    let s = c.requires.ready.sound in
    let n = c.requires.newest in
    record {
      sound = record {
        sized = s.sized;
        latency = s.latency;
        below = s.below;
        newest = record { newer = n.newer; counted = n.counted; references = n.references; accepted = n.accepted };
        announced = record {
          stored = announced_more _ _ _ _ c.in_ok-decode_slice.ensures.handed
              (announced_more _ _ _ _ c.in_ok-begin_picture.ensures.handed
              (announced_more _ _ _ _ c.in_ok-picture.ensures.handed s.announced.stored));
          current = among_more _ _ _ _ _ c.in_ok-decode_slice.ensures.handed
              (among_more _ _ _ _ _ c.in_ok-begin_picture.ensures.handed
              (among_now _ _ _ c.args.head.now.picture c.in_ok-picture.ensures.handed));
        };
        told = told_call
            (decode_slice_call c.args.head.now.number c.args.slice.now c.build_lists.new.lists.ref_pic_list0
            c.build_lists.new.lists.ref_pic_list1) c.in_ok-decode_slice.ensures.log
            (told_call (begin_picture_call c.args.head.now.number c.args.self.now.standing.set)
            c.in_ok-begin_picture.ensures.log
            (told_call (new_picture_call c.args.head.now.number c.args.head.now.picture c.args.timestamp)
            c.in_ok-picture.ensures.log s.told
            (λ t h. record { handles = h.handles; sequence = h.sequence; picture = refl })) (λ t h. h)) (λ t h. h);
      };
      grows = same_grows 0 _ _ refl refl;
      kept = refl;
    }
