-- A format that was accepted stays, or gives way to another.
use Rattle.std.proofs.Common.{◌≡◌, [], refl, ◌∙◌, ap, Option, Some, None, Bool, true, false, if◌then◌else◌}
use Rattle.std.specs.Prelude.{is_some}
use Rattle.hevc_walk.specs.Meanings.{Format, Slice, Meaning, SequenceSet, CodedSlice, EndOfSequence}
use Rattle.hevc_walk.specs.Meanings.{EndOfBitstream, Other, Refused}
use Rattle.hevc_walk.specs.DependentSlices.{whole_slice}
use Rattle.hevc_walk.specs.Pictures.{Head, head}
use Rattle.hevc_walk.specs.Buffer.{bumping, draining, needs_bumping}
use Rattle.hevc_walk.specs.ReferenceSets.{reference_set, with_marks}
use Rattle.hevc_walk.specs.Walk.{◌>>=◌, nothing, Store, is_decoded, is_accepted, make_room}
use Rattle.hevc_walk.specs.Walk.{start_decoding, begin_picture, change_format, open_sequence}
use Rattle.hevc_walk.specs.Walk.{output_by, needed_entries}
use Rattle.hevc_walk_units.specs.Units.{Standing, on_store, finish_current, open_head, open_picture}
use Rattle.hevc_walk_units.specs.Units.{begin_slice, later_slice, slice_part, whole_part}
use Rattle.hevc_walk_units.specs.Units.{begins_picture, first_slice, sequence_part, unit_part}
use Rattle.hevc_driver.specs.Moments.{with_kept}
use Rattle.hevc_driver.proofs.Taking.{finish_accepted, later_next, decode_next}

room_accepted : (p : Head) (st : Store) → (make_room p st).next.accepted ≡ st.accepted
unfolding make_room
room_accepted p st = by p.no_output_of_prior_pics p.starts_sequence
  where
    by : (b c : Bool)
        → (if b then nothing (record st { buffer = [] }) else if c then output_by draining st else output_by
        (bumping (needs_bumping p.limits)) (record st { buffer = needed_entries st.buffer })).next.accepted
        ≡ st.accepted
    by true c = refl
    by false true = refl
    by false false = refl

begin_accepted : (p : Head) (w : Slice) (st : Store) → (begin_picture p w st).next.accepted ≡ st.accepted
unfolding begin_picture start_decoding
begin_accepted p w st = by (is_decoded p)
  where
    by : (b : Bool)
        → (if b then make_room p (record st { buffer = with_marks p w st.buffer }) >>= start_decoding p
        (reference_set p w st.buffer) else nothing st).next.accepted ≡ st.accepted
    by true = room_accepted p (record st { buffer = with_marks p w st.buffer })
    by false = refl

change_accepted : (f : Format) (st : Store) → is_some st.accepted ≡ true
    → is_some (change_format f st).next.accepted ≡ true
unfolding change_format
change_accepted f st some = by (is_accepted f st.accepted)
  where
    by : (b : Bool) → is_some (if b then nothing st else output_by draining st >>= open_sequence f).next.accepted ≡ true
    by true = some
    by false = refl

begun_accepted : (w : Slice) (s : Standing) → is_some s.store.accepted ≡ true
    → is_some (begin_slice w s).next.store.accepted ≡ true
begun_accepted w s some =
    ap (λ (v : Standing). is_some v.store.accepted)
    (decode_next w (open_picture (head s.next w) w (on_store (change_format (head s.next w).format) s).next).next)
    ∙ ap is_some (begin_accepted (head s.next w) w (change_format (head s.next w).format s.store).next)
    ∙ change_accepted (head s.next w).format s.store some

slice_accepted : (w : Slice) (s : Standing) → is_some s.store.accepted ≡ true
    → is_some (slice_part w s).next.store.accepted ≡ true
slice_accepted w s some = by (begins_picture s.current w)
  where
    by : (b : Bool) → is_some (if b then first_slice w s else later_slice w s).next.store.accepted ≡ true
    by true = begun_accepted w (finish_current s).next
        (ap is_some (finish_accepted (open_head s.current) s.store) ∙ some)
    by false = ap (λ (v : Standing). is_some v.store.accepted) (later_next w s) ∙ some

whole_accepted : (o : Option Slice) (s : Standing) → is_some s.store.accepted ≡ true
    → is_some (whole_part o s).next.store.accepted ≡ true
whole_accepted None s some = some
whole_accepted (Some w) s some = slice_accepted w s some

pub stays_accepted : (x : Meaning) (s : Standing) → is_some s.store.accepted ≡ true
    → is_some (unit_part x s).next.store.accepted ≡ true
stays_accepted (SequenceSet f) s some = by s.store.accepted
  where
    by : (a : Option Format) → is_some (sequence_part a f s).next.store.accepted ≡ true
    by None = refl
    by (Some g) = some
stays_accepted (CodedSlice w) s some = whole_accepted (whole_slice s.kept w) (with_kept w s) some
stays_accepted EndOfSequence s some = some
stays_accepted EndOfBitstream s some = some
stays_accepted Other s some = some
stays_accepted (Refused c) s some = some
