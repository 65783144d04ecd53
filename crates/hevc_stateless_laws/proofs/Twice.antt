-- A unit that is given twice.
use Rattle.std.proofs.Common.{◌≡◌, [], ◌++◌, map, refl, sym, ◌∙◌, ap, subst, Option, Some, None}
use Rattle.std.proofs.Common.{Bool, true, false, not, ◌&&◌, if◌then◌else◌}
use Rattle.std.specs.Prelude.{is_some}
use Rattle.std.specs.List.{flat_map}
use Rattle.std.proofs.lemmas.Grind.{flat_map-append}
use Rattle.hevc_walk.specs.Meanings.{Format, Slice, Meaning, SequenceSet, CodedSlice, EndOfSequence}
use Rattle.hevc_walk.specs.Meanings.{EndOfBitstream, Other, Refused}
use Rattle.hevc_walk.specs.DependentSlices.{whole_slice}
use Rattle.hevc_walk.specs.Pictures.{Head, head}
use Rattle.hevc_walk.specs.Buffer.{Buffer, due_outputs, bumping, draining, needs_bumping}
use Rattle.hevc_walk.specs.ReferenceSets.{reference_set, with_marks, marked_if, all_members, with_long_term}
use Rattle.hevc_walk.specs.Walk as walk
use Rattle.hevc_walk.specs.Walk.{Event, Called, Output, Part, ◌>>=◌, nothing, call, slice_call}
use Rattle.hevc_walk.specs.Walk.{Store, is_accepted, is_decoded, make_room, start_decoding}
use Rattle.hevc_walk.specs.Walk.{begin_picture, change_format, output_by, open_sequence}
use Rattle.hevc_walk.specs.Walk.{needed_entries}
use Rattle.hevc_walk_units.specs.Units.{Standing, Current, NoPicture, SkippedPicture, OpenPicture}
use Rattle.hevc_walk_units.specs.Units.{on_store, finish_current, open_head, open_picture}
use Rattle.hevc_walk_units.specs.Units.{decode_slice, decode_current, first_slice, later_slice}
use Rattle.hevc_walk_units.specs.Units.{refusal_of_later, whole_part, begins_picture, unit_part}
use Rattle.hevc_walk_units.specs.Units.{refusal_at, refusal_of_whole, is_full_at}
use Rattle.hevc_walk.specs.Refusals.{refusal_of_picture}
use Rattle.hevc_driver.specs.Does.{output_in}
use Rattle.hevc_driver.specs.Moments.{starts, with_kept, negotiates, negotiates_by, opening, opening_by, step_part}
use Rattle.hevc_driver.proofs.Taking.{finish_accepted}
use Rattle.hevc_driver.proofs.PictureBegins.{change_other}
use Rattle.hevc_stateless.specs.States.{later_meaning}
use Rattle.hevc_stateless_laws.specs.Stands.{first_meaning}
use Rattle.hevc_stateless_laws.proofs.Repeating.{in_two, negotiates_once, never_full, refused_alike}
use Rattle.hevc_stateless_laws.proofs.Repeating.{again, other_accepted}

-- What a unit asks is what it asks up to the negotiation, and what it asks then, as z.
pub record TwiceBy (q : Part Standing) (z y : Meaning) (s : Standing) : Type 0 where
  pub part : unit_part y s ≡ (q >>= step_part z)
  pub refusal : refusal_at y s ≡ refusal_at z q.next
  pub full : is_full_at z q.next ≡ false
  pub once : negotiates z q.next ≡ false
  pub accepted : is_some q.next.store.accepted ≡ true

left_true : (a b : Bool) → a && b ≡ true → a ≡ true
left_true true b e = refl
left_true false b e = e

right_true : (a b : Bool) → a && b ≡ true → b ≡ true
right_true true b e = e
right_true false b e = absurd (cc e)

not_true : (a : Bool) → not a ≡ true → a ≡ false
not_true true e = absurd (cc e)
not_true false e = refl

pub twice_whole : (x : Slice) (s : Standing) (o : Option Slice) → whole_slice s.kept x ≡ o
    → negotiates_by o s ≡ true → TwiceBy (opening (CodedSlice x) s) (CodedSlice x) (CodedSlice x) s
twice_whole x s None whole e = absurd (cc e)
twice_whole x s (Some w) whole e =
    subst (λ (q : Part Standing). TwiceBy q (CodedSlice x) (CodedSlice x) s)
    (sym (ap (λ o. opening_by o (with_kept x s)) whole)) (record {
      part = ap (λ o. whole_part o (with_kept x s)) whole
          ∙ ap (λ (c : Bool). if c then first_slice w (with_kept x s) else later_slice w (with_kept x s))
          begins ∙ in_two x w s whole other;
      refusal = ap (λ o. refusal_of_whole o s) whole
          ∙ ap (λ (c : Bool). if c then refusal_of_picture
          (head (finish_current s).next.next w) else refusal_of_later s.current w s.store.accepted) begins
          ∙ sym (refused_alike x w s whole other);
      full = never_full x w s whole other;
      once = negotiates_once x w s whole other;
      accepted = ap is_some (other_accepted w (finish_current (with_kept x s)).next other);
    })
  where
    begins : begins_picture s.current w ≡ true
    begins = left_true (begins_picture s.current w) (not (is_accepted w.format s.store.accepted)) e

    other : is_accepted w.format (finish_current (with_kept x s)).next.store.accepted ≡ false
    other = ap (is_accepted w.format) (finish_accepted (open_head s.current) s.store)
        ∙ not_true (is_accepted w.format s.store.accepted)
        (right_true (begins_picture s.current w) (not (is_accepted w.format s.store.accepted)) e)

twice_set : (f : Format) (s : Standing) → s.store.accepted ≡ None
    → TwiceBy (opening (SequenceSet f) s) Other (SequenceSet f) s
twice_set f s none = record { part = rw none refl; refusal = refl; full = refl; once = refl; accepted = refl }

-- where a decoder is
pub twice : (a : Option Format) (y : Meaning) (s : Standing) → s.store.accepted ≡ a
    → negotiates (first_meaning a y) s ≡ true → TwiceBy (opening (first_meaning a y) s) (later_meaning y) y s
twice None (SequenceSet f) s is e = twice_set f s is
twice (Some g) (SequenceSet f) s is e = absurd (cc e)
twice None (CodedSlice w) s is e = twice_whole w s (whole_slice s.kept w) refl e
twice (Some g) (CodedSlice w) s is e = twice_whole w s (whole_slice s.kept w) refl e
twice None EndOfSequence s is e = absurd (cc e)
twice (Some g) EndOfSequence s is e = absurd (cc e)
twice None EndOfBitstream s is e = absurd (cc e)
twice (Some g) EndOfBitstream s is e = absurd (cc e)
twice None Other s is e = absurd (cc e)
twice (Some g) Other s is e = absurd (cc e)
twice None (Refused c) s is e = absurd (cc e)
twice (Some g) (Refused c) s is e = absurd (cc e)

-- ---- after a negotiation nothing is output

marked_none : (p : Head) (w : Slice) → with_marks p w [] ≡ []
unfolding with_marks
marked_none p w = by p.starts_sequence
  where
    by : (b : Bool)
        → map (marked_if (all_members (reference_set p w []))) (with_long_term p w (if b then [] else [])) ≡ []
    by true = refl
    by false = refl

quiet_room : (p : Head) (st : Store) → flat_map output_in (make_room p (record st { buffer = [] })).events ≡ []
unfolding make_room due_outputs
quiet_room p st = by p.no_output_of_prior_pics p.starts_sequence
  where
    by : (b c : Bool)
        → flat_map output_in
        (if b then nothing (record st { buffer = [] }) else if c then output_by draining
        (record st { buffer = [] }) else output_by (bumping (needs_bumping p.limits))
        (record st { buffer = needed_entries [] })).events ≡ []
    by true c = refl
    by false true = refl
    by false false = refl

quiet_begin : (p : Head) (w : Slice) (st : Store) → st.buffer ≡ []
    → flat_map output_in (begin_picture p w st).events ≡ []
unfolding begin_picture start_decoding
quiet_begin p w st none = by (is_decoded p)
  where
    room : flat_map output_in (make_room p (record st { buffer = with_marks p w st.buffer })).events ≡ []
    room = ap (λ (es : Buffer). flat_map output_in (make_room p (record st { buffer = es })).events)
        (ap (with_marks p w) none ∙ marked_none p w) ∙ quiet_room p st

    by : (b : Bool)
        → flat_map output_in
        (if b then make_room p (record st { buffer = with_marks p w st.buffer }) >>= start_decoding p
        (reference_set p w st.buffer) else nothing st).events ≡ []
    by true = flat_map-append output_in
        (make_room p (record st { buffer = with_marks p w st.buffer })).events _ ∙ ap (λ l. l ++ []) room
    by false = refl

quiet_decode : (w : Slice) (s : Standing) → flat_map output_in (decode_slice w s).events ≡ []
quiet_decode w s = current s.current
  where
    decoded : (b : Bool) (c : walk.Call) → flat_map output_in (if b then call c s else nothing s).events ≡ []
    decoded true c = refl
    decoded false c = refl

    current : (v : Current) → flat_map output_in (decode_current v w s).events ≡ []
    current NoPicture = refl
    current SkippedPicture = refl
    current (OpenPicture p set) = decoded (is_decoded p) (slice_call p set w)

pub quiet_start : (p : Head) (w : Slice) (s : Standing) → s.store.buffer ≡ []
    → flat_map output_in (starts p w s).events ≡ []
quiet_start p w s none =
    flat_map-append output_in (open_picture p w s).events (decode_slice w (open_picture p w s).next).events
    ∙ ap (λ l. l ++ flat_map output_in (decode_slice w (open_picture p w s).next).events)
    (quiet_begin p w s.store none) ∙ quiet_decode w (open_picture p w s).next

-- the second call outputs nothing
quiet_whole : (x : Slice) (s : Standing) (o : Option Slice) → whole_slice s.kept x ≡ o
    → negotiates_by o s ≡ true
    → flat_map output_in (step_part (CodedSlice x) (opening (CodedSlice x) s).next).events ≡ []
quiet_whole x s None whole e = absurd (cc e)
quiet_whole x s (Some w) whole e =
    subst (λ (q : Part Standing). flat_map output_in (step_part (CodedSlice x) q.next).events ≡ [])
    (sym (ap (λ o. opening_by o (with_kept x s)) whole))
    (ap (λ (q : Part Standing). flat_map output_in q.events) (again x w s whole other)
    ∙ quiet_start (head (finish_current (with_kept x s)).next.next w) w
    (on_store (change_format w.format) (finish_current (with_kept x s)).next).next emptied)
  where
    other : is_accepted w.format (finish_current (with_kept x s)).next.store.accepted ≡ false
    other = ap (is_accepted w.format) (finish_accepted (open_head s.current) s.store)
        ∙ not_true (is_accepted w.format s.store.accepted)
        (right_true (begins_picture s.current w) (not (is_accepted w.format s.store.accepted)) e)

    emptied : (on_store (change_format w.format) (finish_current (with_kept x s)).next).next.store.buffer ≡ []
    emptied = ap (λ (q : Part Standing). q.next.store.buffer)
        (change_other w (finish_current (with_kept x s)).next other)

pub quiet : (a : Option Format) (y : Meaning) (s : Standing) → s.store.accepted ≡ a
    → negotiates (first_meaning a y) s ≡ true
    → flat_map output_in (step_part (later_meaning y) (opening (first_meaning a y) s).next).events ≡ []
quiet None (SequenceSet f) s is e = refl
quiet (Some g) (SequenceSet f) s is e = absurd (cc e)
quiet None (CodedSlice w) s is e = quiet_whole w s (whole_slice s.kept w) refl e
quiet (Some g) (CodedSlice w) s is e = quiet_whole w s (whole_slice s.kept w) refl e
quiet None EndOfSequence s is e = absurd (cc e)
quiet (Some g) EndOfSequence s is e = absurd (cc e)
quiet None EndOfBitstream s is e = absurd (cc e)
quiet (Some g) EndOfBitstream s is e = absurd (cc e)
quiet None Other s is e = absurd (cc e)
quiet (Some g) Other s is e = absurd (cc e)
quiet None (Refused c) s is e = absurd (cc e)
quiet (Some g) (Refused c) s is e = absurd (cc e)
