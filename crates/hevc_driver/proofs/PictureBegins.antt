-- A picture begins.
use Rattle.std.proofs.Common.{◌≡◌, ◌≢◌, ℕ, ◌-◌, ◌^◌, arith, List, [], ◌∷◌, ◌++◌, map, refl, sym}
use Rattle.std.proofs.Common.{◌∙◌, ap, subst, append_assoc, Some, None, Result, Ok, Err, Bool, true}
use Rattle.std.proofs.Common.{false, not, ◌&&◌, if◌then◌else◌}
use Rattle.std.specs.Result.{IsErrAnd}
use Rattle.std.proofs.lemmas.Result.{err_from_is_err_and}
use Rattle.hevc_dpb.specs.declared.dpb.Dpb.{Dpb}
use Rattle.hevc_dpb.specs.Entries.{tickets}
use Rattle.hevc_dpb.specs.Views.{stored_entries, buffer_of}
use Rattle.std.specs.declared.collections.VecDeque.{VecDeque}
use Rattle.hevc_dpb.specs.Entries.{IsPartOf}
use Rattle.hevc_bumping.specs.declared.frame.Frame.{Frame}
use Rattle.hevc_bumping.specs.Bumps.{Bumps}
use Rattle.std.specs.Prelude.{Contains}
use Rattle.hevc_walk.specs.Meanings.{Format, Slice}
use Rattle.hevc_walk.specs.Pictures.{Head, Context, head, order_count_in_range}
use Rattle.hevc_walk.specs.Refusals.{PocOutOfRange, refusal_of_picture}
use Rattle.hevc_walk.specs.Buffer.{Buffer, bumping, draining, needs_bumping}
use Rattle.hevc_walk.specs.ReferenceSets.{RefPicSet, reference_set, with_marks}
use Rattle.hevc_walk.specs.Walk as walk
use Rattle.hevc_walk.specs.Walk.{Event, Called, Part, ◌>>=◌, nothing, call, output_of, make_room}
use Rattle.hevc_walk.specs.Walk.{needed_entries, is_decoded, Store, output_by, open_sequence}
use Rattle.hevc_walk.specs.Walk.{begin_picture, start_decoding, is_accepted, change_format}
use Rattle.hevc_walk_units.specs.Units.{Standing, Current, NoPicture, SkippedPicture, OpenPicture}
use Rattle.hevc_walk_units.specs.Units.{on_store, context_behind, current_of, decode_current}
use Rattle.hevc_walk_units.specs.Units.{open_picture, decode_slice, begin_slice}
use Rattle.hevc_driver.specs.declared.decode_error.DecodeError.{DecodeError}
use Rattle.hevc_driver.specs.declared.decode_error.DecodeError.TheVariants as errors
use Rattle.hevc_driver.specs.Moments.{given_up, drained, renegotiates, starts, enters, hands_over}
use Rattle.hevc_driver.specs.Moments.{room_of, new_call, begin_call}
use Rattle.hevc_backend.specs.Handed.{PlainPicture, Segment, dpb_of}
use Rattle.hevc_driver.specs.Given.{Given, given_first, given_slice, picture_from}
use Rattle.hevc_driver.specs.Does.{Traces, questioned, Stops, StopsBy, Completes, Runs}
use Rattle.hevc_driver.specs.Takes.{LeftStarted, Starts, IsNewSequence, LeftBegun, Begins}
use Rattle.hevc_driver.proofs.Doing.{runs_behind, does_nothing, does_bump, does_then, stops_more, stops_as, keeps_all}
use Rattle.hevc_driver.proofs.Storing.{not_skipped}

-- the standing with another buffer
abbrev pub with_buffer : Buffer → Standing → Standing
with_buffer es s = record s { store = record s.store { buffer = es } }

-- ---- room is made

pub clears : {H : Type 0} (t : Given) (a b : Traces H) (p : Head) (s : Standing) (d : Dpb H)
    → p.no_output_of_prior_pics ≡ true → buffer_of d ≡ [] → tickets (stored_entries d) ≡ [] → b.log ≡ a.log
    → b.handed ≡ a.handed → b.asked ≡ a.asked → b.queue ≡ a.queue → b.tickets ≡ tickets (stored_entries d)
    → Completes t a b (on_store (make_room p) s) (with_buffer (buffer_of d) s)
unfolding make_room
clears {H} t a b p s d discards left none log handed asked queue now = rw discards (record {
  does = does_nothing t a b log handed asked queue
      (λ x h. absurd (let k = subst (λ (ts : List (ℕ × H)). Contains ts x) (now ∙ none) h in let l = k.1 in
      omega arith));
  next = ap (λ es. with_buffer es s) left;
})

pub drains : {H Z : Type 0} (t : Given) (a b : Traces H) (p : Head) (s : Standing) (d e : Dpb H)
    (before now : VecDeque (Frame H) Z) → p.no_output_of_prior_pics ≡ false → p.starts_sequence ≡ true
    → s.store.buffer ≡ buffer_of d → Bumps (draining (buffer_of d)) d e before now
    → b.log ≡ a.log → b.handed ≡ a.handed → b.asked ≡ a.asked → a.queue ≡ before.items → b.queue ≡ now.items
    → a.tickets ≡ tickets (stored_entries d) → b.tickets ≡ tickets (stored_entries e)
    → Completes t a b (on_store (make_room p) s) (with_buffer (buffer_of e) s)
unfolding make_room
drains t a b p s d e before now keeps begins same x log handed asked qa qb ta tb =
    rw (keeps, begins, same) (record {
      does = does_bump t a b (draining (buffer_of d)) d e before now x log handed asked qa qb ta tb;
      next = ap (λ es. with_buffer es s) x.left;
    })

pub bumps : {H Z : Type 0} (t : Given) (a b : Traces H) (p : Head) (s : Standing) (d e : Dpb H)
    (before now : VecDeque (Frame H) Z) → p.no_output_of_prior_pics ≡ false → p.starts_sequence ≡ false
    → buffer_of d ≡ needed_entries s.store.buffer → IsPartOf (tickets (stored_entries d)) a.tickets
    → Bumps (bumping (needs_bumping p.limits) (buffer_of d)) d e before now → b.log ≡ a.log
    → b.handed ≡ a.handed → b.asked ≡ a.asked → a.queue ≡ before.items → b.queue ≡ now.items
    → b.tickets ≡ tickets (stored_entries e) → Completes t a b (on_store (make_room p) s) (with_buffer (buffer_of e) s)
unfolding make_room
bumps {H} t a b p s d e before now keeps goes needed kept x log handed asked qa qb tb =
    rw (keeps, goes, sym needed) (record {
      does = does_then t a mid b [] (map output_of (bumping (needs_bumping p.limits) (buffer_of d)).outputs)
          (does_nothing t a mid refl refl refl refl kept)
          (does_bump t mid b (bumping (needs_bumping p.limits) (buffer_of d)) d e before now x log handed
          asked qa qb refl tb);
      next = ap (λ es. with_buffer es s) x.left;
    })
  where
    mid : Traces H
    mid = record {
      log = a.log;
      handed = a.handed;
      asked = a.asked;
      queue = a.queue;
      tickets = tickets (stored_entries d);
    }

-- ---- a format is negotiated

-- what is needed for output is output before
pub drains_first : {H Z : Type 0} (t : Given) (a b : Traces H) (s : Standing) (d e : Dpb H)
    (before now : VecDeque (Frame H) Z) → s.store.buffer ≡ buffer_of d
    → Bumps (draining (buffer_of d)) d e before now → b.log ≡ a.log → b.handed ≡ a.handed
    → b.asked ≡ a.asked → a.queue ≡ before.items → b.queue ≡ now.items
    → a.tickets ≡ tickets (stored_entries d) → b.tickets ≡ tickets (stored_entries e)
    → Completes t a b (on_store (output_by draining) s) (with_buffer (buffer_of e) s)
drains_first t a b s d e before now same x log handed asked qa qb ta tb =
    rw same (record {
      does = does_bump t a b (draining (buffer_of d)) d e before now x log handed asked qa qb ta tb;
      next = ap (λ es. with_buffer es s) x.left;
    })

-- ---- a picture is decoded from here on

abbrev begun_part : Head → Slice → Standing → Part Store
begun_part p w s = record {
  events = (room_of p w s).events
      ++ (Called (new_call p) ∷ Called (begin_call p (reference_set p w s.store.buffer)) ∷ []);
  next = (room_of p w s).next;
}

begun_is : (p : Head) (w : Slice) (s : Standing) → is_decoded p ≡ true → begin_picture p w s.store ≡ begun_part p w s
unfolding begin_picture start_decoding
begun_is p w s e = ap (λ (b : Bool). if b then begun_part p w s else nothing s.store) e

abbrev behind_begin : Head → Standing → Store → Current → Standing
behind_begin p s store current = record s { store = store; current = current; next = context_behind p s.next }

abbrev from_parts : Head → Slice → Standing → Part Store → Current → Part Standing
from_parts p w s q current = record {
  events = q.events ++ (decode_current current w (behind_begin p s q.next current)).events;
  next = (decode_current current w (behind_begin p s q.next current)).next;
}

abbrev opened_next : Head → Slice → Standing → Standing
opened_next p w s = record (enters p w s).next { current = OpenPicture p (reference_set p w s.store.buffer) }

abbrev decodes_if : Head → Slice → Standing → Bool → Part Standing
decodes_if p w s b =
    if b then call (walk.slice_call p (reference_set p w s.store.buffer) w) (opened_next p w s) else nothing
    (opened_next p w s)

-- a picture that is decoded
pub starts_is : (p : Head) (w : Slice) (s : Standing) → is_decoded p ≡ true
    → starts p w s ≡ (enters p w s >>= hands_over p (reference_set p w s.store.buffer) w)
starts_is p w s e =
    ap (λ (q : Part Store). from_parts p w s q (current_of p (reference_set p w s.store.buffer))) (begun_is p w s e)
    ∙ ap (λ (b : Bool). from_parts p w s (begun_part p w s)
    (if b then SkippedPicture else OpenPicture p (reference_set p w s.store.buffer))) (not_skipped p e)
    ∙ ap (λ (b : Bool). record {
      events = (begun_part p w s).events ++ (decodes_if p w s b).events;
      next = (decodes_if p w s b).next;
    }) e
    ∙ ap (λ (es : List Event). record { events = es; next = opened_next p w s })
    (append_assoc (room_of p w s).events
    (Called (new_call p) ∷ Called (begin_call p (reference_set p w s.store.buffer)) ∷ [])
    (Called (walk.slice_call p (reference_set p w s.store.buffer) w) ∷ []))

-- entries are marked first
pub entered : {H : Type 0} (t : Given) (a b : Traces H) (p : Head) (w : Slice) (s st : Standing)
    (es : Buffer) (n : Context) (ts : List (ℕ × H)) → es ≡ with_marks p w s.store.buffer
    → n ≡ context_behind p s.next → ts ≡ a.tickets
    → Completes t (record a { tickets = ts }) b
    (on_store (make_room p) (record s { store = record s.store { buffer = es }; next = n })) st
    → Completes t a b (enters p w s) st
entered {H} t a b p w s st es n ts marks next tickets x =
    let y = subst
    (λ (v : List (ℕ × H)). Completes t (record a { tickets = v }) b
    (on_store (make_room p) (record s { store = record s.store { buffer = es }; next = n })) st) tickets x in
    let z = subst
    (λ (v : Buffer). Completes t a b
    (on_store (make_room p) (record s { store = record s.store { buffer = v }; next = n })) st) marks y in
    let w = subst
    (λ (v : Context). Completes t a b
    (on_store (make_room p) (record s {
      store = record s.store { buffer = with_marks p w s.store.buffer };
      next = v;
    })) st) next z in
    record { does = w.does; next = w.next }

pub opened : {H T : Type 0} (r : Result T DecodeError) (t : Given) (a m b : Traces H) (p : Head) (w : Slice)
    (s mid st : Standing) (set : RefPicSet) → is_decoded p ≡ true → s.current ≡ NoPicture
    → Completes t a m (enters p w s) mid → set ≡ reference_set p w s.store.buffer
    → Runs r t m b (hands_over p set w mid) (λ c. LeftStarted c × (st ≡ mid)) st
    → Runs r t a b (starts p w s) (λ c. LeftStarted c × (st ≡ given_up (starts p w s).next)) st
opened {H} {T} r t a m b p w s mid st set decoded none x is y =
    subst (λ (q : Part Standing). Runs r t a b q (λ c. LeftStarted c × (st ≡ given_up q.next)) st)
    (sym (starts_is p w s decoded))
    (runs_behind r t a m b (enters p w s) (hands_over p (reference_set p w s.store.buffer) w)
    (λ c. LeftStarted c × (st ≡ mid)) (λ c. LeftStarted c × (st ≡ given_up (opened_next p w s))) mid st x
    (λ c h. (h.0, h.1 ∙ x.next ∙ ap (λ (v : Current). record (enters p w s).next { current = v }) none))
    (subst (λ (v : RefPicSet). Runs r t m b (hands_over p v w mid) (λ c. LeftStarted c × (st ≡ mid)) st) is y))

-- ---- a picture is skipped

not_both : (a b : Bool) → b ≡ true → a && not b ≡ false
not_both true b e = ap not e
not_both false b e = refl

pub skips_is : (p : Head) (w : Slice) (s : Standing) → p.skipped ≡ true → starts p w s ≡ record {
  events = [];
  next = record s { current = SkippedPicture; next = context_behind p s.next };
}
unfolding begin_picture
skips_is p w s e =
    ap (λ (b : Bool). from_parts p w s
    (if b then make_room p (record s.store { buffer = with_marks p w s.store.buffer }) >>= start_decoding p
    (reference_set p w s.store.buffer) else nothing s.store)
    (current_of p (reference_set p w s.store.buffer))) (not_both (order_count_in_range p) p.skipped e)
    ∙ ap (λ (b : Bool). from_parts p w s (nothing s.store)
    (if b then SkippedPicture else OpenPicture p (reference_set p w s.store.buffer))) e

-- ---- a picture of the accepted format

in_range_head : (p : Head) → order_count_in_range p ≡ true → refusal_of_picture p ≡ None
in_range_head p e = ap (λ (v : Bool). if v then None else Some PocOutOfRange) e

pub skips_at : {H : Type 0} (t : Given) (a b : Traces H) (w : Slice) (s st : Standing) (p : Head)
    → s.next.number ≢ 2 ^ 64 - 1 → p ≡ head s.next w → order_count_in_range (head s.next w) ≡ true
    → p.skipped ≡ true → b.log ≡ a.log → b.handed ≡ a.handed → b.asked ≡ a.asked → b.queue ≡ a.queue
    → b.tickets ≡ a.tickets → st ≡ record s { current = SkippedPicture; next = context_behind p s.next }
    → (s.next.number ≢ 2 ^ 64 - 1) × (refusal_of_picture (head s.next w) ≡ None)
    × Completes t a b (starts (head s.next w) w s) st
skips_at t a b w s st p numbered is ranges skipped log handed asked queue tickets next = (
  numbered,
  in_range_head (head s.next w) ranges,
  subst (λ (v : Head). Completes t a b (starts v w s) st) is
      (subst (λ (q : Part Standing). Completes t a b q st) (sym (skips_is p w s skipped)) (record {
        does = does_nothing t a b log handed asked queue (keeps_all a.tickets b.tickets tickets);
        next = next;
      })),
)

module _ {H T : Type 0} (r : Result T DecodeError) (t : Given) (a b : Traces H) (w : Slice) (s st : Standing) where
  pub starts_at : (p : Head) → s.next.number ≢ 2 ^ 64 - 1 → p ≡ head s.next w
      → order_count_in_range (head s.next w) ≡ true
      → Runs r t a b (starts p w s) (λ c. LeftStarted c × (st ≡ given_up (starts p w s).next)) st
      → Starts r t a b w s st
  starts_at p numbered is ranges x =
      by r (subst (λ (v : Head). Runs r t a b (starts v w s)
      (λ c. LeftStarted c × (st ≡ given_up (starts v w s).next)) st) is x)
    where
      by : (q : Result T DecodeError)
          → Runs q t a b (starts (head s.next w) w s)
          (λ c. LeftStarted c × (st ≡ given_up (starts (head s.next w) w s).next)) st → Starts q t a b w s st
      by (Ok v) x = (numbered, in_range_head (head s.next w) ranges, x)
      by (Err errors.Backend) x = (numbered, x)
      by (Err errors.NoMemory) x = (numbered, x)
      by (Err e) x = absurd x

  pub out_of_range : s.next.number ≢ 2 ^ 64 - 1 → IsErrAnd r (λ y. y ≡ errors.PocOutOfRange)
      → order_count_in_range (head s.next w) ≡ false → b ≡ a → st ≡ s → Starts r t a b w s st
  out_of_range numbered is ranges same stays = let q = err_from_is_err_and r is in
      rw q.1 (rw q.2 (numbered, ap (λ (v : Bool). if v then None else Some PocOutOfRange) ranges, same, stays))

pub head_number : (c : Context) (w : Slice) (p : Head) → p ≡ head c w → p.number ≡ c.number
unfolding head
head_number c w p e = ap (λ (v : Head). v.number) e

-- ---- the format is accepted, or negotiated

head_format : (c : Context) (w : Slice) → (head c w).format ≡ w.format
unfolding head
head_format c w = refl

abbrev pub changes_by : Format → Standing → Bool → Part Store
changes_by f s b = if b then nothing s.store else output_by draining s.store >>= open_sequence f

change_is : (f : Format) (s : Standing) → change_format f s.store ≡ changes_by f s (is_accepted f s.store.accepted)
unfolding change_format
change_is f s = refl

abbrev pub begins_by : Head → Slice → Standing → Part Store → Part Standing
begins_by p w s q = record {
  events = q.events;
  next = record s { store = q.next };
} >>= open_picture p w >>= decode_slice w

pub begin_is : (w : Slice) (s : Standing) (b : Bool) → is_accepted w.format s.store.accepted ≡ b
    → begin_slice w s ≡ begins_by (head s.next w) w s (changes_by w.format s b)
begin_is w s b e = ap (λ (f : Format). begins_by (head s.next w) w s (change_format f s.store))
    (head_format s.next w) ∙ ap (begins_by (head s.next w) w s) (change_is w.format s ∙ ap (changes_by w.format s) e)

pub begin_accepted : (w : Slice) (s : Standing) → is_accepted w.format s.store.accepted ≡ true
    → begin_slice w s ≡ starts (head s.next w) w s
begin_accepted w s e = begin_is w s true e

-- what comes with a picture that is decoded
pub begun_given : (timestamp : ℕ) (w : Slice) (segment : Segment) (s : Standing) (p : Head)
    (picture : PlainPicture) → picture ≡ picture_from w segment s → p ≡ head s.next w → is_decoded p ≡ true
    → is_accepted w.format s.store.accepted ≡ true
    → given_slice timestamp picture (dpb_of (enters p w s).next.store) segment ≡ given_first timestamp w segment s
begun_given timestamp w segment s p picture picture_is is decoded accepted =
    ap (λ (v : PlainPicture). given_slice timestamp v (dpb_of (enters p w s).next.store) segment) picture_is
    ∙ ap (λ (q : Part Standing). given_slice timestamp (picture_from w segment s) (dpb_of q.next.store) segment)
    (sym (starts_is p w s decoded) ∙ ap (λ (v : Head). starts v w s) is ∙ sym (begin_accepted w s accepted))

pub change_other : (w : Slice) (s : Standing) → is_accepted w.format s.store.accepted ≡ false
    → on_store (change_format w.format) s ≡ renegotiates w.format s
change_other w s e =
    ap (λ (q : Part Store). record { events = q.events; next = record s { store = q.next } })
    (change_is w.format s ∙ ap (changes_by w.format s) e)

started_begun : (w : Slice) (s st : Standing) (c : walk.Call) → is_accepted w.format s.store.accepted ≡ true
    → s.next.number ≢ 2 ^ 64 - 1 → LeftStarted c × (st ≡ given_up (begin_slice w s).next) → LeftBegun c w s st
started_begun w s st (walk.SubmitPicture number) accepted numbered h = absurd h.0
started_begun w s st (walk.NewSequence info) accepted numbered h = absurd h.0
started_begun w s st (walk.NewPicture number t c o k) accepted numbered h = (accepted, numbered, h.1)
started_begun w s st (walk.BeginPicture number set) accepted numbered h = (accepted, numbered, h.1)
started_begun w s st (walk.DecodeSlice number address bytes l0 l1) accepted numbered h = (accepted, numbered, h.1)

negotiated_begun : (w : Slice) (s st : Standing) (c : walk.Call)
    → is_accepted w.format s.store.accepted ≡ false → IsNewSequence c × (st ≡ drained s) → LeftBegun c w s st
negotiated_begun w s st (walk.SubmitPicture number) other h = absurd h.0
negotiated_begun w s st (walk.NewSequence info) other h = (other, h.1)
negotiated_begun w s st (walk.NewPicture number t c o k) other h = absurd h.0
negotiated_begun w s st (walk.BeginPicture number set) other h = absurd h.0
negotiated_begun w s st (walk.DecodeSlice number address bytes l0 l1) other h = absurd h.0

pub begins_accepted : {H T : Type 0} (r : Result T DecodeError) (t : Given) (a b : Traces H) (w : Slice)
    (s st : Standing) → is_accepted w.format s.store.accepted ≡ true → Starts r t (questioned a) b w s st
    → Begins r t a b w s st
begins_accepted {H} {T} r t a b w s st e x = by r x
  where
    left : s.next.number ≢ 2 ^ 64 - 1 → (c : walk.Call)
        → LeftStarted c × (st ≡ given_up (starts (head s.next w) w s).next) → LeftBegun c w s st
    left numbered c h =
        started_begun w s st c e numbered
        (h.0, h.1 ∙ ap (λ (q : Part Standing). given_up q.next) (sym (begin_accepted w s e)))

    stops : (s.next.number ≢ 2 ^ 64 - 1) × Stops t (questioned a) b (starts (head s.next w) w s).events
        (λ c. LeftStarted c × (st ≡ given_up (starts (head s.next w) w s).next))
        → Stops t (questioned a) b (begin_slice w s).events (λ c. LeftBegun c w s st)
    stops x = stops_as t (questioned a) b (starts (head s.next w) w s).events (begin_slice w s).events
        (λ c. LeftStarted c × (st ≡ given_up (starts (head s.next w) w s).next))
        (λ c. LeftBegun c w s st) (ap (λ (q : Part Standing). q.events) (begin_accepted w s e)) (left x.0) x.1

    by : (r : Result T DecodeError) → Starts r t (questioned a) b w s st → Begins r t a b w s st
    by (Ok v) x =
        (e, x.0, x.1, subst (λ (q : Part Standing). Completes t (questioned a) b q st) (sym (begin_accepted w s e)) x.2)
    by (Err errors.PictureNumbersSpent) x = (e, x.0, x.1, x.2)
    by (Err errors.PocOutOfRange) x = (e, x.0, x.1, x.2, x.3)
    by (Err errors.Backend) x = stops x
    by (Err errors.NoMemory) x = stops x
    by (Err other) x = absurd x.1

-- the format differs
pub begins_negotiated : {H : Type 0} (t : Given) (a b : Traces H) (w : Slice) (s st : Standing)
    → is_accepted w.format s.store.accepted ≡ false
    → Completes t (questioned a) b (renegotiates w.format s) st
    → (is_accepted w.format s.store.accepted ≡ false)
    × Completes t (questioned a) b (on_store (change_format w.format) s) st
begins_negotiated t a b w s st e x =
    (e, subst (λ (q : Part Standing). Completes t (questioned a) b q st) (sym (change_other w s e)) x)

pub begins_refused : {H T : Type 0} (r : Result T DecodeError) (e : DecodeError) (t : Given)
    (a b : Traces H) (w : Slice) (s st : Standing) → IsErrAnd r (λ y. y ≡ e)
    → is_accepted w.format s.store.accepted ≡ false
    → StopsBy e t (questioned a) b (renegotiates w.format s).events
    (λ c. IsNewSequence c × (st ≡ drained s)) → Begins r t a b w s st
begins_refused {H} {T} r e t a b w s st is other x = let q = err_from_is_err_and r is in rw q.1 (rw q.2 (by e x))
  where
    stops : Stops t (questioned a) b (renegotiates w.format s).events
        (λ c. IsNewSequence c × (st ≡ drained s))
        → Stops t (questioned a) b (begin_slice w s).events (λ c. LeftBegun c w s st)
    stops x = stops_as t (questioned a) b _ (begin_slice w s).events
        (λ c. IsNewSequence c × (st ≡ drained s))
        (λ c. LeftBegun c w s st) (ap (λ (q : Part Standing). q.events) (begin_is w s false other))
        (λ c. negotiated_begun w s st c other)
        (stops_more t (questioned a) b _ _ (λ c. IsNewSequence c × (st ≡ drained s))
        (stops_more t (questioned a) b (renegotiates w.format s).events _ (λ c. IsNewSequence c × (st ≡ drained s)) x))

    by : (e : DecodeError) → StopsBy e t (questioned a) b (renegotiates w.format s).events
        (λ c. IsNewSequence c × (st ≡ drained s)) → Begins {H = H} {T = T} (Err e) t a b w s st
    by errors.Backend x = stops x
    by errors.NoMemory x = stops x
    by other x = absurd x

-- ---- a count that isn't in range

out_of : (p : Head) → refusal_of_picture p ≡ Some PocOutOfRange → is_decoded p ≡ false
out_of p e = by (order_count_in_range p) e
  where
    by : (b : Bool) → (if b then None else Some PocOutOfRange) ≡ Some PocOutOfRange → b && not p.skipped ≡ false
    by true h = absurd (cc h)
    by false h = refl

pub starts_nothing : (p : Head) (w : Slice) (s : Standing) → refusal_of_picture p ≡ Some PocOutOfRange
    → (starts p w s).events ≡ []
unfolding begin_picture
starts_nothing p w s e =
    ap (λ (b : Bool).
    (from_parts p w s
    (if b then make_room p (record s.store { buffer = with_marks p w s.store.buffer }) >>= start_decoding p
    (reference_set p w s.store.buffer) else nothing s.store)
    (current_of p (reference_set p w s.store.buffer))).events) (out_of p e)
    ∙ by p.skipped
  where
    test : (b : Bool) (c : walk.Call) (v : Standing) → b ≡ false → (if b then call c v else nothing v).events ≡ []
    test b c v e = ap (λ (d : Bool). (if d then call c v else nothing v).events) e

    by : (b : Bool)
        → (from_parts p w s (nothing s.store)
        (if b then SkippedPicture else OpenPicture p (reference_set p w s.store.buffer))).events ≡ []
    by true = refl
    by false = test (is_decoded p) _ _ (out_of p e)
