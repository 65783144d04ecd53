-- A later slice of the current picture.
use Rattle.std.proofs.Common.{◌≡◌, ℕ, [], ◌∷◌, ◌++◌, sym, ◌∙◌, ap, subst, Option, None, Some}
use Rattle.std.proofs.Common.{Result, Ok, Err, Bool, true, false, refl, if◌then◌else◌}
use Rattle.std.specs.Prelude.{is_some, is_err}
use Rattle.std.specs.Result.{IsErrAnd}
use Rattle.std.proofs.lemmas.Result.{err_from_is_err_and}
use Rattle.hevc_backend.specs.declared.error.BackendError.{BackendError}
use Rattle.hevc_backend.specs.declared.error.BackendError.TheVariants.{Failed, NoMemory}
use Rattle.hevc_backend.specs.declared.call.Call.{Call}
use Rattle.hevc_backend.specs.Trait.{logged}
use Rattle.hevc_walk.specs.Meanings.{Slice}
use Rattle.hevc_walk.specs.Pictures.{Head}
use Rattle.hevc_walk.specs.ReferenceSets.{RefPicSet}
use Rattle.hevc_walk.specs.Walk as walk
use Rattle.hevc_walk.specs.Walk.{Called, Part, nothing, call, slice_call, is_decoded}
use Rattle.hevc_walk.specs.Refusals.{Cause}
use Rattle.hevc_walk_units.specs.Units.{Standing, Current, OpenPicture, later_slice, decode_slice}
use Rattle.hevc_walk_units.specs.Units.{changed_by, refusal_of_later}
use Rattle.hevc_driver.specs.declared.decode_error.DecodeError.{DecodeError}
use Rattle.hevc_driver.specs.Errors.{backend_error}
use Rattle.std.specs.Prelude.{List}
use Rattle.hevc_backend.specs.Handed.{Handed, IsAmong, PlainDpb, Segment, Decoded}
use Rattle.hevc_driver.specs.Given.{Given, handed_by, decoded_with}
use Rattle.hevc_driver.specs.Does.{Traces, Does, Stops, Completes}
use Rattle.hevc_backend.specs.Told.{BegunPicture, begun_picture}
use Rattle.hevc_driver.specs.declared.current.Current.{Current as CodeCurrent}
use Rattle.hevc_driver.specs.declared.current.Current.TheVariants as code
use Rattle.hevc_driver.specs.declared.current.Open.{Open}
use Rattle.hevc_driver.specs.declared.standing.Standing as driver
use Rattle.hevc_driver.specs.Sound.{IsOpenAnnounced, IsOpenNewest, IsNewest, IsLatest}
use Rattle.hevc_driver.specs.Calls.{call_of, IsTimed, submissions}
use Rattle.hevc_driver.specs.Moments.{given_up}
use Rattle.hevc_driver.specs.Takes.{Follows, LeftStarted, Changed, given_up_by}
use Rattle.hevc_driver.specs.declared.decode_error.DecodeError.TheVariants as errors
use Rattle.hevc_driver.proofs.Doing.{does_nothing, does_call, stops_at, stops_as, keeps_all, keeps_more}

-- the slice segment of a unit was handed over
pub decoded_handed : (t : Given) (a b : Option (List Handed)) (number : ℕ) (dpb : PlainDpb)
    (segment : Segment) → t.dpb ≡ dpb → t.segment ≡ Some segment
    → b ≡ logged a (Decoded number dpb segment ∷ []) → b ≡ logged a (decoded_with number t.dpb t.segment ++ [])
decoded_handed t a b number dpb segment stored is handed =
    handed
    ∙ ap (λ (d : PlainDpb). logged a (Decoded number d segment ∷ [])) (sym stored)
    ∙ ap (λ (s : Option Segment). logged a (decoded_with number t.dpb s ++ [])) (sym is)

abbrev opened : Head → RefPicSet → Standing → Standing
opened p set s = record s { current = OpenPicture p set }

abbrev later_part : Head → RefPicSet → Slice → Standing → Part Standing
later_part p set w s = record { events = Called (slice_call p set w) ∷ []; next = opened p set s }

later_is : (p : Head) (set : RefPicSet) (w : Slice) (s : Standing) → is_decoded p ≡ true
    → changed_by w.format s.store.accepted ≡ None → later_slice w (opened p set s) ≡ later_part p set w s
later_is p set w s decoded fine =
    ap (λ (c : Option Cause). if is_some c then nothing (opened p set s) else decode_slice w (opened p set s)) fine
    ∙ ap (λ (b : Bool). if b then call (slice_call p set w) (opened p set s) else nothing (opened p set s)) decoded

pub followed : {H : Type 0} (t : Given) (a b : Traces H) (p : Head) (set : RefPicSet) (w : Slice)
    (s st : Standing) (made : Call H) → is_decoded p ≡ true → changed_by w.format s.store.accepted ≡ None
    → call_of made ≡ slice_call p set w → IsTimed t.timestamp made → b.log ≡ logged a.log (made ∷ [])
    → b.handed ≡ logged a.handed (handed_by t (call_of made) ++ []) → b.asked ≡ a.asked → b.queue ≡ a.queue
    → b.tickets ≡ a.tickets → st ≡ opened p set s
    → (changed_by w.format s.store.accepted ≡ None) × Completes t a b (later_slice w (opened p set s)) st
followed {H} t a b p set w s st made decoded fine is timed log handed asked queue tickets next = (
  fine,
  subst (λ (q : Part Standing). Completes t a b q st) (sym (later_is p set w s decoded fine)) (record {
    does = subst (λ (c : walk.Call). Does t a b (Called c ∷ [])) is
        (does_call t a b made log handed asked queue
        (keeps_more a.tickets b.tickets (submissions (made ∷ [])) tickets) timed);
    next = next;
  }),
)

pub follow_stops : {H T : Type 0} (r : Result T DecodeError) (e : BackendError) (t : Given) (a b : Traces H)
    (p : Head) (set : RefPicSet) (w : Slice) (s st : Standing) → IsErrAnd r (λ y. y ≡ backend_error e)
    → is_decoded p ≡ true → changed_by w.format s.store.accepted ≡ None
    → b.log ≡ a.log → b.handed ≡ a.handed → b.asked ≡ a.asked → b.queue ≡ a.queue → b.tickets ≡ a.tickets
    → st ≡ given_up s → Follows r t a b w (opened p set s) st
follow_stops {H} {T} r e t a b p set w s st is decoded fine log handed asked queue tickets left = let q =
    err_from_is_err_and r is in rw q.1 (rw q.2 (by e))
  where
    stops : Stops t a b (later_slice w (opened p set s)).events (λ c. LeftStarted c × (st ≡ given_up (opened p set s)))
    stops = stops_as t a b (Called (slice_call p set w) ∷ []) (later_slice w (opened p set s)).events
        (λ c. LeftStarted c × (st ≡ given_up (opened p set s))) (λ c. LeftStarted c × (st ≡ given_up (opened p set s)))
        (ap (λ (q : Part Standing). q.events) (later_is p set w s decoded fine)) (λ c h. h)
        (stops_at t a b (slice_call p set w) []
        (λ c. LeftStarted c × (st ≡ given_up (opened p set s))) log handed asked queue
        (keeps_all a.tickets b.tickets tickets) (tt, left))

    by : (e : BackendError) → Follows {H = H} {T = T} (Err (backend_error e)) t a b w (opened p set s) st
    by Failed = stops
    by NoMemory = stops

-- a slice of a skipped picture, or of none
pub not_followed : {H : Type 0} (t : Given) (a b : Traces H) (w : Slice) (s st : Standing)
    (current : Current) → s.current ≡ current → refusal_of_later current w s.store.accepted ≡ None
    → decode_slice w (record s { current = current }) ≡ nothing (record s { current = current })
    → b.log ≡ a.log → b.handed ≡ a.handed → b.asked ≡ a.asked → b.queue ≡ a.queue → b.tickets ≡ a.tickets
    → st ≡ s → (refusal_of_later s.current w s.store.accepted ≡ None) × Completes t a b (later_slice w s) st
not_followed {H} t a b w s st current is fine idle log handed asked queue tickets same = (
  ap (λ (v : Current). refusal_of_later v w s.store.accepted) is ∙ fine,
  subst (λ (v : Current). Completes t a b (later_slice w (record s { current = v }))
      (record st { current = st.current })) (sym is)
      (subst (λ (c : Option Cause). Completes t a b
      (if is_some c then nothing (record s { current = current }) else decode_slice w
      (record s { current = current })) st) (sym fine)
      (subst (λ (q : Part Standing). Completes t a b q st) (sym idle) (record {
        does = does_nothing t a b log handed asked queue (keeps_all a.tickets b.tickets tickets);
        next = same ∙ ap (λ (v : Current). record s { current = v }) is;
      }))),
)

-- another format is named
pub follow_changed : {H T : Type 0} (r : Result T DecodeError) (e : DecodeError) (t : Given)
    (a b : Traces H) (w : Slice) (s st : Standing) → IsErrAnd r (λ y. y ≡ e)
    → Changed e (refusal_of_later s.current w s.store.accepted) → b ≡ a → st ≡ given_up s → Follows r t a b w s st
follow_changed {H} {T} r e t a b w s st is changed same left = let q = err_from_is_err_and r is in
    rw q.1 (rw q.2 (by e changed))
  where
    by : (e : DecodeError) → Changed e (refusal_of_later s.current w s.store.accepted)
        → Follows {H = H} {T = T} (Err e) t a b w s st
    by errors.Backend h = absurd (cc h.told)
    by errors.NoMemory h = absurd (cc h.told)
    by e h = (h, same, left)

-- the standing once the picture of a refused slice is given up
pub left_refused : {T : Type 0} (r : Result T DecodeError) (s : Standing) → is_err r ≡ true
    → given_up_by r s ≡ given_up s
left_refused (Ok value) s refused = absurd (cc refused)
left_refused (Err e) s refused = refl

pub left_taken : {T : Type 0} (r : Result T DecodeError) (s : Standing) → is_err r ≡ false → given_up_by r s ≡ s
left_taken (Ok value) s taken = refl
left_taken (Err e) s taken = absurd (cc taken)

pub refused_given_up : {T : Type 0} (r : Result T DecodeError) (P : DecodeError → Type 0) (s : Standing)
    → IsErrAnd r P → given_up_by r s ≡ given_up s
refused_given_up (Ok value) P s refused = absurd refused
refused_given_up (Err e) P s refused = refl

pub hand_stops : {H T : Type 0} (r : Result T DecodeError) (e : BackendError) (t : Given) (a b : Traces H)
    (p : Head) (set : RefPicSet) (w : Slice) (s : Standing) → IsErrAnd r (λ y. y ≡ backend_error e)
    → is_decoded p ≡ true → changed_by w.format s.store.accepted ≡ None
    → b.log ≡ a.log → b.handed ≡ a.handed → b.asked ≡ a.asked → b.queue ≡ a.queue → b.tickets ≡ a.tickets
    → Follows r t a b w (opened p set s) (given_up_by r (opened p set s))
hand_stops r e t a b p set w s is decoded fine log handed asked queue tickets =
    follow_stops r e t a b p set w s (given_up_by r (opened p set s)) is decoded fine log handed asked queue
    tickets (refused_given_up r (λ y. y ≡ backend_error e) (opened p set s) is)

pub hand_changed : {H T : Type 0} (r : Result T DecodeError) (e : DecodeError) (t : Given) (a b : Traces H)
    (w : Slice) (s : Standing) → IsErrAnd r (λ y. y ≡ e)
    → Changed e (refusal_of_later s.current w s.store.accepted) → b ≡ a → Follows r t a b w s (given_up_by r s)
hand_changed r e t a b w s is changed same =
    follow_changed r e t a b w s (given_up_by r s) is changed same (refused_given_up r (λ y. y ≡ e) s is)

-- the open picture is the newest, and the backend's last one
pub open_newest : {H P : Type 0} (w : driver.Standing H P) (o : Open P) → w.current ≡ code.OpenPicture o
    → IsOpenNewest w.current w → IsNewest o.head w
open_newest w o is h = subst (λ (c : CodeCurrent _). IsOpenNewest c w) is h

pub open_announced : {H P : Type 0} (handed : Option (List Handed)) (w : driver.Standing H P) (o : Open P)
    → w.current ≡ code.OpenPicture o → IsOpenAnnounced handed w.current → IsAmong handed o.head.number o.head.picture
open_announced handed w o is h = subst (IsOpenAnnounced handed) is h

pub open_latest : {P : Type 0} (c : CodeCurrent P) (o : Open P) (picture : Option BegunPicture)
    → c ≡ code.OpenPicture o → IsLatest c picture → picture ≡ Some (begun_picture o.head.number o.head.picture)
open_latest c o picture is h = subst (λ (c : CodeCurrent _). IsLatest c picture) is h
