-- A picture is over.
use Rattle.std.proofs.Common.{◌≡◌, ℕ, ◌≤◌, arith, [], ◌∷◌, ◌++◌, map, length, refl, sym, ◌∙◌, ap}
use Rattle.std.proofs.Common.{subst, Some, None, Result, Ok, Err, Bool, true, false, not, ◌&&◌}
use Rattle.std.specs.Prelude.{nat_le, IsErr}
use Rattle.std.proofs.lemmas.Bool.Decides.{nat_tests}
use Rattle.std.specs.Result.{IsErrAnd}
use Rattle.std.proofs.lemmas.Result.{err_from_is_err_and}
use Rattle.hevc_backend.specs.declared.error.BackendError.{BackendError}
use Rattle.hevc_backend.specs.declared.error.BackendError.TheVariants.{Failed, NoMemory}
use Rattle.hevc_dpb.specs.declared.dpb.Dpb.{Dpb}
use Rattle.hevc_backend.specs.declared.call.Call.TheVariants as code
use Rattle.hevc_backend.specs.Trait.{logged}
use Rattle.hevc_dpb.specs.Entries.{tickets}
use Rattle.hevc_dpb.specs.Views.{stored_entries, buffer_of}
use Rattle.std.specs.declared.collections.VecDeque.{VecDeque}
use Rattle.hevc_bumping.specs.declared.frame.Frame.{Frame}
use Rattle.hevc_bumping.specs.Bumps.{Bumps}
use Rattle.hevc_walk.specs.Pictures.{Head, order_count_in_range}
use Rattle.hevc_walk.specs.Buffer.{Buffer, bumping, needs_additional_bumping, with_stored}
use Rattle.hevc_walk.specs.ReferenceSets.{RefPicSet}
use Rattle.hevc_walk.specs.Walk as walk
use Rattle.hevc_walk.specs.Walk.{Called, Part, output_of, finish, store_picture, is_decoded, accepted_size}
use Rattle.hevc_walk_units.specs.Units.{Standing, NoPicture, OpenPicture, Current, open_head}
use Rattle.hevc_walk_units.specs.Units.{finish_current, tid0_behind, is_full_now}
use Rattle.hevc_driver.specs.declared.decode_error.DecodeError.{DecodeError}
use Rattle.hevc_driver.specs.declared.decode_error.DecodeError.TheVariants as errors
use Rattle.hevc_driver.specs.Errors.{backend_error}
use Rattle.hevc_driver.specs.Given.{Given}
use Rattle.hevc_driver.specs.Does.{Traces, Stops, Completes}
use Rattle.hevc_driver.specs.Moments.{given_up}
use Rattle.hevc_driver.specs.Takes.{Finishes, LeftUnsubmitted}
use Rattle.hevc_driver.proofs.Doing.{logged_none, does_nothing, does_call, does_bump, does_then}
use Rattle.hevc_driver.proofs.Doing.{stops_at, keeps_all, keeps_more}

both_true : (a b : Bool) → a && not b ≡ true → b ≡ false
both_true a true e = absurd (cc (sym e ∙ false_there a))
  where
    false_there : (a : Bool) → a && false ≡ false
    false_there true = refl
    false_there false = refl
both_true a false e = refl

pub not_skipped : (p : Head) → is_decoded p ≡ true → p.skipped ≡ false
not_skipped p e = both_true (order_count_in_range p) p.skipped e

-- what a picture that is over asks, and what is left
abbrev pub over : Head → Standing → Part Standing
over p s = record {
  events = Called (walk.SubmitPicture p.number) ∷ map output_of
      (bumping (needs_additional_bumping p.limits) (with_stored p s.store.buffer)).outputs;
  next = record s {
    store = record s.store
        { buffer = (bumping (needs_additional_bumping p.limits) (with_stored p s.store.buffer)).left };
    current = NoPicture;
    next = record s.next { prev_tid0_count = tid0_behind (Some p) s.next.prev_tid0_count };
  };
}

pub over_is : (p : Head) (set : RefPicSet) (s : Standing) → p.skipped ≡ false
    → finish_current (record s { current = OpenPicture p set }) ≡ over p s
unfolding finish store_picture
over_is p set s e = rw e refl

pub full_is : (p : Head) (set : RefPicSet) (s : Standing) (max : ℕ) (v : Bool) → p.skipped ≡ false
    → max ≡ accepted_size s.store.accepted → nat_le max (length s.store.buffer) ≡ v
    → is_full_now (record s { current = OpenPicture p set }) ≡ v
full_is p set s max v e size full = rw (e, sym size) full

-- the submission is refused
pub unsubmitted : {H T : Type 0} (r : Result T DecodeError) (e : BackendError) (t : Given) (a b : Traces H)
    (p : Head) (set : RefPicSet) (s st : Standing) → IsErrAnd r (λ y. y ≡ backend_error e) → p.skipped ≡ false
    → b.log ≡ a.log → b.handed ≡ a.handed → b.asked ≡ a.asked → b.queue ≡ a.queue → b.tickets ≡ a.tickets
    → st ≡ given_up s → Finishes r t a b (record s { current = OpenPicture p set }) st
unsubmitted {H} {T} r e t a b p set s st is skipped log handed asked queue tickets left = let q =
    err_from_is_err_and r is in rw q.1 (rw q.2 (by e))
  where
    stops : Stops t a b (finish_current (record s { current = OpenPicture p set })).events
        (λ call. LeftUnsubmitted call (record s { current = OpenPicture p set }) st)
    stops = subst
        (λ (q : Part Standing). Stops t a b q.events
        (λ call. LeftUnsubmitted call (record s { current = OpenPicture p set }) st)) (sym (over_is p set s skipped))
        (stops_at t a b (walk.SubmitPicture p.number)
        (map output_of (bumping (needs_additional_bumping p.limits) (with_stored p s.store.buffer)).outputs)
        (λ call. LeftUnsubmitted call (record s { current = OpenPicture p set }) st) log handed asked queue
        (keeps_all a.tickets b.tickets tickets) left)

    by : (e : BackendError)
        → Finishes {H = H} {T = T} (Err (backend_error e)) t a b (record s { current = OpenPicture p set }) st
    by Failed = stops
    by NoMemory = stops

-- the buffer is full
pub fills : {H T : Type 0} (r : Result T DecodeError) (t : Given) (a b : Traces H) (p : Head)
    (set : RefPicSet) (s st : Standing) (max : ℕ) (handle : H) → IsErrAnd r (λ y. y ≡ errors.DpbFull)
    → p.skipped ≡ false → max ≡ accepted_size s.store.accepted → nat_le max (length s.store.buffer) ≡ true
    → b.log ≡ logged a.log (code.SubmitPicture p.number handle ∷ []) → b.handed ≡ a.handed
    → b.asked ≡ a.asked → b.queue ≡ a.queue → b.tickets ≡ a.tickets → st ≡ record (over p s).next { store = s.store }
    → Finishes r t a b (record s { current = OpenPicture p set }) st
fills {H} r t a b p set s st max handle is skipped size full log handed asked queue tickets left = let q =
    err_from_is_err_and r is in rw q.1 (rw q.2 (
      full_is p set s max true skipped size full,
      record {
        number = p.number;
        rest = map output_of (bumping (needs_additional_bumping p.limits) (with_stored p s.store.buffer)).outputs;
        whole = ap (λ (q : Part Standing). q.events) (over_is p set s skipped);
        does = does_call t a b (code.SubmitPicture p.number handle) log
            (handed ∙ logged_none a.handed) asked queue
            (keeps_more a.tickets b.tickets ((p.number, handle) ∷ []) tickets) tt;
        left = left ∙ ap (λ (q : Part Standing). record q.next { store = s.store }) (sym (over_is p set s skipped));
      },
    ))

-- it is stored
pub stored : {H Z : Type 0} (t : Given) (a b : Traces H) (p : Head) (set : RefPicSet) (s st : Standing)
    (max : ℕ) (handle : H) (d e : Dpb H) (before now : VecDeque (Frame H) Z) → p.skipped ≡ false
    → max ≡ accepted_size s.store.accepted → nat_le max (length s.store.buffer) ≡ false
    → b.log ≡ logged a.log (code.SubmitPicture p.number handle ∷ []) → b.handed ≡ a.handed
    → b.asked ≡ a.asked → buffer_of d ≡ with_stored p s.store.buffer
    → tickets (stored_entries d) ≡ a.tickets ++ (p.number, handle) ∷ []
    → Bumps (bumping (needs_additional_bumping p.limits) (buffer_of d)) d e before now
    → a.queue ≡ before.items → b.queue ≡ now.items → b.tickets ≡ tickets (stored_entries e)
    → st ≡ record (over p s).next { store = record s.store { buffer = buffer_of e } }
    → (is_full_now (record s { current = OpenPicture p set }) ≡ false)
    × Completes t a b (finish_current (record s { current = OpenPicture p set })) st
stored {H} {Z} t a b p set s st max handle d e before now skipped size room log handed asked holds there
    bumps qa qb tb left = (
      full_is p set s max false skipped size room,
      subst (λ (q : Part Standing). Completes t a b q st) (sym (over_is p set s skipped)) (record {
        does = does_then t a mid b (Called (walk.SubmitPicture p.number) ∷ [])
            (map output_of (bumping (needs_additional_bumping p.limits) (with_stored p s.store.buffer)).outputs)
            (does_call t a mid (code.SubmitPicture p.number handle) log
            (handed ∙ logged_none a.handed) asked refl
            (keeps_all (a.tickets ++ (p.number, handle) ∷ []) (tickets (stored_entries d)) there) tt)
            (does_bump t mid b (bumping (needs_additional_bumping p.limits) (with_stored p s.store.buffer)) d e
            before now same refl refl refl qa qb refl tb);
        next = left ∙ ap (λ (es : Buffer). record (over p s).next { store = record s.store { buffer = es } }) same.left;
      }),
    )
  where
    mid : Traces H
    mid = record {
      log = b.log;
      handed = b.handed;
      asked = b.asked;
      queue = a.queue;
      tickets = tickets (stored_entries d);
    }

    same : Bumps (bumping (needs_additional_bumping p.limits) (with_stored p s.store.buffer)) d e before now
    same = subst (λ (es : Buffer). Bumps (bumping (needs_additional_bumping p.limits) es) d e before now) holds bumps

-- no picture is open
pub nothing_over : {H : Type 0} (t : Given) (a b : Traces H) (s st : Standing) (current : Current)
    → s.current ≡ current → open_head current ≡ None → b.log ≡ a.log → b.handed ≡ a.handed
    → b.asked ≡ a.asked → b.queue ≡ a.queue → b.tickets ≡ a.tickets → st ≡ given_up s
    → (is_full_now s ≡ false) × Completes t a b (finish_current s) st
unfolding finish
nothing_over t a b s st current is none log handed asked queue tickets left =
    let h : open_head s.current ≡ None = ap open_head is ∙ none in (
      rw h refl,
      rw h (record {
        does = does_nothing t a b log handed asked queue (keeps_all a.tickets b.tickets tickets);
        next = left;
      }),
    )

-- ---- whether there is room

pub room_left : {T E : Type 0} (r : Result T E) (v : T) (m n k : ℕ) → r ≡ Ok v → (m ≤ n → IsErr r) → n ≡ k
    → nat_le m k ≡ false
room_left {T} {E} r v m n k is full same = by (nat_le m k) refl
  where
    by : (b : Bool) → nat_le m k ≡ b → nat_le m k ≡ false
    by false e = e
    by true e = let le : m ≤ k = grind (arith, nat_tests, e) in
        absurd (cc (subst IsErr is (full (omega (arith, le, same)))))

pub no_room : {T E : Type 0} (r : Result T E) (e : E) (m n k : ℕ) → r ≡ Err e → (IsErr r → m ≤ n) → n ≡ k
    → nat_le m k ≡ true
no_room r e m n k is full same = let le = full (subst IsErr (sym is) refl) in grind (arith, nat_tests, le, same)
