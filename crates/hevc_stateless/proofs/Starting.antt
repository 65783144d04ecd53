-- The first sequence set opens a negotiation.
use Rattle.std.proofs.Common.{◌≡◌, false, refl, sym, Result, Err}
use Rattle.std.specs.Result.{IsErrAnd}
use Rattle.std.proofs.lemmas.Result.{err_from_is_err_and}
use Rattle.hevc_walk.specs.Meanings.{Format, SequenceSet}
use Rattle.hevc_walk.specs.Walk as walk
use Rattle.hevc_walk.specs.Walk.{open_sequence}
use Rattle.hevc_walk_units.specs.Units.{Standing, on_store}
use Rattle.hevc_driver.specs.declared.decode_error.DecodeError.{DecodeError}
use Rattle.hevc_driver.specs.declared.decode_error.DecodeError.TheVariants as errors
use Rattle.hevc_driver.specs.Given.{Given}
use Rattle.hevc_driver.specs.Does.{Traces, Stops, StopsBy, Completes}
use Rattle.hevc_driver.specs.Takes.{Takes, Opens, LeftAt, IsNewSequence}
use Rattle.hevc_driver.proofs.Doing.{stops_as}
use Rattle.hevc_stateless.specs.declared.state.State.{State}
use Rattle.hevc_stateless.specs.States.{MovesBy}

left : (f : Format) (s st : Standing) (c : walk.Call) → IsNewSequence c × (st ≡ s) → LeftAt c false (SequenceSet f) s st
left f s st (walk.NewSequence info) h = (refl, h.1, refl)
left f s st (walk.SubmitPicture number) h = absurd h.0
left f s st (walk.NewPicture number nal c o k) h = absurd h.0
left f s st (walk.BeginPicture number set) h = absurd h.0
left f s st (walk.DecodeSlice number address bytes l0 l1) h = absurd h.0

pub opens_first : {H : Type 0} (t : Given) (a m b : Traces H) (f : Format) (s ms st : Standing) → m ≡ a
    → ms ≡ s → Completes t m b (on_store (open_sequence f) ms) st → Opens t a b (SequenceSet f) s st
opens_first t a m b f s ms st traces standing x =
    rw (sym traces) (rw (sym standing) (record { negotiates = refl; room = refl; completes = x }))

pub first_refused : {H T : Type 0} (r : Result T DecodeError) (e : DecodeError) (t : Given)
    (a m b : Traces H) (f : Format) (s ms st : Standing) → IsErrAnd r (λ y. y ≡ e) → m ≡ a → ms ≡ s
    → StopsBy e t m b (on_store (open_sequence f) ms).events (λ c. IsNewSequence c × (st ≡ ms))
    → Takes r t a b (SequenceSet f) s st
first_refused {H} {T} r e t a m b f s ms st was traces standing x = let q = err_from_is_err_and r was in
    rw q.1 (rw q.2 (rw (sym traces) (rw (sym standing) (by e x))))
  where
    stops : Stops t m b (on_store (open_sequence f) ms).events (λ c. IsNewSequence c × (st ≡ ms))
        → Stops t m b (on_store (open_sequence f) ms).events (λ c. LeftAt c false (SequenceSet f) ms st)
    stops y = stops_as t m b (on_store (open_sequence f) ms).events (on_store (open_sequence f) ms).events
        (λ c. IsNewSequence c × (st ≡ ms)) (λ c. LeftAt c false (SequenceSet f) ms st) refl (left f ms st) y

    by : (e : DecodeError)
        → StopsBy e t m b (on_store (open_sequence f) ms).events (λ c. IsNewSequence c × (st ≡ ms))
        → Takes {H = H} {T = T} (Err e) t m b (SequenceSet f) ms st
    by errors.Backend y = record { asked = false; stops = stops y }
    by errors.NoMemory y = record { asked = false; stops = stops y }
    by other y = absurd y

-- an error of the backend changes no state
pub refused_stays : {H T : Type 0} (r : Result T DecodeError) (e : DecodeError) (t : Given) (m b : Traces H)
    (f : Format) (ms st : Standing) (x y : State) → IsErrAnd r (λ y. y ≡ e)
    → StopsBy e t m b (on_store (open_sequence f) ms).events (λ c. IsNewSequence c × (st ≡ ms)) → y ≡ x → MovesBy r x y
refused_stays {H} {T} r e t m b f ms st x y was h same = let q = err_from_is_err_and r was in rw q.1 (rw q.2 (by e h))
  where
    by : (e : DecodeError)
        → StopsBy e t m b (on_store (open_sequence f) ms).events (λ c. IsNewSequence c × (st ≡ ms))
        → MovesBy {T = T} (Err e) x y
    by errors.Backend h = same
    by errors.NoMemory h = same
    by other h = absurd h

-- a refusal of the backend leaves the standing
pub refused_left : {H : Type 0} (e : DecodeError) (t : Given) (m b : Traces H) (f : Format)
    (ms st : Standing)
    → StopsBy e t m b (on_store (open_sequence f) ms).events (λ c. IsNewSequence c × (st ≡ ms)) → st ≡ ms
refused_left errors.Backend t m b f ms st h = h.left.1
refused_left errors.NoMemory t m b f ms st h = h.left.1
refused_left other t m b f ms st h = absurd h
