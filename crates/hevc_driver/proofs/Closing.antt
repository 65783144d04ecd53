-- The picture whose slices came is over, and all that is needed for output is output.
use Rattle.std.proofs.Common.{◌≡◌, ◌++◌, refl, ap, Result, Err, false}
use Rattle.std.specs.Result.{IsErrAnd}
use Rattle.std.proofs.lemmas.Result.{err_from_is_err_and}
use Rattle.hevc_walk.specs.Buffer.{draining}
use Rattle.hevc_walk.specs.Walk as walk
use Rattle.hevc_walk.specs.Walk.{output_by}
use Rattle.hevc_walk_units.specs.Units.{Standing, on_store, finish_current, is_full_now}
use Rattle.hevc_driver.specs.declared.decode_error.DecodeError.{DecodeError}
use Rattle.hevc_driver.specs.declared.decode_error.DecodeError.TheVariants as errors
use Rattle.hevc_driver.specs.Given.{Given}
use Rattle.hevc_driver.specs.Does.{Traces, Stops, Completes}
use Rattle.hevc_driver.specs.Moments.{closes, given_up}
use Rattle.hevc_driver.specs.Takes.{Finishes, LeftUnsubmitted, Closes}
use Rattle.hevc_driver.proofs.Doing.{completes_then, stops_as, stops_more}

pub close_refused : {H T : Type 0} (r : Result T DecodeError) (e : DecodeError) (t : Given) (a b : Traces H)
    (s st : Standing) → IsErrAnd r (λ y. y ≡ e) → Finishes {H = H} {T = T} (Err e) t a b s st → Closes r t a b s st
close_refused {H} {T} r e t a b s st is h = let q = err_from_is_err_and r is in rw q.1 (rw q.2 (by e h))
  where
    left : (c : walk.Call) → LeftUnsubmitted c s st → st ≡ given_up s
    left (walk.SubmitPicture number) h = h
    left (walk.NewSequence info) h = absurd h
    left (walk.NewPicture number nal c o i) h = absurd h
    left (walk.BeginPicture number set) h = absurd h
    left (walk.DecodeSlice number address bytes l0 l1) h = absurd h

    stops : Stops t a b (finish_current s).events (λ c. LeftUnsubmitted c s st)
        → Stops t a b (closes s).events (λ c. st ≡ given_up s)
    stops y = stops_more t a b (finish_current s).events
        (on_store (output_by draining) (finish_current s).next).events (λ c. st ≡ given_up s)
        (stops_as t a b (finish_current s).events (finish_current s).events (λ c. LeftUnsubmitted c s st)
        (λ c. st ≡ given_up s) refl left y)

    by : (e : DecodeError) → Finishes {H = H} {T = T} (Err e) t a b s st → Closes {H = H} {T = T} (Err e) t a b s st
    by errors.Backend h = stops h
    by errors.NoMemory h = stops h
    by errors.DpbFull h = (
      h.0,
      record {
        number = h.1.number;
        rest = h.1.rest ++ (on_store (output_by draining) (finish_current s).next).events;
        whole = ap (λ es. es ++ (on_store (output_by draining) (finish_current s).next).events) h.1.whole;
        does = h.1.does;
        left = h.1.left;
      },
    )
    by e h = absurd h

pub close_done : {H : Type 0} (t : Given) (a m b : Traces H) (s mid st : Standing)
    → (is_full_now s ≡ false) × Completes t a m (finish_current s) mid
    → Completes t m b (on_store (output_by draining) mid) st → (is_full_now s ≡ false) × Completes t a b (closes s) st
close_done t a m b s mid st x y =
    (x.0, completes_then t a m b (finish_current s) (on_store (output_by draining)) mid st x.1 y)
