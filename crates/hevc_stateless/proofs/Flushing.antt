-- A stream is flushed.
use Rattle.std.proofs.Common.{◌≡◌, inr, if◌then◌else◌, sym, ap, ◌∙◌, Result, Ok, Err}
use Rattle.std.specs.Result.{IsErrAnd}
use Rattle.std.proofs.lemmas.Result.{err_from_is_err_and}
use Rattle.hevc_walk_units.specs.Units as units
use Rattle.hevc_walk_units.specs.Units.{Standing}
use Rattle.hevc_driver.specs.declared.decode_error.DecodeError.{DecodeError}
use Rattle.hevc_driver.specs.declared.decode_error.DecodeError.TheVariants as errors
use Rattle.hevc_driver.specs.Given.{Given}
use Rattle.hevc_driver.specs.Does.{Traces}
use Rattle.hevc_driver.specs.Moments.{forgotten}
use Rattle.hevc_driver.specs.Takes.{Closes}
use Rattle.hevc_stateless.specs.declared.state.State.{State}
use Rattle.hevc_stateless.specs.declared.state.State.TheVariants.{AwaitingStreamInfo, AwaitingFormat, Decoding, Reset}
use Rattle.hevc_stateless.specs.States.{is_awaited}
use Rattle.hevc_stateless.specs.Views.{IsIdleBefore}
use Rattle.hevc_stateless.specs.Flushes.{Flushes, Ends}

-- no picture is open
pub idle : (x : State) (current : units.Current) → current ≡ units.NoPicture → IsIdleBefore x current
idle AwaitingStreamInfo current none = none
idle AwaitingFormat current none = tt
idle Decoding current none = tt
idle Reset current none = tt

-- after a refusal the picture is given up
pub closed_none : {H : Type 0} (T : Type 0) (e : DecodeError) (t : Given) (a b : Traces H) (s st : Standing)
    → Closes {H = H} {T = T} (Err e) t a b s st → st.current ≡ units.NoPicture
closed_none T errors.DpbFull t a b s st h = ap (λ (x : Standing). x.current) h.1.left
closed_none T errors.Backend t a b s st h = ap (λ (x : Standing). x.current) h.left
closed_none T errors.NoMemory t a b s st h = ap (λ (x : Standing). x.current) h.left
closed_none T e t a b s st h = absurd h

pub flush_refused : {H T : Type 0} (r : Result T DecodeError) (e : DecodeError) (t : Given)
    (a m b : Traces H) (x : State) (s ms st : Standing) → IsErrAnd r (λ y. y ≡ e) → m ≡ a → ms ≡ s
    → Closes {H = H} {T = T} (Err e) t m b ms st → Flushes r t a b x s st
flush_refused {H} {T} r e t a m b x s ms st is traces standing h = let q = err_from_is_err_and r is in
    rw q.1 (rw q.2 (rw (sym traces) (rw (sym standing) (by e h))))
  where
    by : (e : DecodeError) → Closes {H = H} {T = T} (Err e) t m b ms st → Flushes {H = H} {T = T} (Err e) t m b x ms st
    by errors.Backend h = h
    by errors.NoMemory h = inr h
    by errors.DpbFull h = h
    by e h = absurd h

pub flush_done : {H : Type 0} (T : Type 0) (value : T) (t : Given) (a m n b : Traces H) (x : State)
    (s ms mid st : Standing) → m ≡ a → ms ≡ s → Closes {H = H} {T = T} (Ok value) t m n ms mid → b ≡ n
    → st ≡ (if is_awaited x then forgotten mid else mid) → Ends t a b x s st
flush_done T value t a m n b x s ms mid st traces standing h after left =
    rw (sym traces) (rw (sym standing) (rw after (record {
      room = h.0;
      does = h.1.does;
      left = left ∙ ap (λ (z : Standing). if is_awaited x then forgotten z else z) h.1.next;
    })))
