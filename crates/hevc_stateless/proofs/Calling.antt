-- The first unit of the input is taken.
use Rattle.std.proofs.Common.{◌≡◌, inl, inr, ⊎_elim, ℕ, ◌+◌, List, ◌∷◌, length, Result, Ok, Err}
use Rattle.std.proofs.Common.{Bool, false, true, refl, sym, ap, ◌∙◌, subst}
use Rattle.std.specs.Result.{IsErrAnd}
use Rattle.std.proofs.lemmas.Result.{err_from_is_err_and}
use Rattle.hevc_spec.specs.Units.{NalUnit}
use Rattle.hevc_spec.specs.UnitHeader.{UnitHeader, unit_header}
use Rattle.hevc_bits.specs.FoundUnit.{FoundUnit, bytes_of, unit_of}
use Rattle.hevc_stream.specs.Options.{Options}
use Rattle.hevc_driver.specs.declared.decode_error.DecodeError.{DecodeError}
use Rattle.hevc_driver.specs.declared.decode_error.DecodeError.TheVariants as errors
use Rattle.hevc_driver.specs.declared.decode_error.DecodeError.TheVariants.{CheckEvents}
use Rattle.hevc_stateless.specs.States.{is_awaited}
use Rattle.hevc_stateless.specs.Steps.{Seen, Step, StepsIn, TakesFirst, given_to}

isnt_both : (b : Bool) → b ≡ true → b ≡ false → ⊥
isnt_both b one other = cc (sym one ∙ other)

module _ {B H : Type 0} (t : ℕ) (o : Options) (old new : Seen B H) where
  pub steps_in : {T : Type 0} (r : Result T DecodeError) (h : UnitHeader) (bytes : List ℕ)
      → is_awaited old.view.state ≡ false → Step r (given_to t o h bytes old) o h bytes old new
      → StepsIn r t o h bytes old new
  steps_in r h bytes going step = record {
    awaited = λ waits. absurd (isnt_both (is_awaited old.view.state) waits going);
    taken = λ _. step;
  }

  abbrev error_in : {T : Type 0} → DecodeError → Result T DecodeError → DecodeError
  error_in e (Ok v) = e
  error_in e (Err x) = x

  same_refusal : (e : DecodeError) (h : UnitHeader) (bytes : List ℕ)
      → Step {T = Unit {0}} (Err e) (given_to t o h bytes old) o h bytes old new
      → Step {T = ℕ} (Err e) (given_to t o h bytes old) o h bytes old new
  same_refusal errors.NoMemory h bytes step = record {
    takes = ⊎_elim inl (λ a. inr (record { part = a.part; state = a.state; latest = a.latest })) step.takes;
    kept = step.kept;
  }
  same_refusal e h bytes step = record {
    takes = record { part = step.takes.part; state = step.takes.state; latest = step.takes.latest };
    kept = step.kept;
  }

  refused_in : (e : DecodeError) (h : UnitHeader) (bytes : List ℕ)
      → StepsIn {T = Unit {0}} (Err e) t o h bytes old new → StepsIn {T = ℕ} (Err e) t o h bytes old new
  refused_in e h bytes x = record {
    awaited = λ waits. (ap Err (ap (error_in e) (x.awaited waits).0), (x.awaited waits).1);
    taken = λ going. same_refusal e h bytes (x.taken going);
  }

  same_step : {T : Type 0} (v : T) (place : ℕ) (h : UnitHeader) (bytes : List ℕ)
      → Step (Ok v) (given_to t o h bytes old) o h bytes old new
      → Step (Ok place) (given_to t o h bytes old) o h bytes old new
  same_step v place h bytes step = record {
    takes = record { part = step.takes.part; state = step.takes.state; latest = step.takes.latest };
    kept = step.kept;
  }

  taken_in : {T : Type 0} (v : T) (place : ℕ) (h : UnitHeader) (bytes : List ℕ)
      → StepsIn (Ok v) t o h bytes old new → StepsIn (Ok place) t o h bytes old new
  taken_in v place h bytes x = record {
    awaited = λ waits. absurd (cc (x.awaited waits).0);
    taken = λ going. same_step v place h bytes (x.taken going);
  }

  pub first_taken : {T : Type 0} (us others : List NalUnit) (n : FoundUnit UnitHeader) (v : T)
      (r : Result T DecodeError) (place : ℕ) → us ≡ unit_of n ∷ others
      → unit_header (bytes_of n) ≡ Ok n.header → r ≡ Ok v → place ≡ n.offset + length (bytes_of n)
      → StepsIn r t o n.header (bytes_of n) old new → TakesFirst us (Ok place) t o old new
  first_taken {T} us others n v r place list parsed is at steps =
      rw list (rw parsed (
        taken_in v place n.header (bytes_of n)
            (subst (λ (r : Result T DecodeError). StepsIn r t o n.header (bytes_of n) old new) is steps),
        at,
      ))

  pub first_refused : (us others : List NalUnit) (n : FoundUnit UnitHeader) (r : Result ℕ DecodeError)
      (e : DecodeError) → us ≡ unit_of n ∷ others → unit_header (bytes_of n) ≡ Ok n.header → IsErrAnd r (λ x. x ≡ e)
      → StepsIn {T = Unit {0}} (Err e) t o n.header (bytes_of n) old new → TakesFirst us r t o old new
  first_refused us others n r e list parsed is steps =
      let q = err_from_is_err_and r is in
      rw list (rw parsed (rw q.1 (rw q.2 (refused_in e n.header (bytes_of n) steps, tt))))

-- a format that is awaited is told, and nothing is done
pub told_first : {B H : Type 0} (t : ℕ) (o : Options) (s : Seen B H) (h : UnitHeader) (bytes : List ℕ)
    → is_awaited s.view.state ≡ true → StepsIn {T = Unit {0}} (Err CheckEvents) t o h bytes s s
told_first t o s h bytes awaited = record {
  awaited = λ _. (refl, refl);
  taken = λ going. absurd (isnt_both (is_awaited s.view.state) awaited going);
}
