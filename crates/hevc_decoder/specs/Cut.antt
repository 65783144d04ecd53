-- Where the events that the units of a stream ask for were cut: those before it were done.
use Rattle.std.specs.Prelude.{◌≡◌, ℕ, ◌≤◌, List, [], ◌∷◌, ◌++◌, map, Option, Result, Ok, Err}
use Rattle.std.specs.List.{AllByRecursion}
use Rattle.hevc_walk.specs.Meanings.{Meaning}
use Rattle.hevc_walk.specs.Walk as walk
use Rattle.hevc_walk.specs.Walk.{Event, Called, Output}
use Rattle.hevc_walk.specs.Results.{events, calls, outputs, verdict, calls_in, outputs_in}
use Rattle.hevc_walk.specs.Results.{calls_below, outputs_below}
use Rattle.hevc_backend.specs.declared.call.Call.{Call}
use Rattle.hevc_driver.specs.Calls.{call_of}
use Rattle.hevc_driver.specs.declared.decode_error.DecodeError.{DecodeError}
use Rattle.hevc_driver.specs.declared.decode_error.DecodeError.TheVariants as errors
use Rattle.hevc_decoder.specs.declared.decoded.Refused.{Refused}
use Rattle.hevc_decoder.specs.declared.decoded.Shown.{Shown}
use Rattle.hevc_decoder.specs.Names.{answer_of, output_picture}
use Rattle.hevc_decoder.specs.Headline.{BeginsPicture, Grew, Appended, all_asked}

-- the next event is a call of unit k
abbrev pub CallFollows : ℕ → List (ℕ × Event) → Type 0
CallFollows k [] = ⊥
CallFollows k ((j, Called call) ∷ rest) = j ≡ k
CallFollows k ((j, Output number order_count) ∷ rest) = ⊥

-- What was done is up to unit k, and what wasn't is from there on.
pub record UpTo (k : ℕ) (done rest : List (ℕ × Event)) : Type 0 where
  pub done_before : AllByRecursion (λ e. e.0 ≤ k) done
  pub rest_behind : AllByRecursion (λ e. k ≤ e.0) rest

-- What was done is all before unit k, and the submission of its picture before.
pub record Fills (k : ℕ) (us : List Meaning) (done : List (ℕ × Event)) : Type 0 where
  pub before : List (ℕ × Event)
  pub number : ℕ
  pub done_is : done ≡ before ++ (k, Called (walk.SubmitPicture number)) ∷ []
  pub calls : calls_below k (calls us) ≡ calls_in before
  pub outputs : outputs_below k (outputs us) ≡ outputs_in before

-- the verdict is this refusal
abbrev pub IsVerdict : Refused → List Meaning → Type 0
IsVerdict r us = answer_of (verdict us) ≡ Err r

abbrev pub EndsAt : DecodeError → Refused → List Meaning → List (ℕ × Event) → List (ℕ × Event)
    → Type 0
EndsAt errors.Backend r us done rest = UpTo r.unit done rest × CallFollows r.unit rest
EndsAt errors.NoMemory r us done rest = UpTo r.unit done rest
EndsAt (errors.NotEnoughOutputBuffers frames) r us done rest =
    (frames ≡ 1) × BeginsPicture r.unit us × UpTo r.unit done rest
EndsAt errors.DpbFull r us done rest = IsVerdict r us × Fills r.unit us done
EndsAt errors.NoNal r us done rest = ⊥
EndsAt errors.CheckEvents r us done rest = ⊥
EndsAt errors.PictureNumbersSpent r us done rest = ⊥
EndsAt error r us done rest = IsVerdict r us × (rest ≡ [])

-- All was done, and this is the verdict on the units; or, where the backend failed or had no frame,
-- or memory was wanted, at unit k, what comes before it, and of that unit what was done.
abbrev pub Ends : Result ℕ Refused → List Meaning → List (ℕ × Event) → List (ℕ × Event) → Type 0
Ends (Ok n) us done rest = (answer_of (verdict us) ≡ Ok n) × (rest ≡ [])
Ends (Err r) us done rest = EndsAt r.error r us done rest

-- One cut of all events: the calls made and the pictures output are those before it, whatever the
-- order among both, and where it is the answer says.
pub record IsCut {H : Type 0} (result : Result ℕ Refused) (us : List Meaning)
    (old_log new_log : Option (List (Call H))) (old_shown new_shown : List (Shown H)) : Type 0 where
  pub done : List (ℕ × Event)
  pub rest : List (ℕ × Event)
  pub whole : events us ≡ done ++ rest
  pub made : Grew old_log new_log (λ l. map call_of l ≡ all_asked (calls_in done))
  pub given : Appended old_shown new_shown (λ o. map output_picture o ≡ outputs_in done)
  pub ends : Ends result us done rest
