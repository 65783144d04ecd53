-- What decoding a stream promises: which calls the backend got, which pictures were output,
-- and how it ended.
use Rattle.std.specs.Prelude.{◌≡◌, ℕ, ◌≤◌, List, [], ◌∷◌, ◌++◌, map, Option, Result, Ok, Err}
use Rattle.std.specs.Prelude.{Contains}
use Rattle.std.specs.List.{AllByRecursion}
use Rattle.hevc_walk.specs.Meanings.{Meaning}
use Rattle.hevc_walk.specs.Pictures.{Picture, pictures, stream}
use Rattle.hevc_walk.specs.Walk as walk
use Rattle.hevc_walk.specs.Refusals.{Refusal}
use Rattle.hevc_walk.specs.Fates.{times, numbers_for_output, discarded_numbers}
use Rattle.hevc_walk_bound.specs.Stores.{StoresFew}
use Rattle.hevc_dpb.specs.Entries.{IsPartOf}
use Rattle.hevc_backend.specs.declared.call.Call.{Call}
use Rattle.hevc_backend.specs.Trait.{logged}
use Rattle.hevc_driver.specs.declared.decode_error.DecodeError.{DecodeError}
use Rattle.hevc_driver.specs.declared.decode_error.DecodeError.TheVariants as errors
use Rattle.hevc_driver.specs.Calls.{submissions}
use Rattle.hevc_stateless_laws.specs.Stands.{asked}
use Rattle.hevc_decoder.specs.declared.decoded.Shown.{Shown}
use Rattle.hevc_decoder.specs.declared.decoded.Refused.{Refused}
use Rattle.hevc_decoder.specs.Names.{answer_of, shown_ticket}

-- the log, where it is exposed, grew by calls of which this holds
abbrev pub Grew : {X : Type 0} → Option (List X) → Option (List X) → (List X → Type 0) → Type 0
Grew {X} before now P = (l : List X) × (now ≡ logged before l) × P l

-- a list grew by members of which this holds
abbrev pub Appended : {X : Type 0} → List X → List X → (List X → Type 0) → Type 0
Appended {X} old new P = (o : List X) × (new ≡ old ++ o) × P o

abbrev pub IsFront : {X : Type 0} → List X → List X → Type 0
IsFront {X} front all = (rest : List X) × (all ≡ front ++ rest)

-- the calls that the units ask for, without their units
abbrev pub all_asked : List (ℕ × walk.Call) → List walk.Call
all_asked cs = map asked cs

-- ---- the answer

-- the answer is the verdict on the units, but for the three that the units don't decide
abbrev pub AnswersError : DecodeError → Refused → Result ℕ Refusal → Type 0
AnswersError errors.Backend r verdict = Unit {0}
AnswersError (errors.NotEnoughOutputBuffers frames) r verdict = Unit {0}
AnswersError errors.NoMemory r verdict = Unit {0}
AnswersError error r verdict = answer_of verdict ≡ Err r

abbrev pub AnswersVerdict : Result ℕ Refused → Result ℕ Refusal → Type 0
AnswersVerdict (Ok n) verdict = answer_of verdict ≡ Ok n
AnswersVerdict (Err r) verdict = AnswersError r.error r verdict

-- ---- frames

-- a picture begins with unit k (7.4.2.4.5)
pub record BeginsPicture (k : ℕ) (us : List Meaning) : Type 0 where
  pub picture : Picture
  pub coded : Contains (pictures us) picture
  pub first : picture.unit ≡ k

-- a frame is wanted for a picture alone, and as it begins
abbrev pub WantsFrame : DecodeError → ℕ → List Meaning → Type 0
WantsFrame (errors.NotEnoughOutputBuffers frames) k us = BeginsPicture k us
WantsFrame error k us = Unit {0}

-- ---- pictures and handles

-- each output's picture was submitted, and got this handle
abbrev pub AllSubmitted : {H : Type 0} → List (Call H) → List (Shown H) → Type 0
AllSubmitted calls shown = IsPartOf (map shown_ticket shown) (submissions calls)

-- no picture is submitted twice, so that the handle of each is one
abbrev pub SubmittedOnce : {H : Type 0} → List (Call H) → Type 0
SubmittedOnce calls = (n : ℕ) → times n (map (λ t. t.0) (submissions calls)) ≤ 1

abbrev pub shown_numbers : {H : Type 0} → List (Shown H) → List ℕ
shown_numbers shown = map (λ o. o.number) shown

-- no picture is output twice
abbrev pub ComeOutOnce : {H : Type 0} → List (Shown H) → Type 0
ComeOutOnce shown = (n : ℕ) → times n (shown_numbers shown) ≤ 1

-- those whose fate it is to be output are output, and no others
abbrev pub AreForOutput : {H : Type 0} → List Meaning → List (Shown H) → Type 0
AreForOutput us shown =
    (n : ℕ)
    → times n (shown_numbers shown)
    ≡ times n (numbers_for_output (discarded_numbers us) (pictures us))

-- ---- the buffer

-- whenever a picture is to be stored, no more are in the buffer than its sets declare (C.5.2.3)
abbrev pub NeverStoreMore : List Meaning → Type 0
NeverStoreMore us = StoresFew (stream us).first_set (pictures us)
