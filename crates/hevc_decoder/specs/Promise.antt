-- What decoding a byte stream promises, over any backend and under any options.
use Rattle.std.specs.Prelude.{◌≡◌, ℕ, ◌≤◌, ◌<◌, ◌-◌, ◌^◌, List, map, length, take, Option, Result}
use Rattle.std.specs.Prelude.{Ok, IfErr, OnOk}
use Rattle.std.specs.List.{AllByRecursion}
use Rattle.hevc_spec.specs.Units.{units}
use Rattle.hevc_walk.specs.Clean.{IsClean}
use Rattle.hevc_walk.specs.Results as walk
use Rattle.hevc_walk_order.specs.DisplayOrder.{ComeInOrder, ComeInTurn}
use Rattle.hevc_stream.specs.Options.{Options}
use Rattle.hevc_stream.specs.Stream.{meanings}
use Rattle.hevc_backend.specs.declared.call.Call.{Call}
use Rattle.hevc_backend.specs.Handed.{Handed}
use Rattle.hevc_backend.specs.Trait.{Counts}
use Rattle.hevc_driver.specs.Answers.{CountsErrors, KeepsFaultless}
use Rattle.hevc_driver.specs.Calls.{call_of, IsTimed}
use Rattle.hevc_driver.specs.Given.{AreOneToOne}
use Rattle.hevc_stateless_laws.specs.Segments.{handed_over, read_units}
use Rattle.hevc_decoder.specs.declared.decoded.Refused.{Refused}
use Rattle.hevc_decoder.specs.declared.decoded.Shown.{Shown}
use Rattle.hevc_decoder.specs.Answers.{AnswersOnly, FindsRoom, IsOkOrNoMemory, without_unit}
use Rattle.hevc_decoder.specs.Cut.{IsCut}
use Rattle.hevc_decoder.specs.Headline.{Grew, Appended, IsFront, all_asked, AnswersVerdict}
use Rattle.hevc_decoder.specs.Headline.{WantsFrame, AllSubmitted, SubmittedOnce, ComeOutOnce}
use Rattle.hevc_decoder.specs.Headline.{AreForOutput, NeverStoreMore}
use Rattle.hevc_decoder.specs.Names.{output_picture}

-- What is told at a moment: of a backend its log and what it was handed, if it exposes them, its
-- counts, and its promise never to fail; and the pictures that were output.
pub record Told (H : Type 0) : Type 1 where
  pub log : Option (List (Call H))
  pub handed : Option (List Handed)
  pub counts : Counts
  pub is_faultless : Type 0
  pub shown : List (Shown H)

abbrev pub told : {B H : Type 0} → (log : B → Option (List (Call H)))
    → (handed : B → Option (List Handed)) → (counts : B → Counts) → (is_faultless : B → Type 0) → B
    → List (Shown H) → Told H
told log handed counts is_faultless backend shown = record {
  log = log backend;
  handed = handed backend;
  counts = counts backend;
  is_faultless = is_faultless backend;
  shown = shown;
}

-- no fault and no answer of no frame was counted, and each could have been
pub record CountsNone (before now : Counts) : Type 0 where
  pub same : now ≡ before
  pub faults : before.faults < 2 ^ 64 - 1
  pub empty_answers : before.empty_answers < 2 ^ 64 - 1

-- What holds of a decoding with this answer, whatever the bytes are.
pub record IsHonest {H : Type 0} (before now : Told H) (result : Result ℕ Refused) : Type 0 where
  pub answers_only : AnswersOnly result
  -- each picture is output with the handle of its one submission
  pub handles : Grew before.log now.log
      (λ l. Appended before.shown now.shown (λ o. AllSubmitted l o))
  pub submitted_once : Grew before.log now.log (λ l. SubmittedOnce l)
  -- no picture is output twice
  pub once : Appended before.shown now.shown (λ o. ComeOutOnce o)
  -- each new picture has timestamp 0
  pub timestamps : Grew before.log now.log (λ l. AllByRecursion (IsTimed 0) l)
  -- the backend is blamed only where it failed or had no frame
  pub cause : CountsErrors before.counts now.counts (without_unit result)
  -- one that never fails didn't, and never will
  pub faultless : KeepsFaultless before.is_faultless now.is_faultless
      (without_unit result)

-- What holds of these bytes under these options.
pub record Decodes {H : Type 0} (options : Options) (stream : List ℕ) (before now : Told H)
    (result : Result ℕ Refused) : Type 0 where
  -- the backend gets the calls that the units ask for, in order, and no other
  pub calls : Grew before.log now.log
      (λ l. IsFront (map call_of l) (all_asked (walk.calls (meanings options stream))))
  -- the pictures that are to be output are output in order, each with its order count and at its
  -- unit, and no others
  pub outputs : Appended before.shown now.shown
      (λ o. IsFront (map output_picture o) (walk.outputs (meanings options stream)))
  -- any answer but a failed backend, one without a frame, and no memory is the verdict on the units
  pub answer : AnswersVerdict result (walk.verdict (meanings options stream))
  -- In the order of all events there is one cut, before which all calls were made and all pictures
  -- output, and none after it: at the end on a verdict, or after the submission that finds the
  -- buffer full; else, at unit k, after all of units before k and before all of units after it.
  pub cut : IsCut result (meanings options stream) before.log now.log before.shown now.shown
  -- with each of these calls came exactly the picture, the parameter sets and the header of its
  -- unit: the sets that are kept there, and the header of a dependent slice segment completed
  pub handed : Grew before.handed now.handed (λ hs. Grew before.log now.log
      (λ l. hs ≡ handed_over (meanings options stream) (read_units options stream)
      (take (length l) (walk.calls (meanings options stream)))))
  -- one to one, in order: a picture with each NewPicture, a picture and its first slice segment
  -- with each BeginPicture, a slice segment with each DecodeSlice
  pub one_to_one : Grew before.handed now.handed (λ hs. Grew before.log now.log
      (λ l. AreOneToOne hs (map call_of l)))
  pub unit : IfErr result (λ refused. refused.unit ≤ length (units stream))
  -- a frame is wanted for a picture alone, and as it begins
  pub frames : IfErr result
      (λ refused. WantsFrame refused.error refused.unit (meanings options stream))
  -- where the stream is decoded whole, those whose fate it is to be output are output
  pub fates : OnOk result
      (Appended before.shown now.shown (λ o. AreForOutput (meanings options stream) o))
  -- sequence by sequence, and each that keeps the order that it declares in display order
  pub in_turn : OnOk result
      (Appended before.shown now.shown
      (λ o. ComeInTurn (meanings options stream) (map output_picture o)))
  pub display_order : OnOk result
      (Appended before.shown now.shown
      (λ o. ComeInOrder (meanings options stream) (map output_picture o)))
  -- Where nothing is refused, and so in every clean stream, memory is all that it takes with a
  -- backend that fails nowhere, and with one that never fails.
  pub complete : (n : ℕ) → walk.verdict (meanings options stream) ≡ Ok n
      → CountsNone before.counts now.counts → IsOkOrNoMemory result
  pub clean : IsClean (meanings options stream)
      → CountsNone before.counts now.counts → IsOkOrNoMemory result
  pub complete_over_faultless : (n : ℕ) → walk.verdict (meanings options stream) ≡ Ok n
      → before.is_faultless → IsOkOrNoMemory result
  pub clean_over_faultless : IsClean (meanings options stream)
      → before.is_faultless → IsOkOrNoMemory result
  -- a clean stream stores no picture where there are more entries than its sets declare, so over
  -- any backend none finds the buffer full
  pub stores_few : IsClean (meanings options stream) → NeverStoreMore (meanings options stream)
  pub room : IsClean (meanings options stream) → FindsRoom result
  pub honest : IsHonest before now result
