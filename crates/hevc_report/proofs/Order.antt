-- The pictures of a stream that is decoded are output in order.
use Rattle.std.proofs.Common.{◌≡◌, ℕ, length, Option, Some, None, List, Result, Ok, Err, true, is_ok, refl}
use Rattle.hevc_walk.specs.Pictures.{pictures}
use Rattle.hevc_walk.specs.Meanings.{Meaning}
use Rattle.hevc_walk.specs.Refusals.{Refusal, stop}
use Rattle.hevc_walk.specs.Results.{outputs, verdict, full, full_or, stop_or}
use Rattle.hevc_walk_order.specs.DisplayOrder.{ComeInOrder, ComeInTurn}
use Rattle.hevc_walk_order.proofs.Law.{law}
use Rattle.hevc_walk_order.proofs.Turns.{in_turn}
use Rattle.hevc_decoder.specs.declared.decoded.Refused.{Refused}
use Rattle.hevc_decoder.specs.Names.{answer_of}
use Rattle.hevc_decoder.specs.Headline.{AnswersVerdict}

goes_on : (f : Option ℕ) (s : Option Refusal) (n m : ℕ) → answer_of (full_or f (stop_or s (Ok n))) ≡ Ok m → s ≡ None
goes_on (Some k) s n m h = absurd (cc h)
goes_on None (Some refusal) n m h = absurd (cc h)
goes_on None None n m h = refl

-- an answer that is the verdict, and is no refusal
no_stop : (us : List Meaning) (r : Result ℕ Refused) → AnswersVerdict r (verdict us) → is_ok r ≡ true → stop us ≡ None
no_stop us (Ok m) answers is = goes_on (full us) (stop us) (length (pictures us)) m answers
no_stop us (Err refused) answers is = absurd (cc is)

pub come_in_turn : (us : List Meaning) (r : Result ℕ Refused) → AnswersVerdict r (verdict us) → is_ok r ≡ true
    → ComeInTurn us (outputs us)
come_in_turn us r answers is = in_turn us (no_stop us r answers is)

pub come_in_order : (us : List Meaning) (r : Result ℕ Refused) → AnswersVerdict r (verdict us) → is_ok r ≡ true
    → ComeInOrder us (outputs us)
come_in_order us r answers is = law us (no_stop us r answers is)
