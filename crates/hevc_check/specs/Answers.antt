-- The answers of a check.
use Rattle.std.specs.Prelude.{◌≡◌, ℕ, List, Result, Ok, Err}
use Rattle.hevc_walk.specs.Meanings.{Meaning}
use Rattle.hevc_walk.specs.Refusals.{Refusal}
use Rattle.hevc_walk.specs.Results.{outputs}
use Rattle.hevc_walk_order.specs.Sequences.{Sequence, IsSequence, pictures_for_output, outputs_of}
use Rattle.hevc_walk_order.specs.DisplayOrder.{AreInOrder}
use Rattle.hevc_decoder.specs.Names.{answer_of}
use Rattle.hevc_driver.specs.declared.decode_error.DecodeError.{DecodeError}
use Rattle.hevc_driver.specs.declared.decode_error.DecodeError.TheVariants as errors
use Rattle.hevc_decoder.specs.declared.decoded.Refused as decoder
use Rattle.hevc_check_laws.specs.Checks as laws
use Rattle.hevc_check.specs.Breaches.{breach_of}
use Rattle.hevc_check.specs.declared.check.Checked.{Checked}
use Rattle.hevc_check.specs.declared.check.Checked.TheVariants.{Yes, No}
use Rattle.hevc_check.specs.declared.check.CheckError.{CheckError}
use Rattle.hevc_check.specs.declared.check.CheckError.TheVariants.{Refused, NoMemory}

abbrev pub checked_of : Checked → laws.Checked
checked_of (Yes sequences pictures) = laws.Yes sequences pictures
checked_of (No number unit breach) =
    laws.No (record { number = number; unit = unit; breach = breach_of breach })

-- The answer is the check's where the stream is decoded whole, or the refusal; unless there is no
-- memory.
abbrev pub AnswersCheck : Result Checked CheckError → Result ℕ Refusal → laws.Checked → Type 0
AnswersCheck (Ok checked) verdict answer =
    (n : ℕ) × (verdict ≡ Ok n) × (checked_of checked ≡ answer)
AnswersCheck (Err (Refused refused)) verdict answer = answer_of verdict ≡ Err refused
AnswersCheck (Err NoMemory) verdict answer = Unit {0}

abbrev pub IsYes : Result Checked CheckError → Type 0
IsYes (Ok (Yes sequences pictures)) = Unit {0}
IsYes result = ⊥

-- The outputs of each sequence are exactly its pictures that are to be output, in strictly rising
-- order count.
abbrev pub AreAllInOrder : List Meaning → Type 0
AreAllInOrder us =
    (q : Sequence) → IsSequence us q
    → AreInOrder (pictures_for_output q) (outputs_of q (outputs us))

-- the error of a refusal for this cause
abbrev pub error_by : DecodeError → decoder.Refused → CheckError
error_by errors.NoMemory refused = NoMemory
error_by error refused = Refused refused
