-- The answers of a check.
use Rattle.std.proofs.Common.{◌≡◌, ℕ, List, sym, ap, subst, Result, Ok, Err}
use Rattle.hevc_walk.specs.Meanings.{Meaning}
use Rattle.hevc_walk.specs.Refusals.{Refusal}
use Rattle.hevc_walk.specs.Results.{outputs, verdict}
use Rattle.hevc_walk_order.specs.Sequences.{Sequence, IsSequence, pictures_for_output, outputs_of}
use Rattle.hevc_walk_order.specs.DisplayOrder.{AreInOrder}
use Rattle.hevc_check_laws.specs.Checks as laws
use Rattle.hevc_walk_order.proofs.Bounds.{order-by_bounds}
use Rattle.hevc_walk_order.proofs.Law.{law_of_verdict}
use Rattle.hevc_check_laws.proofs.Bounds.{bounds-kept_by}
use Rattle.hevc_check_laws.proofs.Order.{order-kept_by}
use Rattle.hevc_stream.specs.Options.{Options}
use Rattle.hevc_stream.specs.Stream.{meanings}
use Rattle.hevc_driver.specs.declared.decode_error.DecodeError.{DecodeError}
use Rattle.hevc_driver.specs.declared.decode_error.DecodeError.TheVariants as errors
use Rattle.hevc_driver.specs.Answers.{IsOfBackend, IsNotOfBackend}
use Rattle.hevc_decoder.specs.declared.decoded.Refused.{Refused}
use Rattle.hevc_decoder.specs.Answers.{without_unit}
use Rattle.hevc_decoder.specs.Headline.{AnswersError, AnswersVerdict}
use Rattle.hevc_decoder.specs.Names.{answer_of}
use Rattle.hevc_decoder.specs.Promise.{Decodes, Told}
use Rattle.hevc_check.specs.declared.check.Checked.{Checked}
use Rattle.hevc_check.specs.declared.check.Checked.TheVariants.{Yes, No}
use Rattle.hevc_check.specs.declared.table.Table.{Table}
use Rattle.hevc_check.specs.declared.table.Table.TheVariants.{Bounds, Order}
use Rattle.hevc_check.specs.Tables.{checked_by}
use Rattle.hevc_check.specs.Answers.{checked_of, error_by, AnswersCheck, IsYes}

pub ok_verdict : (v : Result ℕ Refusal) (n : ℕ) → answer_of v ≡ Ok n → v ≡ Ok n
ok_verdict (Ok m) n is = let same : m ≡ n = cc is in ap Ok same
ok_verdict (Err refusal) n is = absurd (cc is)

answers_error : (e : DecodeError) (r : Refused) (v : Result ℕ Refusal) (a : laws.Checked) → AnswersError e r v
    → ¬ IsOfBackend e → AnswersCheck (Err (error_by e r)) v a
answers_error errors.NoMemory r v a h none = tt
answers_error errors.Backend r v a h none = absurd (none tt)
answers_error (errors.NotEnoughOutputBuffers frames) r v a h none = absurd (none tt)
answers_error errors.NoNal r v a h none = h
answers_error errors.TruncatedNalu r v a h none = h
answers_error (errors.InvalidNaluType number) r v a h none = h
answers_error errors.OutOfBits r v a h none = h
answers_error (errors.OutOfRange table row) r v a h none = h
answers_error (errors.MissingPps id) r v a h none = h
answers_error errors.NoIndependentSlice r v a h none = h
answers_error (errors.ChangedMidPicture accepted named) r v a h none = h
answers_error errors.PocOutOfRange r v a h none = h
answers_error errors.DpbFull r v a h none = h
answers_error errors.CheckEvents r v a h none = h
answers_error errors.PictureNumbersSpent r v a h none = h

-- a stream that isn't decoded whole, over a backend that never fails
pub refused_answer : {H : Type 0} (o : Options) (bytes : List ℕ) (before now : Told H) (r : Result ℕ Refused)
    (refused : Refused) (a : laws.Checked) → Decodes o bytes before now r → before.is_faultless → r ≡ Err refused
    → AnswersCheck (Err (error_by refused.error refused)) (verdict (meanings o bytes)) a
refused_answer o bytes before now r refused a d faultless is =
    answers_error refused.error refused (verdict (meanings o bytes)) a
    (subst (λ (x : Result ℕ Refused). AnswersVerdict x (verdict (meanings o bytes))) is d.answer)
    (subst (λ (x : Result ℕ Refused). IsNotOfBackend (without_unit x)) is (d.honest.faultless faultless).1)

pub whole_verdict : {H : Type 0} (o : Options) (bytes : List ℕ) (before now : Told H) (r : Result ℕ Refused) (n : ℕ)
    → Decodes o bytes before now r → r ≡ Ok n → verdict (meanings o bytes) ≡ Ok n
whole_verdict o bytes before now r n d is =
    ok_verdict (verdict (meanings o bytes)) n
    (subst (λ (x : Result ℕ Refused). AnswersVerdict x (verdict (meanings o bytes))) is d.answer)

-- what a stream that breaks nothing outputs
pub in_order : (t : Table) (us : List Meaning) (k : ℕ) (checked : Checked) → verdict us ≡ Ok k
    → checked_of checked ≡ checked_by t us → IsYes (Ok checked) → (q : Sequence) → IsSequence us q
    → AreInOrder (pictures_for_output q) (outputs_of q (outputs us))
in_order Order us k (Yes sequences pictures) whole is passed q at =
    law_of_verdict us k whole q at (order-kept_by us sequences pictures (sym is) q at)
in_order Bounds us k (Yes sequences pictures) whole is passed q at =
    law_of_verdict us k whole q at (order-by_bounds us q (bounds-kept_by us sequences pictures (sym is) q at))
in_order t us k (No number unit breach) whole is passed q at = absurd passed
