-- An answer to decoding tells of the verdict.
use Rattle.std.proofs.Common.{◌≡◌, ℕ, Some, Result, Ok, Err, sym, ap, ◌∙◌}
use Rattle.std.specs.Prelude.{IfOk}
use Rattle.hevc_walk.specs.Refusals.{Refusal}
use Rattle.hevc_driver.specs.declared.decode_error.DecodeError.{DecodeError}
use Rattle.hevc_driver.specs.declared.decode_error.DecodeError.TheVariants as errors
use Rattle.hevc_driver.specs.Answers.{IsOfBackend, IsNotOfBackend}
use Rattle.hevc_decoder.specs.declared.decoded.Refused as decoded
use Rattle.hevc_decoder.specs.Answers.{without_unit}
use Rattle.hevc_decoder.specs.Headline.{AnswersError, AnswersVerdict}
use Rattle.hevc_decoder.specs.Names.{answer_of, refused_of}
use Rattle.hevc_bench.specs.declared.count.Count.{Count}
use Rattle.hevc_bench.specs.declared.count.Count.TheVariants.{Pictures, Refused}
use Rattle.hevc_bench.specs.Counts.{count_of_answer, count_of_pictures, count_of_refusal}

-- all pictures are counted
whole : (verdict : Result ℕ Refusal) (n : ℕ) → answer_of verdict ≡ Ok n → Pictures n ≡ count_of_pictures verdict
whole (Ok m) n answers = let same : m ≡ n = cc answers in ap (λ k. Pictures k) (sym same)
whole (Err refusal) n answers = absurd (cc answers)

-- the unit of the refusal is told
refused_at : (verdict : Result ℕ Refusal) (refused : decoded.Refused) → answer_of verdict ≡ Err refused
    → Refused refused.unit ≡ count_of_pictures verdict
refused_at (Ok m) refused answers = absurd (cc answers)
refused_at (Err refusal) refused answers =
    let same : refused_of refusal ≡ refused = cc answers in
    ap (λ (r : decoded.Refused). Refused r.unit) (sym same)

inside : (a b : Count) → Some a ≡ Some b → a ≡ b
inside a b e = cc e

-- a refusal that isn't of the backend, nor for a failed allocation, is that of the units
told : (verdict : Result ℕ Refusal) (unit : ℕ) (error : DecodeError) (count : Count)
    → AnswersError error (record { unit = unit; error = error }) verdict → ¬ IsOfBackend error
    → count_of_refusal error unit ≡ Some count → count ≡ count_of_pictures verdict
told verdict unit errors.NoNal count a b e = sym (inside _ _ e) ∙ refused_at verdict _ a
told verdict unit errors.TruncatedNalu count a b e = sym (inside _ _ e) ∙ refused_at verdict _ a
told verdict unit (errors.InvalidNaluType nal_unit_type) count a b e = sym (inside _ _ e) ∙ refused_at verdict _ a
told verdict unit errors.OutOfBits count a b e = sym (inside _ _ e) ∙ refused_at verdict _ a
told verdict unit (errors.OutOfRange table row) count a b e = sym (inside _ _ e) ∙ refused_at verdict _ a
told verdict unit (errors.MissingPps id) count a b e = sym (inside _ _ e) ∙ refused_at verdict _ a
told verdict unit errors.NoIndependentSlice count a b e = sym (inside _ _ e) ∙ refused_at verdict _ a
told verdict unit (errors.ChangedMidPicture accepted named) count a b e = sym (inside _ _ e) ∙ refused_at verdict _ a
told verdict unit errors.PocOutOfRange count a b e = sym (inside _ _ e) ∙ refused_at verdict _ a
told verdict unit errors.DpbFull count a b e = sym (inside _ _ e) ∙ refused_at verdict _ a
told verdict unit (errors.NotEnoughOutputBuffers frames) count a b e = absurd (b tt)
told verdict unit errors.CheckEvents count a b e = sym (inside _ _ e) ∙ refused_at verdict _ a
told verdict unit errors.PictureNumbersSpent count a b e = sym (inside _ _ e) ∙ refused_at verdict _ a
told verdict unit errors.Backend count a b e = absurd (b tt)
told verdict unit errors.NoMemory count a b e = absurd (cc e)

answered : (verdict : Result ℕ Refusal) (answer : Result ℕ decoded.Refused) (count : Count)
    → AnswersVerdict answer verdict → IsNotOfBackend (without_unit answer)
    → count_of_answer answer ≡ Some count → count ≡ count_of_pictures verdict
answered verdict (Ok n) count a b e = sym (inside _ _ e) ∙ whole verdict n a
answered verdict (Err refused) count a b e = told verdict refused.unit refused.error count a b e

-- the same of a count that may not be had
pub answered_if : {E : Type 0} (verdict : Result ℕ Refusal) (answer : Result ℕ decoded.Refused)
    (result : Result Count E) → AnswersVerdict answer verdict
    → IsNotOfBackend (without_unit answer) → IfOk result (λ found. count_of_answer answer ≡ Some found)
    → IfOk result (λ found. found ≡ count_of_pictures verdict)
answered_if verdict answer (Ok found) a b e = answered verdict answer found a b e
answered_if verdict answer (Err error) a b e = tt
