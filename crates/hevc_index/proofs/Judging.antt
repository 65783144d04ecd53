-- What a stream's verdict tells: no unit of one that isn't refused is refused by its header.
use Rattle.std.proofs.Common.{◌≡◌, ℕ, ◌+◌, List, [], ◌∷◌, length, refl, sym, subst, Option, Some, None, Result, Ok, Err}
use Rattle.std.specs.Prelude.{All, IsOk}
use Rattle.std.proofs.lemmas.List.Elements.{All-cons, All-nil}
use Rattle.hevc_spec.specs.UnitHeader.{UnitHeader, HeaderFault, unit_header}
use Rattle.hevc_spec.specs.Units.{NalUnit, units}
use Rattle.hevc_walk.specs.Meanings.{Meaning}
use Rattle.hevc_walk.specs.Pictures.{Stream, nothing_yet, pictures, with_unit}
use Rattle.hevc_walk.specs.Refusals.{Cause, Refusal, first_refusal, refusal, stop, stop_from}
use Rattle.hevc_walk.specs.Results.{full, full_or, stop_or, verdict}
use Rattle.hevc_stream.specs.Contents.{content, headed_content}
use Rattle.hevc_stream.specs.Kept.{Kept, none_kept}
use Rattle.hevc_stream.specs.Options.{Options, default_options}
use Rattle.hevc_stream.specs.Stream.{kept_behind, meaning, meaning_of, meanings, meanings_behind}
use Rattle.hevc_driver.specs.Answers.{IsOfBackend}
use Rattle.hevc_driver.specs.declared.decode_error.DecodeError.{DecodeError}
use Rattle.hevc_driver.specs.declared.decode_error.DecodeError.TheVariants as decode
use Rattle.hevc_decoder.specs.declared.decoded.Refused.{Refused}
use Rattle.hevc_decoder.specs.Headline.{AnswersError}
use Rattle.hevc_decoder.specs.Names.{answer_of}
use Rattle.hevc_decoder.specs.Promise.{Decodes, Told}
use Rattle.hevc_index.specs.declared.point.IndexError.TheVariants as errors
use Rattle.hevc_index.specs.Finding.{IsHeaded}
use Rattle.hevc_index.specs.Indexing.{ending, error_for, JudgesError}

not_stopped : (us : List Meaning) → IsOk (answer_of (verdict us)) → stop us ≡ None
not_stopped us ok = by_both (full us) (stop us) ok
  where
    by_both : (f : Option ℕ) (s : Option Refusal)
        → IsOk (answer_of (full_or f (stop_or s (Ok (length (pictures us)))))) → s ≡ None
    by_both (Some k) s ok = absurd (cc ok)
    by_both None (Some r) ok = absurd (cc ok)
    by_both None None ok = refl

headed_unit : (o : Options) (kept : Kept) (v : Stream) (u : NalUnit) → refusal v (meaning o kept u.bytes) ≡ None
    → IsHeaded u
unfolding meaning content
headed_unit o kept v u none = by_result (unit_header u.bytes) refl none
  where
    by_result : (r : Result UnitHeader HeaderFault) → unit_header u.bytes ≡ r
        → refusal v (meaning_of o kept u.bytes (headed_content o kept u.bytes r)) ≡ None → IsHeaded u
    by_result (Ok h) e none = (h, e)
    by_result (Err fault) e none = absurd (cc none)

headed_from : (o : Options) (k : ℕ) (kept : Kept) (v : Stream) (us : List NalUnit)
    → stop_from k v (meanings_behind o kept us) ≡ None → All IsHeaded us
headed_from o k kept v [] none = All-nil IsHeaded
headed_from o k kept v (u ∷ us) none =
    by_refusal (refusal v m) refl (headed_from o (k + 1) (kept_behind o kept u.bytes) (with_unit k m v) us) none
  where
    m : Meaning
    m = meaning o kept u.bytes

    later : Option Refusal
    later = stop_from (k + 1) (with_unit k m v) (meanings_behind o (kept_behind o kept u.bytes) us)

    by_refusal : (r : Option Cause) → refusal v m ≡ r → (later ≡ None → All IsHeaded us)
        → first_refusal k r later ≡ None → All IsHeaded (u ∷ us)
    by_refusal None e more none = All-cons IsHeaded u us (headed_unit o kept v u e) (more none)
    by_refusal (Some cause) e more none = absurd (cc none)

pub all_headed : (stream : List ℕ) → IsOk (ending stream) → All IsHeaded (units stream)
all_headed stream ok =
    headed_from default_options 0 none_kept nothing_yet (units stream)
    (not_stopped (meanings default_options stream) ok)

-- ---- how decoding ends, over a backend that never fails

judged_error : (e : DecodeError) (r : Refused) (v : Result ℕ Refusal) → AnswersError e r v → ¬ IsOfBackend e
    → JudgesError (error_for e r) (answer_of v)
judged_error decode.NoNal r v a n = a
judged_error decode.TruncatedNalu r v a n = a
judged_error (decode.InvalidNaluType t) r v a n = a
judged_error decode.OutOfBits r v a n = a
judged_error (decode.OutOfRange table row) r v a n = a
judged_error (decode.MissingPps id) r v a n = a
judged_error decode.NoIndependentSlice r v a n = a
judged_error (decode.ChangedMidPicture accepted named) r v a n = a
judged_error decode.PocOutOfRange r v a n = a
judged_error decode.DpbFull r v a n = a
judged_error (decode.NotEnoughOutputBuffers frames) r v a n = absurd (n tt)
judged_error decode.CheckEvents r v a n = a
judged_error decode.PictureNumbersSpent r v a n = a
judged_error decode.Backend r v a n = absurd (n tt)
judged_error decode.NoMemory r v a n = tt

pub judged_refused : {H : Type 0} (stream : List ℕ) (before now : Told H) (r : Refused)
    → Decodes default_options stream before now (Err r) → before.is_faultless
    → JudgesError (error_for r.error r) (ending stream)
judged_refused stream before now r d faultless =
    judged_error r.error r (verdict (meanings default_options stream)) d.answer (d.honest.faultless faultless).1

pub judged_ok : {H : Type 0} (stream : List ℕ) (before now : Told H) (n : ℕ)
    → Decodes default_options stream before now (Ok n) → IsOk (ending stream)
judged_ok stream before now n d = subst IsOk (sym d.answer) refl

-- never for lack of a point
pub isnt_number : (e : DecodeError) (r : Refused) → ¬ (error_for e r ≡ errors.NoSuchPoint)
isnt_number decode.NoMemory r is = cc is
isnt_number e r is = cc is
