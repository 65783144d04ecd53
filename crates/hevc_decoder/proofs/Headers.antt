-- A unit whose header is refused.
use Rattle.std.proofs.Common.{◌≡◌, ℕ, List, ◌∷◌, refl, sym, ap, subst, Result, Ok, Err}
use Rattle.hevc_spec.specs.Units.{NalUnit}
use Rattle.hevc_spec.specs.UnitHeader as headers
use Rattle.hevc_spec.specs.UnitHeader.{UnitHeader, HeaderFault, unit_header}
use Rattle.hevc_walk.specs.Meanings.{Meaning, Refused}
use Rattle.hevc_walk.specs.Walk.{at_unit}
use Rattle.hevc_walk.specs.Refusals.{UnitRefused}
use Rattle.hevc_walk_units.specs.Units.{Standing, unit_part, refusal_at, is_full_at}
use Rattle.hevc_stream.specs.Kept.{Kept}
use Rattle.hevc_stream.specs.Options.{Options}
use Rattle.hevc_stream.specs.Contents.{header_cause, content}
use Rattle.hevc_stream.specs.Stream.{meaning}
use Rattle.hevc_bits.specs.declared.header.UnitError.{UnitError}
use Rattle.hevc_bits.specs.declared.header.UnitError.TheVariants.{NoNal, TruncatedNalu, InvalidNaluType, TemporalIdZero}
use Rattle.hevc_bits.specs.ParsedHeader.{header_error, answer_of, parsed_header}
use Rattle.hevc_backend.specs.Trait.{Counts}
use Rattle.hevc_driver.specs.Answers.{CountsError, IsOfBackend}
use Rattle.hevc_driver.specs.Errors.{unit_error, cause_error}
use Rattle.hevc_stateless_laws.specs.Stands.{meant, standing_after, kept_after}
use Rattle.hevc_driver.specs.Given.{Given}
use Rattle.hevc_stateless_laws.specs.Segments.{given_of, read_units_of}
use Rattle.hevc_decoder.specs.Scenes.{Scene, Trail, trail_of}
use Rattle.hevc_decoder.specs.Takes.{DoesAll, RefusesUnit, TakesUnit}
use Rattle.hevc_decoder.specs.Runs.{Reached, Ended}
use Rattle.hevc_decoder.proofs.Doing.{does_all_nothing}
use Rattle.hevc_decoder.proofs.Running.{ended_refused}

pub header_is : (r : Result UnitHeader HeaderFault) (h : UnitHeader) → answer_of r ≡ Ok h → r ≡ Ok h
header_is (Ok x) h is = let same : x ≡ h = cc is in ap Ok same
header_is (Err fault) h is = absurd (cc is)

pub counts_none : (e : UnitError) (before now : Counts) → now ≡ before → CountsError before now (unit_error e)
counts_none NoNal before now same = same
counts_none TruncatedNalu before now same = same
counts_none (InvalidNaluType n) before now same = same
counts_none TemporalIdZero before now same = same

pub blames_none : (e : UnitError) → ¬ IsOfBackend (unit_error e)
blames_none NoNal b = b
blames_none TruncatedNalu b = b
blames_none (InvalidNaluType n) b = b
blames_none TemporalIdZero b = b

module _ {H : Type 0} (at : ℕ → Given) (o : Options) (kept : Kept) (bytes : List ℕ) (k : ℕ) (t : Trail H)
    (s : Standing) where
  refuses : (fault : HeaderFault) → unit_header bytes ≡ Err fault
      → RefusesUnit at (cause_error (header_cause fault)) k t t (meaning o kept bytes) s
  unfolding meaning content
  refuses fault parsed =
      let means : meaning o kept bytes ≡ Refused (header_cause fault) = rw parsed refl in
      record {
        room = ap (λ (m : Meaning). is_full_at m s) means;
        cause = UnitRefused (header_cause fault);
        refused = ap (λ (m : Meaning). refusal_at m s) means;
        named = refl;
        does = subst (λ (m : Meaning). DoesAll at t t (at_unit k (unit_part m s).events)) (sym means)
            (does_all_nothing at t t refl);
      }

  taken_by : (fault : HeaderFault) → unit_header bytes ≡ Err fault
      → TakesUnit {T = Unit {0}} at (Err (unit_error (header_error fault))) k t t (meaning o kept bytes) s
  taken_by headers.truncated parsed = refuses headers.truncated parsed
  taken_by (headers.unspecified_type n) parsed = refuses (headers.unspecified_type n) parsed
  taken_by headers.temporal_id_zero parsed = refuses headers.temporal_id_zero parsed

  header_taken : (e : UnitError) (r : Result UnitHeader HeaderFault) → unit_header bytes ≡ r
      → answer_of r ≡ Err e → TakesUnit {T = Unit {0}} at (Err (unit_error e)) k t t (meaning o kept bytes) s
  header_taken e (Ok h) parsed is = absurd (cc is)
  header_taken e (Err fault) parsed is =
      let told : header_error fault ≡ e = cc is in
      subst (λ (x : UnitError). TakesUnit {T = Unit {0}} at (Err (unit_error x)) k t t
      (meaning o kept bytes) s) told (taken_by fault parsed)

pub header_ended : {B H : Type 0} (o : Options) (all later others : List NalUnit) (u : NalUnit) (k : ℕ)
    (old mid : Scene B H) (e : UnitError) → Reached o all k old mid later → later ≡ u ∷ others
    → parsed_header u.bytes ≡ Err e
    → Ended (Err (record { unit = k; error = unit_error e })) (meant o all) (read_units_of o all)
    (trail_of old) (trail_of mid)
header_ended o all later others u k old mid e x is refused =
    let at : Reached o all k old mid (u ∷ others) = subst (λ (us : List NalUnit). Reached o all k old mid us) is x in
    ended_refused o all k old mid u others at (Unit {0}) (unit_error e) (trail_of mid)
    (header_taken (given_of (meant o all) (read_units_of o all)) o (kept_after o at.front) u.bytes k
    (trail_of mid) (standing_after (meant o at.front)) e (unit_header u.bytes) refl refused)
