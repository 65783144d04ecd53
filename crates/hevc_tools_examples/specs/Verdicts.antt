-- Answers on a stream that is refused at a unit, and on one that isn't.
use Rattle.std.specs.Prelude.{ℕ, Result, Ok, Err}
use Rattle.hevc_walk.specs.Meanings.{TruncatedNalu}
use Rattle.hevc_walk.specs.Refusals.{Refusal, UnitRefused}
use Rattle.hevc_driver.specs.declared.decode_error.DecodeError.TheVariants as errors
use Rattle.hevc_decoder.specs.declared.decoded.Refused.{Refused}
use Rattle.hevc_check.specs.declared.check.Checked.{Checked}
use Rattle.hevc_check.specs.declared.check.Checked.TheVariants as checks
use Rattle.hevc_check.specs.declared.check.CheckError.{CheckError}
use Rattle.hevc_check.specs.declared.check.CheckError.TheVariants as check_errors
use Rattle.hevc_index.specs.declared.point.IndexError.{IndexError}
use Rattle.hevc_index.specs.declared.point.IndexError.TheVariants as index_errors

-- a unit has one byte: the verdict, and how decoding answers it
abbrev pub verdict_at : (unit : ℕ) → Result ℕ Refusal
verdict_at unit = Err (record { unit = unit; cause = UnitRefused TruncatedNalu })

abbrev pub refused_at : (unit : ℕ) → Refused
refused_at unit = record { unit = unit; error = errors.TruncatedNalu }

abbrev pub ending_at : (unit : ℕ) → Result ℕ Refused
ending_at unit = Err (refused_at unit)

-- of a check
abbrev pub checked : (sequences pictures : ℕ) → Result Checked CheckError
checked sequences pictures = Ok (checks.Yes sequences pictures)

abbrev pub not_checked : (unit : ℕ) → Result Checked CheckError
not_checked unit = Err (check_errors.Refused (refused_at unit))

-- of the points of a stream
abbrev pub listed : Result ℕ IndexError
listed = Ok 2

abbrev pub not_listed : (unit : ℕ) → Result ℕ IndexError
not_listed unit = Err (index_errors.Refused (refused_at unit))

abbrev pub no_point : Result ℕ IndexError
no_point = Err index_errors.NoSuchPoint
