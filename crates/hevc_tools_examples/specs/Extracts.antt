-- Answers of the extractor.
use Rattle.std.specs.Prelude.{ℕ, Result, Ok, Err, Option, Some}
use Rattle.hevc_bits.specs.declared.header.UnitError.{UnitError}
use Rattle.hevc_bits.specs.declared.header.UnitError.TheVariants.{TruncatedNalu}
use Rattle.hevc_extract.specs.declared.extraction.ExtractError.{ExtractError}
use Rattle.hevc_extract.specs.declared.extraction.ExtractError.TheVariants.{Refused}
use Rattle.hevc_extract.specs.declared.extraction.Kept.{Kept}

-- a unit is refused, as it has one byte
abbrev pub refuses : (unit : ℕ) → Result Kept ExtractError
refuses unit = Err (Refused unit TruncatedNalu)

abbrev pub keeps : (units dropped : ℕ) → Result Kept ExtractError
keeps units dropped = Ok (record { units = units; dropped = dropped })

abbrev pub refused_first : (unit : ℕ) → Option (ℕ × UnitError)
refused_first unit = Some (unit, TruncatedNalu)
