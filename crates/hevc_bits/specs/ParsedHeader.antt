-- What the bytes of a unit parse to (7.3.1.2).
use Rattle.std.specs.Prelude.{ℕ, List, Result, Ok, Err}
use Rattle.hevc_spec.specs.UnitHeader.{UnitHeader, HeaderFault, truncated, unspecified_type}
use Rattle.hevc_spec.specs.UnitHeader.{temporal_id_zero, unit_header}
use Rattle.hevc_bits.specs.declared.header.UnitError.{UnitError}
use Rattle.hevc_bits.specs.declared.header.UnitError.TheVariants.{TruncatedNalu, InvalidNaluType}
use Rattle.hevc_bits.specs.declared.header.UnitError.TheVariants.{TemporalIdZero}

-- the error that tells of a fault
abbrev pub header_error : HeaderFault → UnitError
header_error truncated = TruncatedNalu
header_error (unspecified_type t) = InvalidNaluType t
header_error temporal_id_zero = TemporalIdZero

abbrev pub answer_of : Result UnitHeader HeaderFault → Result UnitHeader UnitError
answer_of (Ok header) = Ok header
answer_of (Err fault) = Err (header_error fault)

-- the header of a unit's bytes, or the error of its first fault
abbrev pub parsed_header : List ℕ → Result UnitHeader UnitError
parsed_header bytes = answer_of (unit_header bytes)
