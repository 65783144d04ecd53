-- Why a set or a slice's header is refused.
use Rattle.hevc_elements.specs.declared.parse_error.ParseError.{ParseError}
use Rattle.hevc_elements.specs.declared.parse_error.ParseError.TheVariants as parse
use Rattle.hevc_driver.specs.declared.decode_error.DecodeError.{DecodeError}
use Rattle.hevc_driver.specs.declared.decode_error.DecodeError.TheVariants as errors

-- the unit has the type that is read, and names no sequence set
abbrev pub IsOfUnit : ParseError → Type 0
IsOfUnit parse.WrongNaluType = ⊥
IsOfUnit (parse.MissingSps id) = ⊥
IsOfUnit error = Unit {0}

abbrev pub refusal_of : ParseError → DecodeError
refusal_of parse.OutOfBits = errors.OutOfBits
refusal_of (parse.OutOfRange table row) = errors.OutOfRange table row
refusal_of (parse.MissingPps id) = errors.MissingPps id
refusal_of parse.NoMemory = errors.NoMemory
refusal_of other = errors.NoNal
