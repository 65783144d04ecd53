-- Which sets an answer names.
use Rattle.hevc_elements.specs.declared.parse_error.ParseError.{ParseError}
use Rattle.hevc_elements.specs.declared.parse_error.ParseError.TheVariants.{MissingPps, NoMemory}

-- The answer names no other set than a sequence set, and no allocation fails.
abbrev pub NamesNoOtherSet : ParseError → Type 0
NamesNoOtherSet (MissingPps id) = ⊥
NamesNoOtherSet NoMemory = ⊥
NamesNoOtherSet e = Unit {0}
