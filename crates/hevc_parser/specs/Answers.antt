-- Which sets an answer names.
use Rattle.hevc_elements.specs.declared.parse_error.ParseError.{ParseError}
use Rattle.hevc_elements.specs.declared.parse_error.ParseError.TheVariants.{MissingPps}

-- The answer names no picture set.
abbrev pub NamesNoPictureSet : ParseError → Type 0
NamesNoPictureSet (MissingPps id) = ⊥
NamesNoPictureSet e = Unit {0}
