-- What a reader of rows that name no set refuses names none either.
use Rattle.hevc_elements.specs.declared.parse_error.ParseError.{ParseError}
use Rattle.hevc_elements.specs.declared.parse_error.ParseError.TheVariants.{WrongNaluType}
use Rattle.hevc_elements.specs.declared.parse_error.ParseError.TheVariants.{OutOfBits, OutOfRange}
use Rattle.hevc_elements.specs.declared.parse_error.ParseError.TheVariants.{MissingSps, MissingPps}
use Rattle.hevc_elements.specs.declared.parse_error.ParseError.TheVariants.{NoMemory}
use Rattle.hevc_elements.specs.Scan.{Position, Scan}
use Rattle.hevc_elements.specs.Reads.{Refuses}
use Rattle.hevc_pps.specs.Answers.{NamesNoOtherSet}

pub names_none : {A : Type 0} (e : ParseError) (new : Position) (scan : Scan A) → Refuses e new scan → NamesNoOtherSet e
names_none WrongNaluType new scan h = tt
names_none OutOfBits new scan h = tt
names_none (OutOfRange table number) new scan h = tt
names_none (MissingSps id) new scan h = tt
names_none (MissingPps id) new scan h = absurd h
names_none NoMemory new scan h = absurd h

pub ruleset names = (names_none)
