-- From what a reader of a whole set answered to what the lines of its payload say, in both directions.
use Rattle.std.proofs.Common.{◌≡◌, Bool, List, Result, Ok, Err, subst}
use Rattle.std.specs.Prelude.{IfOk, IfErr}
use Rattle.hevc_spec.specs.Table.{Table, Fault, Reading, read, gives, refuses, out_of_bits, out_of_range, not_kept}
use Rattle.hevc_spec.specs.Rows.{row}
use Rattle.hevc_spec.specs.Lines.{Spells, BreaksOff}
use Rattle.hevc_reading_laws.proofs.TableLaws.{spelled_from_read, read_from_spelled}
use Rattle.hevc_reading_laws.proofs.TableLaws.{breaks_from_refused, refused_from_breaks}
use Rattle.hevc_elements.specs.declared.parse_error.ParseError.{ParseError}
use Rattle.hevc_elements.specs.declared.parse_error.ParseError.TheVariants.{WrongNaluType}
use Rattle.hevc_elements.specs.declared.parse_error.ParseError.TheVariants.{OutOfBits, OutOfRange}
use Rattle.hevc_elements.specs.declared.parse_error.ParseError.TheVariants.{MissingSps, MissingPps}
use Rattle.hevc_elements.specs.declared.parse_error.ParseError.TheVariants.{NoMemory}
use Rattle.hevc_elements.specs.Telling.{Telling}
use Rattle.hevc_elements.specs.Scan.{Position, left, gave, refused, scan}
use Rattle.hevc_elements.specs.Growing.{AnswersGrowing}
use Rattle.hevc_elements.specs.Naming.{AnswersNaming, names_sequence_set, names_picture_set}
use Rattle.hevc_elements.specs.Sets.{IsRefused, ReadsSet, BreaksSet, NamesNoSet}
use Rattle.hevc_elements.proofs.ScanLaws.{gave_is_read, refused_is_read}

-- what a reader of rows answered, a reader of the set did
module _ {X A : Type 0} (view : X → A) (new : Position) (table : Table A) (t : Telling) (bits : List Bool) where
  given : (x : A) → scan table t bits ≡ gave x new.telling (left new) → read table bits ≡ gives x (left new)
  given x h = gave_is_read table t new.telling bits (left new) x h

  refusing : (fault : Fault) → scan table t bits ≡ refused fault new.telling (left new)
      → IsRefused fault (read table bits)
  refusing fault h = (left new, refused_is_read table t new.telling bits (left new) fault h)

  pub set_from_growing : (r : Result X ParseError) → AnswersGrowing view r new (scan table t bits)
      → ReadsSet view r (read table bits)
  set_from_growing (Ok x) h = (left new, given (view x) h)
  set_from_growing (Err WrongNaluType) h = absurd h
  set_from_growing (Err OutOfBits) h = refusing out_of_bits h
  set_from_growing (Err (OutOfRange number r)) h = refusing (out_of_range (row number r)) h
  set_from_growing (Err (MissingSps id)) h = absurd h
  set_from_growing (Err (MissingPps id)) h = absurd h
  set_from_growing (Err NoMemory) h = tt

  pub no_set_from_growing : (r : Result X ParseError) → AnswersGrowing view r new (scan table t bits)
      → IfErr r NamesNoSet
  no_set_from_growing (Ok x) h = tt
  no_set_from_growing (Err WrongNaluType) h = tt
  no_set_from_growing (Err OutOfBits) h = tt
  no_set_from_growing (Err (OutOfRange number r)) h = tt
  no_set_from_growing (Err (MissingSps id)) h = absurd h
  no_set_from_growing (Err (MissingPps id)) h = absurd h
  no_set_from_growing (Err NoMemory) h = tt

  pub set_from_naming : (r : Result X ParseError) → AnswersNaming view r new (scan table t bits)
      → ReadsSet view r (read table bits)
  set_from_naming (Ok x) h = (left new, given (view x) h)
  set_from_naming (Err WrongNaluType) h = absurd h
  set_from_naming (Err OutOfBits) h = refusing out_of_bits h
  set_from_naming (Err (OutOfRange number r)) h = refusing (out_of_range (row number r)) h
  set_from_naming (Err (MissingSps id)) h = refusing (not_kept names_sequence_set id) h
  set_from_naming (Err (MissingPps id)) h = refusing (not_kept names_picture_set id) h
  set_from_naming (Err NoMemory) h = absurd h

module _ {X A : Type 0} (view : X → A) (t : Table A) (payload : List Bool) where
  pub set_found : (r : Result X ParseError) → ReadsSet view r (read t payload)
      → IfOk r (λ x. (rest : List Bool) × Spells t (view x) payload rest)
  set_found (Ok x) h = (h.0, spelled_from_read t payload (view x) h.0 h.1)
  set_found (Err e) h = tt

  pub set_refused : (r : Result X ParseError) → ReadsSet view r (read t payload) → IfErr r (λ e. BreaksSet e t payload)
  set_refused (Ok x) h = tt
  set_refused (Err WrongNaluType) h = absurd h
  set_refused (Err OutOfBits) h = (h.0, breaks_from_refused t payload out_of_bits h.0 h.1)
  set_refused (Err (OutOfRange table number)) h =
      (h.0, breaks_from_refused t payload (out_of_range (row table number)) h.0 h.1)
  set_refused (Err (MissingSps id)) h = (h.0, breaks_from_refused t payload (not_kept names_sequence_set id) h.0 h.1)
  set_refused (Err (MissingPps id)) h = (h.0, breaks_from_refused t payload (not_kept names_picture_set id) h.0 h.1)
  set_refused (Err NoMemory) h = tt

  pub set_only : (r : Result X ParseError) → ReadsSet view r (read t payload) → (x : A) (rest : List Bool)
      → Spells t x payload rest → ReadsSet view r (gives x rest)
  set_only r h x rest s = subst (λ (m : Reading A). ReadsSet view r m) (read_from_spelled t payload x rest s) h

  pub set_broken : (r : Result X ParseError) → ReadsSet view r (read t payload)
      → (f : Fault) (rest : List Bool) → BreaksOff t f payload rest → ReadsSet view r (refuses f rest)
  set_broken r h f rest s = subst (λ (m : Reading A). ReadsSet view r m) (refused_from_breaks t payload f rest s) h

-- what the clauses of a reader of a whole set follow from
pub ruleset sets_from_growing = (set_from_growing, no_set_from_growing)

pub ruleset sets_from_naming = (set_from_naming)

pub ruleset set_meanings = (set_found, set_only, set_refused, set_broken)
