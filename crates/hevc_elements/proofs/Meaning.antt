-- From what reading gives to what the lines say, in both directions.
use Rattle.std.proofs.Common.{Bool, List, Result, Ok, Err, subst}
use Rattle.std.specs.Prelude.{IfOk, IfErr}
use Rattle.hevc_spec.specs.Payload.{IsAhead}
use Rattle.hevc_spec.proofs.PlaceLaws.{is_reached}
use Rattle.hevc_spec.specs.Table.{Table, Fault, Reading, read, gives, refuses, out_of_bits, out_of_range, not_kept}
use Rattle.hevc_spec.specs.Rows.{row}
use Rattle.hevc_spec.specs.Lines.{Spells, BreaksOff}
use Rattle.hevc_reading_laws.proofs.TableLaws.{spelled_from_read, read_from_spelled}
use Rattle.hevc_reading_laws.proofs.TableLaws.{breaks_from_refused, refused_from_breaks}
use Rattle.hevc_elements.specs.declared.parse_error.ParseError.{ParseError}
use Rattle.hevc_elements.specs.declared.parse_error.ParseError.TheVariants.{WrongNaluType}
use Rattle.hevc_elements.specs.declared.parse_error.ParseError.TheVariants.{OutOfBits, OutOfRange}
use Rattle.hevc_elements.specs.declared.parse_error.ParseError.TheVariants.{MissingSps, MissingPps}
use Rattle.hevc_elements.specs.declared.parse_error.ParseError.TheVariants.{NoMemory}
use Rattle.hevc_elements.specs.Scan.{Position, left, scanned}
use Rattle.hevc_elements.specs.Reads.{IsAnswer, Answers, FailsAt, ReadsTable}
use Rattle.hevc_elements.proofs.ScanLaws.{answer_is_read, naming_is_read}
use Rattle.hevc_elements.specs.Naming.{IsAnswerNaming, AnswersNaming, FailsNaming}
use Rattle.hevc_elements.specs.Naming.{names_sequence_set, names_picture_set}

module _ {X A : Type 0} (view : X → A) (t : Table A) (old new : Position) where
  -- what is read is spelled
  is_found-read : (r : Result X ParseError) → IsAnswer view r new (read t (left old))
      → IfOk r (λ x. Spells t (view x) (left old) (left new))
  is_found-read (Ok x) h = spelled_from_read t (left old) (view x) (left new) h
  is_found-read (Err e) h = tt

  -- a refusal is a line that breaks
  is_refused-read : (r : Result X ParseError) → IsAnswer view r new (read t (left old))
      → IfErr r (λ e. FailsAt e t (left old) new)
  is_refused-read (Ok x) h = tt
  is_refused-read (Err WrongNaluType) h = absurd h
  is_refused-read (Err OutOfBits) h = breaks_from_refused t (left old) out_of_bits (left new) h
  is_refused-read (Err (OutOfRange table number)) h =
      breaks_from_refused t (left old) (out_of_range (row table number)) (left new) h
  is_refused-read (Err (MissingSps id)) h = absurd h
  is_refused-read (Err (MissingPps id)) h = absurd h
  is_refused-read (Err NoMemory) h = absurd h

  -- what is spelled is read
  is_only-read : (r : Result X ParseError) → IsAnswer view r new (read t (left old))
      → (x : A) (rest : List Bool) → Spells t x (left old) rest → IsAnswer view r new (gives x rest)
  is_only-read r h x rest s =
      subst (λ (m : Reading A). IsAnswer view r new m) (read_from_spelled t (left old) x rest s) h

  -- where the next line breaks, the table is refused
  is_broken-read : (r : Result X ParseError) → IsAnswer view r new (read t (left old))
      → (f : Fault) (rest : List Bool) → BreaksOff t f (left old) rest → IsAnswer view r new (refuses f rest)
  is_broken-read r h f rest s =
      subst (λ (m : Reading A). IsAnswer view r new m) (refused_from_breaks t (left old) f rest s) h

  -- the same where elements may name sets
  found_naming-read : (r : Result X ParseError) → IsAnswerNaming view r new (read t (left old))
      → IfOk r (λ x. Spells t (view x) (left old) (left new))
  found_naming-read (Ok x) h = spelled_from_read t (left old) (view x) (left new) h
  found_naming-read (Err e) h = tt

  refused_naming-read : (r : Result X ParseError) → IsAnswerNaming view r new (read t (left old))
      → IfErr r (λ e. FailsNaming e t (left old) new)
  refused_naming-read (Ok x) h = tt
  refused_naming-read (Err WrongNaluType) h = absurd h
  refused_naming-read (Err OutOfBits) h = breaks_from_refused t (left old) out_of_bits (left new) h
  refused_naming-read (Err (OutOfRange table number)) h =
      breaks_from_refused t (left old) (out_of_range (row table number)) (left new) h
  refused_naming-read (Err (MissingSps id)) h =
      breaks_from_refused t (left old) (not_kept names_sequence_set id) (left new) h
  refused_naming-read (Err (MissingPps id)) h =
      breaks_from_refused t (left old) (not_kept names_picture_set id) (left new) h
  refused_naming-read (Err NoMemory) h = absurd h

  only_naming-read : (r : Result X ParseError) → IsAnswerNaming view r new (read t (left old))
      → (x : A) (rest : List Bool) → Spells t x (left old) rest → IsAnswerNaming view r new (gives x rest)
  only_naming-read r h x rest s =
      subst (λ (m : Reading A). IsAnswerNaming view r new m) (read_from_spelled t (left old) x rest s) h

  broken_naming-read : (r : Result X ParseError) → IsAnswerNaming view r new (read t (left old))
      → (f : Fault) (rest : List Bool) → BreaksOff t f (left old) rest → IsAnswerNaming view r new (refuses f rest)
  broken_naming-read r h f rest s =
      subst (λ (m : Reading A). IsAnswerNaming view r new m) (refused_from_breaks t (left old) f rest s) h

  -- ---- and the same of scans

  plain : (r : Result X ParseError) → Answers view r new (scanned t old) → IsAnswer view r new (read t (left old))
  plain r h = answer_is_read view new t old.telling (left old) r h

  naming : (r : Result X ParseError) → AnswersNaming view r new (scanned t old)
      → IsAnswerNaming view r new (read t (left old))
  naming r h = naming_is_read view new t old.telling (left old) r h

  pub is_found : (r : Result X ParseError) → Answers view r new (scanned t old)
      → IfOk r (λ x. Spells t (view x) (left old) (left new))
  is_found r h = is_found-read r (plain r h)

  pub is_refused : (r : Result X ParseError) → Answers view r new (scanned t old)
      → IfErr r (λ e. FailsAt e t (left old) new)
  is_refused r h = is_refused-read r (plain r h)

  pub is_only : (r : Result X ParseError) → Answers view r new (scanned t old) → (x : A) (rest : List Bool)
      → Spells t x (left old) rest → IsAnswer view r new (gives x rest)
  is_only r h = is_only-read r (plain r h)

  pub is_broken : (r : Result X ParseError) → Answers view r new (scanned t old)
      → (f : Fault) (rest : List Bool) → BreaksOff t f (left old) rest → IsAnswer view r new (refuses f rest)
  is_broken r h = is_broken-read r (plain r h)

  pub found_naming : (r : Result X ParseError) → AnswersNaming view r new (scanned t old)
      → IfOk r (λ x. Spells t (view x) (left old) (left new))
  found_naming r h = found_naming-read r (naming r h)

  pub refused_naming : (r : Result X ParseError) → AnswersNaming view r new (scanned t old)
      → IfErr r (λ e. FailsNaming e t (left old) new)
  refused_naming r h = refused_naming-read r (naming r h)

  pub only_naming : (r : Result X ParseError) → AnswersNaming view r new (scanned t old)
      → (x : A) (rest : List Bool) → Spells t x (left old) rest → IsAnswerNaming view r new (gives x rest)
  only_naming r h = only_naming-read r (naming r h)

  pub broken_naming : (r : Result X ParseError) → AnswersNaming view r new (scanned t old)
      → (f : Fault) (rest : List Bool) → BreaksOff t f (left old) rest → IsAnswerNaming view r new (refuses f rest)
  broken_naming r h = broken_naming-read r (naming r h)

-- what a public reader says follows from how it reads
pub reads_table : {X A : Type 0} (view : X → A) (t : Table A) (old new : Position)
    (r : Result X ParseError) → Answers view r new (scanned t old) → IsAhead old.place new.place
    → ReadsTable view t r old new
reads_table view t old new r reads moves = record {
  reads = reads;
  moves = moves;
  means = record {
    found = is_found view t old new r reads;
    only = is_only view t old new r reads;
    refused = is_refused view t old new r reads;
    broken = is_broken view t old new r reads;
  };
  place = is_reached old.place new.place moves;
}

-- what the clause `rows` of a public reader follows from
pub ruleset meanings = (reads_table)

pub ruleset meanings_naming = (found_naming, only_naming, refused_naming, broken_naming)
