-- What reading by a table answered whose record has lists of any length, and where it left the
-- reader. Memory may be wanted for the lists at any place: that answer is free.
use Rattle.std.specs.Prelude.{◌≡◌, Result, Ok, Err}
use Rattle.hevc_spec.specs.Payload.{IsAhead}
use Rattle.hevc_spec.specs.Table.{Table}
use Rattle.hevc_elements.specs.declared.parse_error.ParseError.{ParseError}
use Rattle.hevc_elements.specs.declared.parse_error.ParseError.TheVariants.{NoMemory}
use Rattle.hevc_elements.specs.Scan.{Position, left, Scan, gave, scanned}
use Rattle.hevc_elements.specs.Reads.{Refuses}

-- The error is the refusal of an element, and the reader is where it began;
-- or an allocation fails.
abbrev pub RefusesGrowing : {A : Type 0} → ParseError → Position → Scan A → Type 0
RefusesGrowing NoMemory new scan = Unit {0}
RefusesGrowing e new scan = Refuses e new scan

-- The result, seen by a view, is the value that reading gives,
-- and the reader is after its last bit.
abbrev pub AnswersGrowing : {X A : Type 0} → (X → A) → Result X ParseError → Position → Scan A
    → Type 0
AnswersGrowing view (Ok x) new scan = scan ≡ gave (view x) new.telling (left new)
AnswersGrowing view (Err e) new scan = RefusesGrowing e new scan

-- A table is read into what a view shows as its record.
pub record ReadsGrowing {X A : Type 0} (view : X → A) (table : Table A)
    (result : Result X ParseError) (old new : Position) : Type 0 where
  pub reads : AnswersGrowing view result new (scanned table old)
  pub moves : IsAhead old.place new.place

-- Part of a table is filled into a record, which a view shows as that of the table.
pub record FillsGrowing {X A Y : Type 0} (view : X → A) (part : A → Table A)
    (result : Result Y ParseError) (x y : X) (old new : Position) : Type 0 where
  pub reads : AnswersGrowing (λ _. view y) result new (scanned (part (view x)) old)
  pub moves : IsAhead old.place new.place
