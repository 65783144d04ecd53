-- What a payload means by a table (7.3): one record, or one line at which it breaks off.
use Rattle.std.specs.Prelude.{◌≡◌, Bool, List, ◌++◌, ◌⊎◌}
use Rattle.hevc_spec.specs.Table.{Table, Fault}
use Rattle.hevc_spec.specs.Lines.{Line, AreGood, joined, HasLines, Spells, BreaksOff}

-- some beginning of the payload spells the lines of a record
pub record SpellsOne {A : Type 0} (t : Table A) (payload : List Bool) : Type 0 where
  pub value : A
  pub rest : List Bool
  pub spells : Spells t value payload rest

-- some beginning of the payload spells first lines, and the next one breaks
pub record BreaksSomewhere {A : Type 0} (t : Table A) (payload : List Bool) : Type 0 where
  pub fault : Fault
  pub rest : List Bool
  pub breaks : BreaksOff t fault payload rest

-- Every payload spells a record, or breaks off.
unfoldable pub IsDecided : {A : Type 0} → Table A → Type 0
IsDecided t = (payload : List Bool) → SpellsOne t payload ⊎ BreaksSomewhere t payload

-- A payload spells one record at most, with one rest.
unfoldable pub HasOneRecord : {A : Type 0} → Table A → Type 0
HasOneRecord {A = A} t =
    (x y : A) (payload rest other_rest : List Bool)
    → Spells t x payload rest
    → Spells t y payload other_rest
    → (x ≡ y) × (rest ≡ other_rest)

-- A payload breaks off at one place at most, for one reason.
unfoldable pub BreaksOnce : {A : Type 0} → Table A → Type 0
BreaksOnce t =
    (fault other_fault : Fault) (payload rest other_rest : List Bool)
    → BreaksOff t fault payload rest
    → BreaksOff t other_fault payload other_rest
    → (fault ≡ other_fault) × (rest ≡ other_rest)

-- A payload that spells a record doesn't break off.
unfoldable pub ExcludesBreaks : {A : Type 0} → Table A → Type 0
ExcludesBreaks {A = A} t =
    (x : A) (fault : Fault) (payload rest other_rest : List Bool)
    → Spells t x payload rest
    → BreaksOff t fault payload other_rest
    → ⊥

-- Two lists of lines of the table that beginnings of one payload spell are the same, line by line.
unfoldable pub LinesAgree : {A : Type 0} → Table A → Type 0
LinesAgree {A = A} t =
    (x y : A) (lines other_lines : List Line) (rest other_rest : List Bool)
    → HasLines t x lines
    → HasLines t y other_lines
    → AreGood lines
    → AreGood other_lines
    → joined lines ++ rest ≡ joined other_lines ++ other_rest → lines ≡ other_lines

-- The laws of a table: each payload means one thing by it.
pub record HasOneMeaning {A : Type 0} (t : Table A) : Type 0 where
  -- It spells a record or breaks off,
  pub decided : IsDecided t
  -- it spells one record at most,
  pub one_record : HasOneRecord t
  -- it breaks off at one place at most,
  pub one_break : BreaksOnce t
  -- not both,
  pub not_both : ExcludesBreaks t
  -- and lists of lines that its beginnings spell agree.
  pub lines_agree : LinesAgree t
