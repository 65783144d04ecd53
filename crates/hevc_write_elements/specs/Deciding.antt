-- What is written decides whether a record has lines at all.
use Rattle.std.specs.Prelude.{◌≡◌, Bool, List, [], ◌++◌}
use Rattle.hevc_spec.specs.Lines.{Line, HasLines, AreGood}
use Rattle.hevc_spec.specs.Table.{Table, read, gives}
use Rattle.hevc_write_elements.specs.Choices.{IsFilled}
use Rattle.hevc_write_elements.specs.Filling.{WritesTable}

-- What is added for a record that has lines which are allowed are lines of it, with the chosen
-- values, and with no more flags of row 5 of table 7 set.
unfoldable pub WritesFormed : {A : Type 0} → Table A → Type 0
WritesFormed {A = A} t =
    (x : A) (lines : List Line) (old new : List Bool) → HasLines t x lines → AreGood lines
    → WritesTable t x old new
    → (added : List Bool) × IsFilled t x lines added × (new ≡ old ++ added)

-- What is written for a record that any bits are read as is read as that record, whatever comes
-- after it. So a record that isn't read back is one that no bits are read as.
unfoldable pub ReadsBack : {A : Type 0} → Table A → Type 0
ReadsBack {A = A} t =
    (x : A) (written bits rest others : List Bool) → WritesTable t x [] written
    → read t bits ≡ gives x rest → read t (written ++ others) ≡ gives x others
