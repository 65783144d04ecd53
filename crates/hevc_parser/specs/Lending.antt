-- What a parser is once a set that it lent is given back.
use Rattle.std.specs.Prelude.{◌≡◌, ⊤, Result, Ok, Err}
use Rattle.std.specs.Borrow.{Fml, MutBor, follows_so}
use mathlib.Core.Option.{none}
use Rattle.hevc_stream.specs.Kept.{Kept}
use Rattle.hevc_parser.specs.declared.parser.Parser.{Parser}
use Rattle.hevc_parser.specs.contracts.parser.Parser.{the_row}
use Rattle.hevc_parser.specs.Kept.{kept_by}

-- the parser is left as P says
abbrev pub LeavesParser : MutBor Parser → (Parser → Type 0) → Fml
LeavesParser s P = follows_so the_row the_row s.ghost_name none (λ _ _. ⊤) P

-- a set is kept where the call answers with one, and else what was kept is
abbrev pub Keeps : {X E : Type 0} → (X → Kept → Kept) → Result X E → Parser → Parser → Type 0
Keeps with_set (Ok set) old new = kept_by new ≡ with_set set (kept_by old)
Keeps with_set (Err e) old new = kept_by new ≡ kept_by old
