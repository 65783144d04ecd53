-- What the words of the command line ask for.
use Rattle.std.specs.Prelude.{ℕ, List, [], ◌∷◌, codes, Option, Some, None, if◌then◌else◌}
use Rattle.std.specs.Str.{bytes_eq}
use Rattle.hevc_check.specs.declared.table.Table.{Table}
use Rattle.hevc_check.specs.declared.table.Table.TheVariants.{Bounds, Order}

-- no words: the plainer bounds; the word `order`: display order
abbrev pub asked_table : List (List ℕ) → Option Table
asked_table [] = Some Bounds
asked_table (word ∷ []) = if bytes_eq word (codes "order") then Some Order else None
asked_table words = None
