use Rattle.std.proofs.Common.{◌≡◌, ◌≤◌, All, length, take}
use Rattle.std.specs.Prelude.{IfSome}
use Rattle.hevc_io.proofs.words.command_line.Given as goal

-- the words so far are the first of those that are told, and none is longer than may be
abbrev pub invariant-loop-number : goal.invariant-loop-number
invariant-loop-number g l =
    All (λ word. length word ≤ 2097152) l.words.items
    × (length l.words.items ≡ l.number)
    × IfSome (g.W.Words.told l.line) (λ told. l.words.items ≡ take l.number told)
