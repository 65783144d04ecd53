use Rattle.std.proofs.Common.{◌≡◌, ◌≤◌, ◌+◌, ℕ, List, length}
use Rattle.std.specs.Io.KnownBytes.{Consumes}
use Rattle.hevc_decoder.proofs.window.Window.skip.Given as goal

-- so many bytes have left the source
abbrev pub invariant-loop-count : goal.invariant-loop-count
invariant-loop-count g l = record {
  given : (bytes : List ℕ) × (length bytes + l.left ≡ l.limit)
      × Consumes (g.S.Source.left l.fn.source) (g.S.Source.left l.source) bytes;
  later : g.S.Source.faults l.fn.source ≤ g.S.Source.faults l.source;
}

-- each turn but the last takes a byte at least
abbrev pub decreases-loop-count : goal.decreases-loop-count
decreases-loop-count g l = l.left
