use Rattle.std.proofs.Common.{◌≤◌, ◌+◌, ℕ, length}
use Rattle.hevc_decoder.proofs.Windows.{EndsBehind}
use Rattle.hevc_decoder.proofs.window.whole_units.Given as goal

-- no start code ends after the place where the last 1 was found
abbrev pub invariant-loop-end : goal.invariant-loop-end
invariant-loop-end l = record {
  within : l.end ≤ length l.bytes;
  none : (place : ℕ) → l.end ≤ place + 2 → ¬ EndsBehind l.bytes l.seen place;
}

abbrev pub decreases-loop-end : goal.decreases-loop-end
decreases-loop-end l = l.end
