use Rattle.std.proofs.Common.{◌≤◌, ◌-◌, vec_len, take}
use Rattle.std.specs.Io.KnownBytes.{Consumes}
use Rattle.hevc_io.proofs.input.read_all.Given as goal

-- the first `filled` bytes of the input have left the source
abbrev pub invariant-loop-input : goal.invariant-loop-input
invariant-loop-input g l = record {
  within : l.filled ≤ l.limit;
  there : l.filled ≤ vec_len l.input;
  given : Consumes (g.S.Source.left l.fn.source) (g.S.Source.left l.source) (take l.filled l.input.items);
  later : g.S.Source.faults l.fn.source ≤ g.S.Source.faults l.source;
}

-- each turn but the last takes a byte at least
abbrev pub decreases-loop-input : goal.decreases-loop-input
decreases-loop-input g l = l.limit - l.filled
