use Rattle.std.proofs.Common.{◌≡◌, ◌≤◌, ◌+◌, ◌-◌, ◌++◌, ℕ, List, length}
use Rattle.hevc_spec.specs.Units.{units_from, kept_bytes}
use Rattle.hevc_extract.proofs.Taking.{Left}
use Rattle.hevc_extract.proofs.extraction.append_kept.Given as goal

-- the units from the position on are left
abbrev pub invariant-loop-nalu : goal.invariant-loop-nalu
invariant-loop-nalu l = record {
  within : l.position ≤ length l.stream;
  few : l.kept.units + l.kept.dropped ≤ l.position;
  grows : (added : List ℕ) × (l.out.items ≡ l.fn.out.items ++ added);
  left : Left l.wanted.highest_tid l.wanted.highest_layer l.stream l.fn.out.items l.out.items l.kept
      (units_from kept_bytes l.position l.stream);
}

abbrev pub decreases-loop-nalu : goal.decreases-loop-nalu
decreases-loop-nalu l = length l.stream - l.position
