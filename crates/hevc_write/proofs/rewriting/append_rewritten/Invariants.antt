use Rattle.std.proofs.Common.{◌≡◌, ◌≤◌, ◌-◌, ◌++◌, ℕ, List, length}
use Rattle.hevc_spec.specs.Units.{units_from, kept_bytes}
use Rattle.hevc_parser.specs.Kept.{kept_by}
use Rattle.hevc_write.proofs.Rewritten.{Left}
use Rattle.hevc_write.proofs.rewriting.append_rewritten.Given as goal

-- the units from the position on are left
abbrev pub invariant-loop-parser : goal.invariant-loop-parser
invariant-loop-parser l = record {
  within : l.position ≤ length l.stream;
  grows : (added : List ℕ) × (l.out.items ≡ l.fn.out.items ++ added);
  left : Left l.stream l.fn.out.items l.out.items (kept_by l.parser).sequence_sets
      (units_from kept_bytes l.position l.stream);
}

abbrev pub decreases-loop-parser : goal.decreases-loop-parser
decreases-loop-parser l = length l.stream - l.position
