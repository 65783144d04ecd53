use Rattle.std.proofs.Common.{◌≡◌, ◌≤◌, ◌-◌, length}
use Rattle.hevc_spec.specs.Units.{units, units_from, kept_bytes}
use Rattle.hevc_bench.specs.Counts.{count_of_units}
use Rattle.hevc_bench.proofs.count.count_units.Given as goal

-- so many units were counted, and the rest is from the position on
abbrev pub invariant-loop-unit : goal.invariant-loop-unit
invariant-loop-unit l = record {
  within : l.position ≤ length l.stream;
  few : l.number ≤ l.position;
  rest : count_of_units 0 (units l.stream) ≡ count_of_units l.number (units_from kept_bytes l.position l.stream);
}

abbrev pub decreases-loop-unit : goal.decreases-loop-unit
decreases-loop-unit l = length l.stream - l.position
