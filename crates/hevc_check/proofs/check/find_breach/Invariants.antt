use Rattle.std.proofs.Common.{◌≡◌, ◌≤◌, ◌-◌, length}
use Rattle.hevc_spec.specs.Units.{units_from, kept_bytes}
use Rattle.hevc_stream.specs.Options.{default_options}
use Rattle.hevc_kept_sets.specs.Kept.{options_in}
use Rattle.hevc_check.specs.Walks.{HasStarted}
use Rattle.hevc_check.proofs.Whole.{Reached}
use Rattle.hevc_check.proofs.check.find_breach.Given as goal

-- the units from the position on are left
abbrev pub invariant-loop-nalu : goal.invariant-loop-nalu
invariant-loop-nalu l = record {
  within : l.position ≤ length l.stream;
  few : l.unit ≤ l.position;
  number : l.check.walk.pictures.next.number ≤ l.unit;
  sequences : l.check.sequences ≤ l.unit;
  options : options_in l.check.walk.sets ≡ default_options;
  started : HasStarted l.check.walk;
  reached : Reached l.fn.table default_options l.stream (units_from kept_bytes l.position l.stream) l.unit l.check;
}

abbrev pub decreases-loop-nalu : goal.decreases-loop-nalu
decreases-loop-nalu l = length l.stream - l.position
