use Rattle.std.proofs.Common.{rules}
use Rattle.hevc_kept_sets.proofs.ReadUnits.{none_read}
use Rattle.hevc_kept_sets.proofs.kept_sets.KeptSets.new.Goals as goal

pub invariant_of-result : goal.invariant_of-result
invariant_of-result c = record {
  repeated = none_read _;
  wanted = search rules;
  covered = search rules;
  settled = search rules;
}
