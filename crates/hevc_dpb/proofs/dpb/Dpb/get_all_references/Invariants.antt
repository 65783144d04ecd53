use Rattle.std.proofs.Common.{◌≡◌, ◌≤◌, take}
use Rattle.arrayvec.specs.ArrayVec.{array_vec_len}
use Rattle.hevc_dpb.specs.Entries.{reference_numbers}
use Rattle.hevc_dpb.proofs.dpb.Dpb.get_all_references.Given as goal

abbrev pub invariant-loop-entry : goal.invariant-loop-entry
invariant-loop-entry g l = record {
  few : array_vec_len l.numbers ≤ l.entry-index;
  found : l.numbers.items ≡ reference_numbers (take l.entry-index l.entry-items);
}
