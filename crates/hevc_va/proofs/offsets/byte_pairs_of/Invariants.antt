use Rattle.std.proofs.Common.{◌≡◌, length, take}
use Rattle.hevc_va.proofs.offsets.byte_pairs_of.Given as goal

abbrev pub invariant-loop-i : goal.invariant-loop-i
invariant-loop-i g l = record {
  long : length l.bytes ≡ length l.pairs;
  written : take l.i l.bytes ≡ take l.i l.pairs;
}
