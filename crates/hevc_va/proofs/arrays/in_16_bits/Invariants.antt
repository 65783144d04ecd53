use Rattle.std.proofs.Common.{◌≡◌, length, take}
use Rattle.hevc_va.proofs.arrays.in_16_bits.Given as goal

abbrev pub invariant-loop-i : goal.invariant-loop-i
invariant-loop-i g l = record {
  long : length l.small ≡ length l.numbers;
  written : take l.i l.small ≡ take l.i l.numbers;
}
