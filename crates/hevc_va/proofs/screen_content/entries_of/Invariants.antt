use Rattle.std.proofs.Common.{◌≡◌, length, take}
use Rattle.hevc_va.proofs.screen_content.entries_of.Given as goal

abbrev pub invariant-loop-i : goal.invariant-loop-i
invariant-loop-i l = record {
  long : length l.entries ≡ 3;
  written : take l.i l.entries ≡ take l.i l.components;
}
