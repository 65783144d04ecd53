use Rattle.std.proofs.Common.{◌≡◌, length, take, drop}
use Rattle.hevc_v4l2.specs.EntryPoints.{entry_points}
use Rattle.hevc_v4l2.proofs.entry_points.write_held.Given as goal

abbrev pub invariant-loop-i : goal.invariant-loop-i
invariant-loop-i l = record {
  long : length l.offsets ≡ length l.initial.offsets;
  written : take l.i l.offsets ≡ take l.i (entry_points l.offsets_minus1);
  left : drop l.i l.offsets ≡ drop l.i l.initial.offsets;
}
