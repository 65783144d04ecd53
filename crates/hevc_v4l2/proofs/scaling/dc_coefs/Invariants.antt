use Rattle.std.proofs.Common.{◌≡◌, length, map, take}
use Rattle.hevc_v4l2.specs.Scaling.{dc_coef}
use Rattle.hevc_v4l2.proofs.scaling.dc_coefs.Given as goal

abbrev pub invariant-loop-i : goal.invariant-loop-i
invariant-loop-i l = record {
  long : length l.coefs ≡ length l.minus8;
  written : take l.i l.coefs ≡ map dc_coef (take l.i l.minus8);
}
