use Rattle.std.proofs.Common.{arith}
use Rattle.hevc_spec.proofs.PlaceLaws.{ahead_then}
use Rattle.hevc_elements.proofs.Loops.{loops}
use Rattle.hevc_profile.proofs.layer.read_compatibility_flags.Goals as goal

pub returns-in_err-read_compatibility_flag : goal.returns-in_err-read_compatibility_flag
returns-in_err-read_compatibility_flag c = record {
  reads = grind (arith, loops);
  moves = ahead_then _ _ _ c.loop-i.invariant.ahead c.in_err-read_compatibility_flag.ensures.moves;
}
