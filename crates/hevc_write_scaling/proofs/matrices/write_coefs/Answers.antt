use Rattle.std.proofs.Common.{rules}
use Rattle.hevc_write_scaling.proofs.matrices.write_coefs.Goals as goal

pub loop-i-init : goal.loop-i-init
loop-i-init c = search rules
