use Rattle.std.proofs.Common.{◌≡◌, ◌++◌, drop}
use Rattle.hevc_write_scaling.specs.Matrices.{coef_bits}
use Rattle.hevc_write_scaling.proofs.matrices.write_coefs.Given as goal

abbrev pub invariant-loop-i : goal.invariant-loop-i
invariant-loop-i l = l.w ++ coef_bits l.next_coef (drop l.i l.entries) ≡ l.fn.w ++ coef_bits l.fn.start l.entries
