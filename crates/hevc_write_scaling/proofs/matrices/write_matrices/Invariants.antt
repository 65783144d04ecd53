use Rattle.std.proofs.Common.{◌≡◌, ◌++◌, drop}
use Rattle.hevc_write_scaling.specs.Matrices.{matrices_bits}
use Rattle.hevc_write_scaling.proofs.matrices.write_matrices.Given as goal

abbrev pub invariant-loop-i : goal.invariant-loop-i
invariant-loop-i g l =
    l.w ++ matrices_bits l.has_dc l.step l.i (drop l.i l.dc_coef_minus8) (drop l.i l.lists) ≡ l.fn.w
    ++ matrices_bits l.has_dc l.step 0 l.dc_coef_minus8 l.lists
