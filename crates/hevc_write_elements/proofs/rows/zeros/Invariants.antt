use Rattle.std.proofs.Common.{◌≡◌, ◌++◌, false}
use Rattle.std.specs.Prelude.{replicate}
use Rattle.hevc_write_elements.proofs.rows.zeros.Given as goal

abbrev pub invariant-loop : goal.invariant-loop
invariant-loop l = l.w ≡ l.fn.w ++ replicate l.counter false
