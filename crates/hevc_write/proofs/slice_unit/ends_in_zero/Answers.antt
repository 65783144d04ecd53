use Rattle.std.proofs.Common.{◌≡◌, ◌+◌, ◌-◌, length, arith}
use Rattle.std.proofs.lemmas.Bool.{eqb-true, eqb-false}
use Rattle.std.proofs.lemmas.Bool.Decides.{nat_tests}
use Rattle.hevc_write.proofs.SlicesBack.{zero_end, some_end}
use Rattle.hevc_write.proofs.slice_unit.ends_in_zero.Goals as goal

pub returns-clause-zero : goal.returns-clause-zero
returns-clause-zero c = λ is.
    let bytes = c.args.bytes.now in
    let long : length bytes ≡ length bytes - 1 + 1 = grind (arith, nat_tests) in
    zero_end bytes (length bytes - 1) long (eqb-true _ 0 is)

pub returns-clause-some : goal.returns-clause-some
returns-clause-some c = λ is.
    let bytes = c.args.bytes.now in
    let long : length bytes ≡ length bytes - 1 + 1 = grind (arith, nat_tests) in
    some_end bytes (length bytes - 1) long (eqb-false _ 0 is)
