use Rattle.std.proofs.Common.{◌≡◌, rules, append_assoc, arith}
use Rattle.std.proofs.lemmas.Fmt.{decimal_digit}
use Rattle.hevc_report.proofs.report.line.push_extent.Goals as goal

pub returns-then-address-eq0-clause-ok : goal.returns-then-address-eq0-clause-ok
returns-then-address-eq0-clause-ok c =
    let first : c.args.address ≡ 0 = grind (arith, c.if-address-eq0.true) in
    rw (first, decimal_digit 0 (omega arith)) (search (rules, append_assoc))
