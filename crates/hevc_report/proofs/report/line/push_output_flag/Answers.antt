use Rattle.std.proofs.Common.{rules, append_assoc, arith}
use Rattle.std.proofs.lemmas.Fmt.{decimal_digit}
use Rattle.hevc_report.proofs.report.line.push_output_flag.Goals as goal

pub returns-then-is_output-clause-ok : goal.returns-then-is_output-clause-ok
returns-then-is_output-clause-ok c =
    rw (c.if-is_output.true, decimal_digit 1 (omega arith)) (search (rules, append_assoc))

pub returns-else-is_output-clause-ok : goal.returns-else-is_output-clause-ok
returns-else-is_output-clause-ok c =
    rw (c.if-is_output.false, decimal_digit 0 (omega arith)) (search (rules, append_assoc))
