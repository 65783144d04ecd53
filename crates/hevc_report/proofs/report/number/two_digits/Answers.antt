use Rattle.hevc_report.proofs.Digits.{table_has}
use Rattle.hevc_report.proofs.report.number.two_digits.Goals as goal

pub returns : goal.returns
returns c = table_has c.args.number c.requires
