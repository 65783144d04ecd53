use Rattle.hevc_report.proofs.Numbers.{number_within}
use Rattle.hevc_report.proofs.command.read_make.Goals as goal

pub returns-clause-bounds : goal.returns-clause-bounds
returns-clause-bounds c = number_within c.as_bytes.result.now c.read_number.result c.read_number.ensures
