use Rattle.std.specs.Prelude.{◌++◌, codes, decimal}
use Rattle.std.specs.String.{string_bytes}
use Rattle.hevc_report.specs.Report.{cause_numbers}
use Rattle.hevc_report.proofs.Pieces.{refused_pieces}
use Rattle.hevc_report.proofs.report.last.push_refusal.Goals as goal

pub returns : goal.returns
returns c =
    let refused = c.args.refused in
    let pieces = refused_pieces (string_bytes c.args.text.now)
    (codes "refused unit " ++ decimal refused.unit) (codes " ") c.cause_name-cause.result.now
    (cause_numbers refused.error) (codes "\n")
    c.cause_name-cause.ensures c.in_ok-write.ensures.bytes c.in_ok-push_cause_numbers.ensures in
    pieces c.in_ok-push_str.ensures.bytes
