use Rattle.std.proofs.Common.{append_assoc}
use Rattle.std.proofs.lemmas.Result.{on_ok_weaker}
use Rattle.hevc_report.proofs.report.line.push_sequence.Goals as goal

pub returns : goal.returns
returns c =
    on_ok_weaker c.writeln.result
    (λ e. let f = c.from.ensures in let h = c.from-2.ensures in rw e (simp (append_assoc, f, h)))
    c.writeln.ensures.bytes
