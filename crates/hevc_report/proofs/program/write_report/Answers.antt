use Rattle.std.proofs.Common.{List, ℕ, subst}
use Rattle.std.specs.Io.KnownBytes.{Appends}
use Rattle.hevc_report.proofs.Joined.{told_by}
use Rattle.hevc_report.proofs.Written.{whole_prefix}
use Rattle.hevc_report.proofs.program.write_report.Goals as goal

-- the whole is a prefix of itself
pub returns-clause-part : goal.returns-clause-part
returns-clause-part g c =
    let old = g.K.Sink.written c.args.sink.now in
    let new = g.K.Sink.written c.write_trace.new.sink in
    told_by (g.S.Source.left c.args.source.now) _ _
    (λ s is. whole_prefix old new _
    (subst (λ (text : List ℕ). Appends old new text) is c.in_ok-write_trace.ensures.whole))
    c.in_ok-trace.ensures.text
