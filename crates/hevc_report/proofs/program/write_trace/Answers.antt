use Rattle.std.proofs.Common.{◌∙◌, subst}
use Rattle.std.specs.Io.KnownBytes.{Appends}
use Rattle.hevc_io.specs.Prefix.{AppendsLess}
use Rattle.hevc_report.specs.Lines.{rest_text}
use Rattle.hevc_report.proofs.Written.{on_refusal, front_written, rest_less, some_rest}
use Rattle.hevc_report.proofs.program.write_trace.Goals as goal

-- the lines of the calls were written, and none of the rest
pub returns-in_err-push_rest-clause-less : goal.returns-in_err-push_rest-clause-less
returns-in_err-push_rest-clause-less g c =
    let old = g.K.Sink.written c.args.sink.now in
    let mid = g.K.Sink.written c.write_all.new.sink in
    let trace = c.args.trace in
    on_refusal c.from_residual-in_err-push_rest.result _
    (front_written old mid trace.calls.items (rest_text trace.shown.items trace.verdict)
    (some_rest trace.shown.items trace.verdict)
    (subst (Appends old mid) c.deref.ensures.value c.in_ok-write_all.ensures.all))

-- they were, and a part of the rest
pub returns-in_err-write_all-2-clause-less : goal.returns-in_err-write_all-2-clause-less
returns-in_err-write_all-2-clause-less g c =
    let old = g.K.Sink.written c.args.sink.now in
    let mid = g.K.Sink.written c.write_all.new.sink in
    let new = g.K.Sink.written c.write_all-2.new.sink in
    let trace = c.args.trace in
    let pushed = rw (c.clear.ensures.items, c.deref-2.ensures.value) at c.in_ok-push_rest.ensures in
    on_refusal c.from_residual-in_err-write_all-2.result _
    (rest_less old mid new trace.calls.items (rest_text trace.shown.items trace.verdict)
    (subst (Appends old mid) c.deref.ensures.value c.in_ok-write_all.ensures.all)
    (subst (AppendsLess mid new) (c.deref-3.ensures.value ∙ pushed) c.in_err-write_all-2.ensures.less))
