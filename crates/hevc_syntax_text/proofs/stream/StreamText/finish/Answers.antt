use Rattle.hevc_syntax_text.proofs.Flowing.{none_yet, on_refusal}
use Rattle.hevc_syntax_text.proofs.stream.StreamText.finish.Goals as goal

pub returns-in_err-push_last-clause-less : goal.returns-in_err-push_last-clause-less
returns-in_err-push_last-clause-less g c =
    let text = c.args.self in
    on_refusal c.from_residual.result _
    (none_yet (g.K.Sink.written c.args.sink.now) text.bytes.items text.request.style text.units text.refused)
