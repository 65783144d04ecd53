use Rattle.std.proofs.Common.{ℕ, List, subst}
use Rattle.hevc_io.specs.Prefix.{AppendsPrefix}
use Rattle.hevc_syntax_text.specs.Written.{written_of}
use Rattle.hevc_syntax_text.proofs.Flowing.{flow_prefix, if_exposed}
use Rattle.hevc_syntax_text.proofs.program.tell_source.Goals as goal

pub returns-clause-part : goal.returns-clause-part
returns-clause-part g c =
    let old = g.K.Sink.written c.args.sink.now in
    let new = g.K.Sink.written c.write_text.new.sink in
    let asked = c.args.request in
    if_exposed (g.S.Source.left c.args.source.now) (g.S.Source.left c.read_all.new.source) c.in_ok-stream.stream.items
    (λ (stream : List ℕ). AppendsPrefix old new (written_of asked stream)) c.in_ok-stream.ensures.all
    c.in_ok-stream.ensures.end
    (subst (λ (stream : List ℕ). AppendsPrefix old new (written_of asked stream)) c.deref.ensures.value
    (flow_prefix c.write_text.result old new (written_of asked c.deref.result.now) _ c.write_text.ensures.whole
    c.write_text.ensures.less))
