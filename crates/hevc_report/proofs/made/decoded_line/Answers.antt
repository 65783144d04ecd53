use Rattle.std.proofs.Common.{refl, ap, sym, ◌∙◌, true≢false}
use Rattle.hevc_backend.specs.Recording.{Recording}
use Rattle.hevc_options.specs.Options.{options_of}
use Rattle.hevc_report.proofs.Joined.{summary_is}
use Rattle.hevc_report.proofs.made.decoded_line.Goals as goal

-- what is written is the line of the stream
pub returns-clause-text : goal.returns-clause-text
returns-clause-text c =
    let decoded = c.decode_stream_with-decoded in
    let asked = decoded.ensures.decodes in
    let failing = λ (r : Recording). r.failing in
    let free = λ (r : Recording). r.free in
    let log = λ (r : Recording). r.log in
    ap (λ v. v.items) c.into_bytes.ensures.value ∙ c.in_ok-text.ensures
    ∙ summary_is (options_of c.new.result) c.args.stream.now c.new-backend.result.log decoded.result.backend.log
    decoded.result.backend.log c.new-shown.result.items decoded.new.shown.items c.deref.result.now
    decoded.result.result
    c.new.ensures (ap log c.new-backend.ensures) refl c.new-shown.ensures.items c.deref.ensures.value
    (asked.honest.faultless (ap failing c.new-backend.ensures, ap free c.new-backend.ensures)).1
    (λ m. true≢false (sym (c.wants_memory.ensures.1 m) ∙ c.if-wants_memory.false)) asked.cut
