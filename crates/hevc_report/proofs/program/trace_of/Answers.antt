use Rattle.std.proofs.Common.{rules, ℕ, List, ◌++◌, refl, ap, sym, ◌∙◌, true≢false}
use Rattle.hevc_options.specs.Options.{options_of}
use Rattle.hevc_report.specs.Lines.{rest_text}
use Rattle.hevc_report.proofs.Joined.{in_parts, told_by, told_both, report_is}
use Rattle.hevc_report.proofs.program.trace_of.Goals as goal

-- what is to be written is the report on what the source had left
pub returns-clause-text : goal.returns-clause-text
returns-clause-text g c =
    let asked = c.in_ok-decoded.ensures in
    let decoded = c.in_ok-decoded.decoded in
    let shown = c.decode_source_with.new.shown.items in
    told_by (g.S.Source.left c.args.source.now) _ _
    (λ s x.
    ap (λ (l : List ℕ). l ++ rest_text shown decoded.result) c.into_text.ensures.lines
    ∙ in_parts decoded.backend.log shown decoded.result
    ∙ report_is (options_of c.args.options) s c.new-backend.result.log decoded.backend.log decoded.backend.log
    c.new-shown.result.items shown shown decoded.result
    c.new-backend.ensures.log refl c.new-shown.ensures.items refl (asked.honest.faultless tt).1
    (λ m. true≢false (sym (c.wants_memory.ensures.1 m) ∙ c.if-wants_memory.false)) x.cut
    c.into_text.ensures.handles)
    asked.decodes

pub returns-clause-tells : goal.returns-clause-tells
returns-clause-tells g c =
    let asked = c.in_ok-decoded.ensures in
    told_both (g.S.Source.left c.args.source.now) _ _ _
    (λ s l x. record {
      limit_kept = l;
      decoded = search rules;
      clean = search rules;
      in_turn = search rules;
      display_order = search rules;
    })
    asked.limit asked.decodes
