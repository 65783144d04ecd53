use Rattle.std.proofs.Common.{◌++◌, ◌∙◌, ap, sym}
use Rattle.hevc_bits.specs.declared.header.UnitError.{UnitError}
use Rattle.hevc_syntax_text.specs.Refusals.{header_cause}
use Rattle.hevc_syntax_text.proofs.Kept.{on_ok}
use Rattle.hevc_syntax_text.proofs.refusal.push_header_cause.Goals as goal

pub returns-in-TemporalIdZero : goal.returns-in-TemporalIdZero
returns-in-TemporalIdZero c =
    on_ok c.push_name-in-TemporalIdZero.result _ _
    (λ h. h ∙ ap (λ (e : UnitError). c.args.text.now.items ++ header_cause c.args.style e) (sym c.in-TemporalIdZero.is))
    c.push_name-in-TemporalIdZero.ensures

pub returns-in-InvalidNaluType : goal.returns-in-InvalidNaluType
returns-in-InvalidNaluType c =
    on_ok c.push_numbered.result _ _
    (λ h. h
    ∙ ap (λ (e : UnitError). c.args.text.now.items ++ header_cause c.args.style e) (sym c.in-InvalidNaluType.is))
    c.push_numbered.ensures
