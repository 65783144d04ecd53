use Rattle.std.proofs.Common.{◌≡◌, List, ℕ, length, ap, ◌∙◌, subst, arith}
use Rattle.std.specs.Prelude.{IfOk, is_ok}
use Rattle.hevc_stream_maker.proofs.Sizes.{short}
use Rattle.hevc_stream.specs.Options.{default_options}
use Rattle.hevc_report.specs.Report.{ending_of}
use Rattle.hevc_report.specs.Summary.{summary_of}
use Rattle.hevc_report.proofs.made.summary_on.Goals as goal

pub decoded_line-requires : goal.decoded_line-requires
decoded_line-requires c =
    let long = ap length (c.deref.ensures.value ∙ c.in_ok-stream.ensures) in
    omega (arith, long, short c.args.pictures, c.requires.1)

pub returns-clause-text : goal.returns-clause-text
returns-clause-text c =
    subst (λ (s : List ℕ). IfOk c.decoded_line.result (λ report. report.text.items ≡ summary_of s))
    (c.deref.ensures.value ∙ c.in_ok-stream.ensures) c.decoded_line.ensures.text

pub returns-clause-decoded : goal.returns-clause-decoded
returns-clause-decoded c =
    subst (λ (s : List ℕ). IfOk c.decoded_line.result
    (λ report. report.is_decoded ≡ is_ok (ending_of default_options s)))
    (c.deref.ensures.value ∙ c.in_ok-stream.ensures) c.decoded_line.ensures.decoded
