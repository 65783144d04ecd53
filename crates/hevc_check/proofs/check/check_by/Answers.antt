use Rattle.std.proofs.Common.{◌≡◌, subst, sym, Ok, Err}
use Rattle.hevc_walk.specs.Results.{verdict}
use Rattle.hevc_stream.specs.Options.{Options, default_options}
use Rattle.hevc_stream.specs.Stream.{meanings}
use Rattle.hevc_options.specs.Options.{options_of}
use Rattle.hevc_check.specs.declared.check.CheckError.{CheckError}
use Rattle.hevc_check.specs.Answers.{AnswersCheck, error_by}
use Rattle.hevc_check.proofs.Answering.{refused_answer, whole_verdict, in_order}
use Rattle.hevc_check.specs.Tables.{checked_by}
use Rattle.hevc_check.proofs.check.check_by.Goals as goal

pub returns-in-Err-clause-answer : goal.returns-in-Err-clause-answer
returns-in-Err-clause-answer c =
    let s = c.args.stream.now in
    let decodes = c.judge_stream-decoded.ensures.decodes in
    subst (λ (e : CheckError). AnswersCheck (Err e) (verdict (meanings default_options s))
    (checked_by c.args.table (meanings default_options s))) (sym c.error_of.ensures)
    (subst (λ (o : Options). AnswersCheck (Err (error_by c.in-Err.refused.error c.in-Err.refused))
    (verdict (meanings o s)) (checked_by c.args.table (meanings o s))) c.new-2.ensures
    (refused_answer (options_of c.new-2.result) s _ _ c.judge_stream-decoded.result.result c.in-Err.refused
    (checked_by c.args.table (meanings (options_of c.new-2.result) s)) decodes.1 tt c.in-Err.is))

pub returns-in-Ok-clause-order : goal.returns-in-Ok-clause-order
returns-in-Ok-clause-order c passed q at =
    let s = c.args.stream.now in
    let decodes = c.judge_stream-decoded.ensures.decodes in
    let whole =
    subst (λ (o : Options). verdict (meanings o s) ≡ Ok c.in_default.field-0) c.new-2.ensures
    (whole_verdict (options_of c.new-2.result) s _ _ c.judge_stream-decoded.result.result c.in_default.field-0
    decodes.1 c.in_default.is) in
    in_order c.args.table (meanings default_options s) c.in_default.field-0 c.in-Ok.checked whole
    c.in-Ok.ensures.checked passed q at
