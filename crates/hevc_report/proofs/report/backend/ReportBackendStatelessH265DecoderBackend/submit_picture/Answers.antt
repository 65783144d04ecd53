use Rattle.std.proofs.Common.{◌≡◌, ◌++◌, ap, refl, sym, subst, ◌∙◌, length, arith}
use Rattle.std.specs.Prelude.{OnOk}
use Rattle.hevc_backend.specs.declared.call.Call.TheVariants.{SubmitPicture}
use Rattle.hevc_backend.proofs.HandleLaws.{counted_more}
use Rattle.hevc_report.specs.Report.{submission_line}
use Rattle.hevc_report.proofs.LineLaws.{lines_more, submitted_few}
use Rattle.hevc_report.proofs.report.backend.ReportBackendStatelessH265DecoderBackend.submit_picture.Goals as goal

pub overflow_add-self : goal.overflow_add-self
overflow_add-self c =
    let few = submitted_few c.self.inside.history.items c.self.inside.submitted c.self.invariant.1 in
    let same = ap length c.self.invariant.0 in
    let fits = c.self.inside.text.ok.0 in
    omega (arith, few, same, fits)

pub invariant_of-self-2 : goal.invariant_of-self-2
invariant_of-self-2 c =
    let handle = c.self.inside.submitted in
    let log = c.self.inside.history.items in
    let text = c.self.inside.text.items in
    let added =
    subst (λ r. OnOk r (c.push_submission-added.new.text.items ≡ text ++ submission_line c.args.number handle))
    (sym c.in_ok-whole_or_none.ensures.same) c.push_submission-added.ensures.ok in
    let lines =
    lines_more log (SubmitPicture c.args.number handle) c.self.invariant.0 refl
    (c.in_ok-whole_or_none.ensures.whole ∙ added) in
    let counted = counted_more log handle c.args.number c.self.invariant.1 in
    rw c.and-self-inside.ensures (lines, counted)
