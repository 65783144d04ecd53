use Rattle.hevc_extract.proofs.Answers.{on_ok, alike_on_ok}
use Rattle.hevc_extract.proofs.Held.{holds_kept}
use Rattle.hevc_extract.proofs.extraction.extract_layer.Goals as goal

pub returns-else-is_err-clause-holds : goal.returns-else-is_err-clause-holds
returns-else-is_err-clause-holds c =
    on_ok c.append_kept-kept.result _ (holds_kept c.args.highest_tid c.args.highest_layer c.args.stream.now)

pub returns-else-is_err-clause-alike : goal.returns-else-is_err-clause-alike
returns-else-is_err-clause-alike c =
    alike_on_ok c.append_kept-kept.result c.args.highest_tid c.args.highest_layer c.args.stream.now
    c.append_kept-kept.ensures.refused
