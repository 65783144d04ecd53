use Rattle.std.proofs.Common.{refl, arith}
use Rattle.hevc_tools_examples.specs.Runs.{two_bytes}
use Rattle.hevc_tools_examples.proofs.Few.{not_done, not_risen}
use Rattle.hevc_tools_examples.proofs.runs.wrong_statuses.Goals as goal

pub returns-clause-completes : goal.returns-clause-completes
returns-clause-completes c = λ run.
    not_done 9 (omega arith) (run.completes two_bytes refl (omega arith) not_risen not_risen)
