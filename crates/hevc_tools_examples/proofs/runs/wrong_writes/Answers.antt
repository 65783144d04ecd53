use Rattle.std.proofs.Common.{refl, arith}
use Rattle.hevc_tools_examples.proofs.Few.{not_less}
use Rattle.hevc_tools_examples.proofs.runs.wrong_writes.Goals as goal

pub returns-clause-write : goal.returns-clause-write
returns-clause-write c = λ run. let less = run.less refl in not_less less.0 less.1 less.2

pub returns-clause-memory : goal.returns-clause-memory
returns-clause-memory c = λ run. let less = run.less_by_memory refl (omega arith) in not_less less.0 less.1 less.2
