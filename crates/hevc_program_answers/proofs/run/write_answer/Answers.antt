use Rattle.std.proofs.Common.{ℕ, ◌<◌, List, length, arith, Option, None, Some, IfSome}
use Rattle.hevc_io.specs.Prefix.{AppendsLess}
use Rattle.hevc_io.proofs.Written.{nothing_written}
use Rattle.std.proofs.lemmas.Grind.{common_steps}
use Rattle.hevc_program_answers.proofs.run.write_answer.Goals as goal

pub returns-in_err-input-clause-long : goal.returns-in_err-input-clause-long
returns-in_err-input-clause-long g c = grind (arith, common_steps)

pub returns-clause-part : goal.returns-clause-part
returns-clause-part g c = grind (arith, common_steps)

-- nothing is less than a text that has a byte
nothing_yet : (left written : Option (List ℕ)) (text : List ℕ → List ℕ)
    → IfSome left (λ s. 0 < length (text s) → AppendsLess written written (text s))
nothing_yet None written text = tt
nothing_yet (Some s) written text = nothing_written written (text s)

pub returns-in_err-answer-clause-less_by_memory : goal.returns-in_err-answer-clause-less_by_memory
returns-in_err-answer-clause-less_by_memory g c = λ is.
    nothing_yet (g.S.Source.left c.args.source.now) (g.K.Sink.written c.args.sink.now) (g.A.Asked.text c.args.asked.now)
