use Rattle.std.proofs.Common.{refl, ap, arith}
use Rattle.hevc_backend.specs.Trait.{Counts}
use Rattle.hevc_decoder_examples.proofs.parts.counts.Goals as goal

pub returns-clause-none : goal.returns-clause-none
returns-clause-none c = record { same = refl; faults = omega arith; empty_answers = omega arith }

pub returns-clause-one : goal.returns-clause-one
returns-clause-one c = λ h. absurd (cc (ap (λ (n : Counts). n.faults) h.same))
