use Rattle.hevc_spec.proofs.BitSteps.{ue_at-bound}
use Rattle.hevc_bits.proofs.reader.NaluReader.read_exp_golomb.Goals as goal

pub returns-in-Some-clause-bound : goal.returns-in-Some-clause-bound
returns-in-Some-clause-bound c = ue_at-bound _ c.in-Some.value _ c.in-Some.ensures.0
