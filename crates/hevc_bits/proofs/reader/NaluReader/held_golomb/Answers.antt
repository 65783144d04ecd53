use Rattle.hevc_spec.proofs.BitSteps.{ue_at-bound}
use Rattle.hevc_bits.proofs.reader.NaluReader.held_golomb.Goals as goal

pub returns-clause-bound : goal.returns-clause-bound
returns-clause-bound c = ue_at-bound _ c.in_ok-value.value _ c.in_ok-value.ensures.finds
