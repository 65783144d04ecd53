use Rattle.hevc_reading_laws.proofs.Spellings.{prefix_free}
use Rattle.hevc_bits.proofs.Spelled.{is_spelled, is_only}
use Rattle.hevc_bits.proofs.reader.NaluReader.read_ue.Goals as goal

pub returns-clause-spelled : goal.returns-clause-spelled
returns-clause-spelled c = is_spelled _ _ _ c.read_exp_golomb.ensures.read

pub returns-clause-only : goal.returns-clause-only
returns-clause-only c = is_only _ _ _ c.read_exp_golomb.ensures.read

pub returns-clause-prefix_free : goal.returns-clause-prefix_free
returns-clause-prefix_free c = prefix_free
