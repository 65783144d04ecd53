use Rattle.hevc_bit_writer.proofs.Escapes.{bits_back}
use Rattle.hevc_bit_writer.proofs.laws.payload_is_read_back.Goals as goal

pub returns-clause-bits : goal.returns-clause-bits
returns-clause-bits c = bits_back
