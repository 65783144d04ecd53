use Rattle.hevc_bits.proofs.Blocks.{pairs_tell}
use Rattle.hevc_bits.proofs.start_code.pairs_of_zeros.Goals as goal

pub returns : goal.returns
returns c = pairs_tell c.args.block c.places_of-zeros.result c.fits-block.0 c.places_of-zeros.ensures
