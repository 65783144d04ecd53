use Rattle.std.proofs.Common.{eqb, arith, w8}
use Rattle.std.proofs.lemmas.Simd.{bitmask_splat}
use Rattle.hevc_bits.proofs.Blocks.{bit_of_places}
use Rattle.hevc_bits.proofs.start_code.places_of.Goals as goal

pub returns : goal.returns
returns c k =
    bit_of_places c.args.byte c.args.block _ c.fits-block.0
    (bitmask_splat w8 eqb c.args.block 64 c.args.byte c.fits-block.0 (omega arith)) k
