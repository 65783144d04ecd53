use Rattle.std.proofs.Common.{arith}
use Rattle.hevc_bits.proofs.Blocks.{none_in_starts, first_of_starts, small}
use Rattle.hevc_bits.proofs.start_code.find_in_block.Goals as goal

pub returns-then-starts-eq0 : goal.returns-then-starts-eq0
returns-then-starts-eq0 c =
    none_in_starts c.args.block c.args.pairs c.places_of.result c.fits-block.0 c.requires
    c.places_of.ensures c.if-starts-eq0.true

pub returns : goal.returns
returns c = first_of_starts c.args.block c.args.pairs c.places_of.result c.fits-block.0 c.requires
    c.places_of.ensures (omega (arith, c.if-starts-eq0.false)) (omega (arith, small c.args.pairs c.places_of.result))
