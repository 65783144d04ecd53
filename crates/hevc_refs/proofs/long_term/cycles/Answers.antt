use Rattle.std.proofs.Common.{◌≡◌, pos, ◌+◌, ◌^◌, to_z, of_z, w32, ◌∙◌, arith}
use Rattle.std.proofs.lemmas.Int.{ints, to_z-of_z}
use Rattle.hevc_pictures.proofs.Powers.{power_most}
use Rattle.hevc_refs.proofs.CountLaws.{product_below}
use Rattle.hevc_refs.proofs.long_term.cycles.Goals as goal

pub returns-clause-below : goal.returns-clause-below
returns-clause-below c =
    let is : to_z w32 (of_z w32 c.args.modulus) ≡ pos (2 ^ (c.requires.log2_minus4 + 4)) =
    to_z-of_z w32 c.args.modulus c.ranges.modulus ∙ c.requires.power in
    let below = product_below c.args.cycle (2 ^ (c.requires.log2_minus4 + 4)) c.ranges.cycle.fits
    (power_most c.requires.log2_minus4 c.requires.bound) in
    rw is (omega (arith, ints, below))
