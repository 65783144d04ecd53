use Rattle.std.proofs.Common.{◌≡◌, ℕ, pos, ◌+◌, ◌^◌, to_z, of_z, w32, sym, ◌∙◌, arith}
use Rattle.std.proofs.lemmas.Int.{ints, to_z-of_z}
use Rattle.hevc_pictures.proofs.Powers.{power_most, power_least}
use Rattle.hevc_refs.proofs.CountLaws.{bits_named}
use Rattle.hevc_refs.proofs.long_term.sought.Goals as goal

pub returns-else-header-i-clause-fits : goal.returns-else-header-i-clause-fits
returns-else-header-i-clause-fits c p first e is_count is_m =
    let m : ℕ = 2 ^ (c.requires.modulus.log2_minus4 + 4) in
    let least = power_least c.requires.modulus.log2_minus4 in
    let most = power_most c.requires.modulus.log2_minus4 c.requires.modulus.bound in
    let is : to_z w32 (of_z w32 c.args.modulus) ≡ pos m = to_z-of_z w32 c.args.modulus c.ranges.modulus
    ∙ c.requires.modulus.power in
    bits_named p first e _ _ m _ _ _ is (sym c.requires.modulus.power ∙ is_m) (omega (arith, least))
    (rw is (omega (arith, ints, least, most))) c.if-header-i.false
