use Rattle.std.proofs.Common.{arith}
use Rattle.std.proofs.lemmas.Grind.{common_steps}
use Rattle.hevc_bits.proofs.TypeTags.{cmp-number}
use Rattle.hevc_bits.proofs.comparisons.nalu_type_lt.Goals as goal

pub returns : goal.returns
returns c = let e = cmp-number c.args.a c.args.b in grind (arith, common_steps, c.lt.ensures, e)
