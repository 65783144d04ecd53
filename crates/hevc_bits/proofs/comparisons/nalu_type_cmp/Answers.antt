use Rattle.std.proofs.Common.{◌∙◌}
use Rattle.hevc_bits.proofs.TypeTags.{cmp-number}
use Rattle.hevc_bits.proofs.comparisons.nalu_type_cmp.Goals as goal

pub returns : goal.returns
returns c = c.cmp.ensures ∙ cmp-number c.args.a c.args.b
