use Rattle.std.proofs.Common.{◌∙◌}
use Rattle.hevc_bits.proofs.TypeTags.{tag_of-nalu_type}
use Rattle.hevc_pull.proofs.units.number_of.Goals as goal

pub returns : goal.returns
returns c = c.from.ensures ∙ tag_of-nalu_type c.args.nalu_type
