use Rattle.std.proofs.Common.{◌∙◌}
use Rattle.hevc_bits.proofs.TypeTags.{same_number}
use Rattle.hevc_bits.proofs.nalu_header.same_type.Goals as goal

pub returns : goal.returns
returns c = c.eq.ensures ∙ same_number c.args.a c.args.b
