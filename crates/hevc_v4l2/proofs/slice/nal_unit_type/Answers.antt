use Rattle.std.proofs.Common.{◌∙◌, ap}
use Rattle.hevc_spec.specs.UnitHeader.{UnitHeader}
use Rattle.hevc_bits.proofs.TypeTags.{tag_of-nalu_type}
use Rattle.hevc_v4l2.proofs.slice.nal_unit_type.Goals as goal

pub returns : goal.returns
returns c =
    tag_of-nalu_type c.nalu_type.result
    ∙ (c.nalu_type.ensures ∙ ap (λ (h : UnitHeader). h.nal_unit_type) c.header.ensures.value)
