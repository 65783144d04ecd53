use Rattle.std.proofs.Common.{w32, ◌∙◌}
use Rattle.std.proofs.lemmas.Int.{to_z-of_z}
use Rattle.hevc_dpb.specs.Views.{buffer_of}
use Rattle.hevc_refs.proofs.MemberLaws.{first_number_same}
use Rattle.hevc_refs.proofs.long_term.number_of.Goals as goal

pub returns : goal.returns
returns g c p first is_count is_m =
    c.find.ensures
    ∙ first_number_same _ _
    (λ e. c.sought.ensures.fits p first e (to_z-of_z w32 c.args.order_count c.ranges.order_count ∙ is_count)
    (to_z-of_z w32 c.args.modulus c.ranges.modulus ∙ is_m)) (buffer_of c.args.dpb.now)
