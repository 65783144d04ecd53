use Rattle.std.proofs.Common.{ℤ, w32, subst, sym}
use Rattle.std.proofs.lemmas.Int.{to_z-of_z}
use Rattle.hevc_refs.specs.Marking.{HasMembers}
use Rattle.hevc_refs.proofs.derive.derive_and_mark.Goals as goal

pub returns-clause-derives : goal.returns-clause-derives
returns-clause-derives g c p first is_head has =
    let has_members =
    subst (λ (x : ℤ). HasMembers first c.args.header.now c.args.set.now x)
    (sym (to_z-of_z w32 c.args.max_pic_order_cnt_lsb c.ranges.max_pic_order_cnt_lsb)) has in
    c.derive_into.ensures.derives p first is_head has_members
