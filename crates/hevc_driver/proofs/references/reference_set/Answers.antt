use Rattle.std.proofs.Common.{ap, ◌∙◌}
use Rattle.hevc_records.specs.Pps.{default_pps}
use Rattle.hevc_stream.specs.Options.{default_options}
use Rattle.hevc_walk.specs.ReferenceSets.{names, all_members}
use Rattle.hevc_dpb.specs.Views.{buffer_of}
use Rattle.hevc_driver.specs.Heads.{head_of}
use Rattle.hevc_driver.specs.Slices.{slice_of}
use Rattle.hevc_driver.proofs.HeadViews.{refers}
use Rattle.hevc_driver.proofs.SliceViews.{has_members, any_members, any_slice, signed_lsb}
use Rattle.hevc_driver.proofs.Rooms.{names_nothing}
use Rattle.hevc_driver.proofs.references.reference_set.Goals as goal

pub returns-clause-set : goal.returns-clause-set
returns-clause-set g c o pps =
    let lsb = signed_lsb c.max_pic_order_cnt_lsb.result c.args.sps.now.log2_max_pic_order_cnt_lsb_minus4
    c.args.sps.now.order_count_bits c.max_pic_order_cnt_lsb.ensures.value in
    let derived =
    c.derive_into.ensures.derives (head_of c.args.head.now) (slice_of o c.args.slice.now c.args.sps.now pps)
    (refers c.args.head.now)
    (rw c.header-header.ensures
    (has_members o c.args.slice.now c.args.sps.now pps c.short_term_set-set.result.now _
    (rw c.header-header.ensures at c.short_term_set-set.ensures) lsb)) in
    derived.derives.set

pub returns-clause-marks : goal.returns-clause-marks
returns-clause-marks g c o pps =
    let lsb = signed_lsb c.max_pic_order_cnt_lsb.result c.args.sps.now.log2_max_pic_order_cnt_lsb_minus4
    c.args.sps.now.order_count_bits c.max_pic_order_cnt_lsb.ensures.value in
    let derived =
    c.derive_into.ensures.derives (head_of c.args.head.now) (slice_of o c.args.slice.now c.args.sps.now pps)
    (refers c.args.head.now)
    (rw c.header-header.ensures
    (has_members o c.args.slice.now c.args.sps.now pps c.short_term_set-set.result.now _
    (rw c.header-header.ensures at c.short_term_set-set.ensures) lsb)) in
    derived.derives.marks

pub returns-clause-named : goal.returns-clause-named
returns-clause-named g c n h =
    let lsb = signed_lsb c.max_pic_order_cnt_lsb.result c.args.sps.now.log2_max_pic_order_cnt_lsb_minus4
    c.args.sps.now.order_count_bits c.max_pic_order_cnt_lsb.ensures.value in
    let derived =
    c.derive_into.ensures.derives (head_of c.args.head.now)
    (any_slice default_options c.args.slice.now c.args.sps.now default_pps) (refers c.args.head.now)
    (rw c.header-header.ensures
    (any_members default_options c.args.slice.now c.args.sps.now default_pps c.short_term_set-set.result.now
    _ (rw c.header-header.ensures at c.short_term_set-set.ensures) lsb)) in
    derived.members.named n h

pub returns-clause-nothing : goal.returns-clause-nothing
returns-clause-nothing g c n begins =
    let lsb = signed_lsb c.max_pic_order_cnt_lsb.result c.args.sps.now.log2_max_pic_order_cnt_lsb_minus4
    c.args.sps.now.order_count_bits c.max_pic_order_cnt_lsb.ensures.value in
    let derived =
    c.derive_into.ensures.derives (head_of c.args.head.now)
    (any_slice default_options c.args.slice.now c.args.sps.now default_pps) (refers c.args.head.now)
    (rw c.header-header.ensures
    (any_members default_options c.args.slice.now c.args.sps.now default_pps c.short_term_set-set.result.now
    _ (rw c.header-header.ensures at c.short_term_set-set.ensures) lsb)) in
    ap (λ s. names n (all_members s)) derived.derives.set
    ∙ names_nothing (head_of c.args.head.now)
    (any_slice default_options c.args.slice.now c.args.sps.now default_pps) (buffer_of c.args.dpb.now) n begins
