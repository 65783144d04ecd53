use Rattle.std.proofs.Common.{◌&&◌, refl, ap, sym, ◌∙◌, Ok}
use Rattle.hevc_records.specs.Pps.{default_pps}
use Rattle.hevc_spec.specs.UnitTypes.{is_rasl}
use Rattle.hevc_backend.proofs.HandedLaws.{is_first_picture}
use Rattle.hevc_backend.specs.Negotiation.{format_of}
use Rattle.hevc_driver.specs.Heads.{context_of}
use Rattle.hevc_options.specs.Options.{options_of}
use Rattle.hevc_driver.specs.Slices.{slice_of}
use Rattle.hevc_driver.proofs.HeadViews.{same_head, prior_starts, not_refused, refused_as, from_lsb}
use Rattle.hevc_driver.proofs.SliceViews.{is_first_slice, any_first_slice, any_slice, signed_lsb}
use Rattle.hevc_driver.proofs.SliceViews.{slice_type, slice_format, slice_limits}
use Rattle.hevc_driver.proofs.beginning.head_of_first.Goals as goal

pub returns-in_err-picture-clause-outside : goal.returns-in_err-picture-clause-outside
returns-in_err-picture-clause-outside c pps =
    let lsb = signed_lsb c.max_pic_order_cnt_lsb.result c.args.sps.now.log2_max_pic_order_cnt_lsb_minus4
    c.args.sps.now.order_count_bits c.max_pic_order_cnt_lsb.ensures.value in
    refused_as _ _ c.from_residual.result _ c.in_err-picture.was
    (c.new_after.ensures.refused (context_of c.args.next.now)
    (slice_of c.args.options c.args.slice.now c.args.sps.now pps) (record {
      first_in_bitstream = refl;
      first_after_end = refl;
      prev_tid0_count = refl;
    })
    (is_first_slice c.args.options c.args.slice.now c.args.sps.now pps _
    (rw c.nalu.ensures at (c.header.ensures.parsed ∙ ap Ok c.header.ensures.value)) lsb)).0

pub returns-clause-within : goal.returns-clause-within
returns-clause-within c pps =
    let lsb = signed_lsb c.max_pic_order_cnt_lsb.result c.args.sps.now.log2_max_pic_order_cnt_lsb_minus4
    c.args.sps.now.order_count_bits c.max_pic_order_cnt_lsb.ensures.value in
    not_refused _ c.in_ok-picture.picture _ c.in_ok-picture.was
    (c.new_after.ensures.refused (context_of c.args.next.now)
    (slice_of c.args.options c.args.slice.now c.args.sps.now pps) (record {
      first_in_bitstream = refl;
      first_after_end = refl;
      prev_tid0_count = refl;
    })
    (is_first_slice c.args.options c.args.slice.now c.args.sps.now pps _
    (rw c.nalu.ensures at (c.header.ensures.parsed ∙ ap Ok c.header.ensures.value)) lsb)).1

pub invariant_of-result : goal.invariant_of-result
invariant_of-result c =
    let lsb = signed_lsb c.max_pic_order_cnt_lsb.result c.args.sps.now.log2_max_pic_order_cnt_lsb_minus4
    c.args.sps.now.order_count_bits c.max_pic_order_cnt_lsb.ensures.value in
    let w = any_slice (options_of c.args.options) c.args.slice.now c.args.sps.now default_pps in
    let told = c.in_ok-picture.ensures.told (context_of c.args.next.now) w (record {
      first_in_bitstream = refl;
      first_after_end = refl;
      prev_tid0_count = refl;
    })
    (any_first_slice (options_of c.args.options) c.args.slice.now c.args.sps.now default_pps _
    (rw c.nalu.ensures at (c.header.ensures.parsed ∙ ap Ok c.header.ensures.value)) lsb) in
    record {
      lsb = from_lsb _ _ told.told.pic_order_cnt_lsb;
      prior = prior_starts (context_of c.args.next.now) w _ _ told.told.no_output_of_prior_pics
          told.told.starts_sequence;
    }

pub returns-clause-picture : goal.returns-clause-picture
returns-clause-picture c pps =
    let lsb = signed_lsb c.max_pic_order_cnt_lsb.result c.args.sps.now.log2_max_pic_order_cnt_lsb_minus4
    c.args.sps.now.order_count_bits c.max_pic_order_cnt_lsb.ensures.value in
    let w = slice_of c.args.options c.args.slice.now c.args.sps.now pps in
    is_first_picture _ w _ c.in_ok-picture.picture
    (c.in_ok-picture.ensures.told (context_of c.args.next.now) w (record {
      first_in_bitstream = refl;
      first_after_end = refl;
      prev_tid0_count = refl;
    })
    (is_first_slice c.args.options c.args.slice.now c.args.sps.now pps _
    (rw c.nalu.ensures at (c.header.ensures.parsed ∙ ap Ok c.header.ensures.value)) lsb))

pub returns-clause-head : goal.returns-clause-head
returns-clause-head c pps =
    let lsb = signed_lsb c.max_pic_order_cnt_lsb.result c.args.sps.now.log2_max_pic_order_cnt_lsb_minus4
    c.args.sps.now.order_count_bits c.max_pic_order_cnt_lsb.ensures.value in
    let w = slice_of c.args.options c.args.slice.now c.args.sps.now pps in
    let told = c.in_ok-picture.ensures.told (context_of c.args.next.now) w (record {
      first_in_bitstream = refl;
      first_after_end = refl;
      prev_tid0_count = refl;
    })
    (is_first_slice c.args.options c.args.slice.now c.args.sps.now pps _
    (rw c.nalu.ensures at (c.header.ensures.parsed ∙ ap Ok c.header.ensures.value)) lsb) in
    let type_is = c.nalu_type-nalu_type.ensures ∙ ap (λ h. h.nal_unit_type) c.header.ensures.value
    ∙ ap (λ u. u.header.nal_unit_type) c.nalu.ensures
    ∙ sym (slice_type c.args.options c.args.slice.now c.args.sps.now pps) in
    same_head (context_of c.args.next.now) w _ _ c.in_ok-picture.picture _ _ _ _ told refl
    (c.is_skipped.ensures ∙ ap (λ t. is_rasl t && c.args.next.now.latest_irap_no_rasl) type_is)
    c.latest_irap_no_rasl.ensures
    (ap format_of c.into.ensures ∙ sym (slice_format c.args.options c.args.slice.now c.args.sps.now pps))
    (c.of.ensures ∙ sym (slice_limits c.args.options c.args.slice.now c.args.sps.now pps))
