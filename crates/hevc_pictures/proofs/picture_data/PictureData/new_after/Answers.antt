use Rattle.std.proofs.Common.{◌≡◌, ℕ, ℤ, pos, ◌-ℤ◌, ◌&&◌, ◌||◌, not, to_z, of_z, w32, refl, ap, sym, subst, ◌∙◌, arith}
use Rattle.std.specs.Prelude.{IsErr}
use Rattle.hevc_spec.specs.UnitTypes.{is_cra, is_irap, is_rasl}
use Rattle.std.proofs.lemmas.Int.{ints, to_z-of_z}
use Rattle.hevc_bits.specs.NaluType.{nalu_type_number}
use Rattle.hevc_pictures.proofs.NewPictureLaws.{no_rasl_is, begins_is, output_is, discards_is}
use Rattle.hevc_pictures.proofs.NewPictureLaws.{valid_is, count_is, range_is, head_count}
use Rattle.hevc_pictures.proofs.NewPictureLaws.{head_starts, head_type, head_lsb}
use Rattle.hevc_pictures.proofs.picture_data.PictureData.new_after.Goals as goal

pub returns-clause-told : goal.returns-clause-told
returns-clause-told c con s k f =
    let prev = c.args.prev_tid0_count in
    let t : ℕ = nalu_type_number c.nalu_type-nalu_type.result in
    let is_t : t ≡ s.nal_unit_type = c.nalu_type-nalu_type.ensures
    ∙ ap (λ h. h.nal_unit_type) c.header-unit.ensures.value
    ∙ ap (λ u. u.header.nal_unit_type) c.nalu.ensures ∙ f.nal_unit_type in
    let small : to_z w32 c.header-header.result.now.pic_order_cnt_lsb
    ≡ pos c.header-header.result.now.pic_order_cnt_lsb = omega (arith, ints) in
    let lsb : to_z w32 c.header-header.result.now.pic_order_cnt_lsb ≡ pos s.pic_order_cnt_lsb =
    small ∙ ap pos (ap (λ h. h.pic_order_cnt_lsb) c.header-header.ensures ∙ f.pic_order_cnt_lsb) in
    let modulus : to_z w32 (of_z w32 c.args.max_pic_order_cnt_lsb) ≡ pos s.max_pic_order_cnt_lsb =
    to_z-of_z w32 c.args.max_pic_order_cnt_lsb c.ranges.max_pic_order_cnt_lsb ∙ f.max_pic_order_cnt_lsb in
    let val : to_z w32 (of_z w32 c.in_ok-count.count.val) ≡ c.in_ok-count.count.val = omega (arith, ints) in
    let msb : to_z w32 (of_z w32 c.in_ok-count.count.msb) ≡ c.in_ok-count.count.msb = omega (arith, ints) in
    let r = c.no_rasl_output-no_rasl_output_flag.result in
    let b = c.begins_sequence-begins_sequence.result in
    let is_r = no_rasl_is con s _ _ _ c.args.slice.now _ _ k f t is_t r c.no_rasl_output-no_rasl_output_flag.ensures in
    let is_b = begins_is con s _ _ _ c.args.slice.now _ _ k f t is_t b r
    c.begins_sequence-begins_sequence.ensures is_r in
    let count = c.in_ok-count.ensures.val s.max_pic_order_cnt_lsb s.pic_order_cnt_lsb modulus lsb
    ∙ count_is con s _ _ prev c.args.slice.now _ _ k f t is_t b is_b in
    record {
      told = record {
        nal_unit_type = is_t ∙ sym (head_type con s);
        pic_order_cnt_lsb = lsb ∙ ap pos (sym (head_lsb con s));
        order_count = val ∙ count ∙ sym (head_count con s);
        valid_for_prev_tid0 =
            valid_is con s _ _ _ c.args.slice.now _ _ k f t is_t c.is_valid_for_prev_tid0.result
            (λ temporal_id e. c.is_valid_for_prev_tid0.ensures temporal_id
            (c.temporal_id_plus1.ensures.value
            ∙ ap (λ h. h.nuh_temporal_id_plus1) c.header-unit.ensures.value
            ∙ ap (λ u. u.header.nuh_temporal_id_plus1) c.nalu.ensures ∙ e));
        starts_sequence = begins_is con s _ _ _ c.args.slice.now _ _ k f t is_t (c.is_irap.result && r) r
            (ap (λ x. x && r) c.is_irap.ensures) is_r ∙ sym (head_starts con s);
        pic_output_flag = output_is con s _ _ _ c.args.slice.now _ _ k f t is_t c.is_output.result r
            (c.is_output.ensures ∙ ap (λ h. h.pic_output_flag && not (is_rasl t && r)) c.header-header.ensures) is_r;
        no_output_of_prior_pics =
            discards_is con s _ _ _ c.args.slice.now _ _ k f t is_t c.discards_prior.result b
            (c.discards_prior.ensures
            ∙ ap (λ h. b && not c.args.first_picture_in_bitstream &&
            (is_cra t || h.no_output_of_prior_pics_flag)) c.header-header.ensures) is_b;
      };
      no_rasl_output_flag = is_r;
      is_irap_picture = c.is_irap.ensures ∙ ap is_irap is_t;
      pic_order_cnt_msb = msb ∙ c.in_ok-count.ensures.msb
          ∙ ap (λ (x : ℤ). x -ℤ to_z w32 c.header-header.result.now.pic_order_cnt_lsb) (sym val);
      first_picture_after_eos = sym k.first_after_end;
      short_term_ref_pic_set_size_bits = ap (λ h. h.st_rps_bits) c.header-header.ensures;
      pic_latency_cnt = c.default-picture.ensures.1.1.1.1.1.1.1.1.1.1.0;
      needed_for_output = c.default-picture.ensures.1.1.1.1.1.1.1.1.1.1.1.0;
      reference = c.default-picture.ensures.1.1.1.1.1.1.1.1.1.1.1.1.1;
    }

pub returns-in_err-count-clause-refused : goal.returns-in_err-count-clause-refused
returns-in_err-count-clause-refused c con s k f =
    let prev = c.args.prev_tid0_count in
    let t : ℕ = nalu_type_number c.nalu_type-nalu_type.result in
    let is_t : t ≡ s.nal_unit_type = c.nalu_type-nalu_type.ensures
    ∙ ap (λ h. h.nal_unit_type) c.header-unit.ensures.value
    ∙ ap (λ u. u.header.nal_unit_type) c.nalu.ensures ∙ f.nal_unit_type in
    let small : to_z w32 c.header-header.result.now.pic_order_cnt_lsb
    ≡ pos c.header-header.result.now.pic_order_cnt_lsb = omega (arith, ints) in
    let lsb : to_z w32 c.header-header.result.now.pic_order_cnt_lsb ≡ pos s.pic_order_cnt_lsb =
    small ∙ ap pos (ap (λ h. h.pic_order_cnt_lsb) c.header-header.ensures ∙ f.pic_order_cnt_lsb) in
    let modulus : to_z w32 (of_z w32 c.args.max_pic_order_cnt_lsb) ≡ pos s.max_pic_order_cnt_lsb =
    to_z-of_z w32 c.args.max_pic_order_cnt_lsb c.ranges.max_pic_order_cnt_lsb ∙ f.max_pic_order_cnt_lsb in
    let r = c.no_rasl_output-no_rasl_output_flag.result in
    let b = c.begins_sequence-begins_sequence.result in
    let is_r = no_rasl_is con s _ _ _ c.args.slice.now _ _ k f t is_t r c.no_rasl_output-no_rasl_output_flag.ensures in
    let is_b = begins_is con s _ _ _ c.args.slice.now _ _ k f t is_t b r
    c.begins_sequence-begins_sequence.ensures is_r in
    let range = range_is con s _ _ prev c.args.slice.now _ _ k f t is_t _
    (count_is con s _ _ prev c.args.slice.now _ _ k f t is_t b is_b) in (
      λ e. sym range
          ∙ (c.order_count.ensures.refused s.max_pic_order_cnt_lsb s.pic_order_cnt_lsb modulus lsb).0
          (subst IsErr (sym c.in_err-count.was) refl),
      λ e. c.from_residual.ensures.0,
    )

pub returns-clause-refused : goal.returns-clause-refused
returns-clause-refused c con s k f =
    let prev = c.args.prev_tid0_count in
    let t : ℕ = nalu_type_number c.nalu_type-nalu_type.result in
    let is_t : t ≡ s.nal_unit_type = c.nalu_type-nalu_type.ensures
    ∙ ap (λ h. h.nal_unit_type) c.header-unit.ensures.value
    ∙ ap (λ u. u.header.nal_unit_type) c.nalu.ensures ∙ f.nal_unit_type in
    let small : to_z w32 c.header-header.result.now.pic_order_cnt_lsb
    ≡ pos c.header-header.result.now.pic_order_cnt_lsb = omega (arith, ints) in
    let lsb : to_z w32 c.header-header.result.now.pic_order_cnt_lsb ≡ pos s.pic_order_cnt_lsb =
    small ∙ ap pos (ap (λ h. h.pic_order_cnt_lsb) c.header-header.ensures ∙ f.pic_order_cnt_lsb) in
    let modulus : to_z w32 (of_z w32 c.args.max_pic_order_cnt_lsb) ≡ pos s.max_pic_order_cnt_lsb =
    to_z-of_z w32 c.args.max_pic_order_cnt_lsb c.ranges.max_pic_order_cnt_lsb ∙ f.max_pic_order_cnt_lsb in
    let r = c.no_rasl_output-no_rasl_output_flag.result in
    let b = c.begins_sequence-begins_sequence.result in
    let is_r = no_rasl_is con s _ _ _ c.args.slice.now _ _ k f t is_t r c.no_rasl_output-no_rasl_output_flag.ensures in
    let is_b = begins_is con s _ _ _ c.args.slice.now _ _ k f t is_t b r
    c.begins_sequence-begins_sequence.ensures is_r in
    let range = range_is con s _ _ prev c.args.slice.now _ _ k f t is_t _
    (count_is con s _ _ prev c.args.slice.now _ _ k f t is_t b is_b) in (
      λ e. absurd (cc e),
      λ out. subst IsErr c.in_ok-count.was
          ((c.order_count.ensures.refused s.max_pic_order_cnt_lsb s.pic_order_cnt_lsb modulus lsb).1 (range ∙ out)),
    )
