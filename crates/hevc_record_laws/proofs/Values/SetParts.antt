-- What several sets share, as values of their fields.
use Rattle.hevc_set_parts.specs.Level.{level_number}
use Rattle.hevc_record_laws.specs.Values.{IsItsValues}
use Rattle.hevc_set_parts.specs.ProfileTierLevel.{plain_profile_tier_level}
use Rattle.hevc_set_parts.specs.contracts.profile_tier_level.ProfileTierLevel as profile_tier_level_record
use Rattle.hevc_set_parts.specs.ScalingLists.{plain_scaling_lists}
use Rattle.hevc_set_parts.specs.contracts.scaling_lists.ScalingLists as scaling_lists_record
use Rattle.hevc_set_parts.specs.ShortTermRefPicSet.{plain_short_term_ref_pic_set}
use Rattle.hevc_set_parts.specs.contracts.short_term_ref_pic_set.ShortTermRefPicSet as short_term_ref_pic_set_record
use Rattle.hevc_set_parts.specs.PpsRangeExtension.{plain_pps_range_extension}
use Rattle.hevc_set_parts.specs.contracts.pps_range_extension.PpsRangeExtension as pps_range_extension_record
use Rattle.hevc_set_parts.specs.PpsSccExtension.{plain_pps_scc_extension}
use Rattle.hevc_set_parts.specs.contracts.pps_scc_extension.PpsSccExtension as pps_scc_extension_record
use Rattle.hevc_set_parts.specs.RefPicListModification.{plain_ref_pic_list_modification}
use Rattle.hevc_set_parts.specs.contracts.ref_pic_list_modification.RefPicListModification as ref_pic_list_modification_record
use Rattle.hevc_record_laws.proofs.Values.Common.{◌⨾◌, same, level, mapped}

pub profile_tier_level : IsItsValues plain_profile_tier_level
profile_tier_level x y e = same profile_tier_level_record.the_type x y (λ i.
    (e i).general_profile_space
    ⨾ (e i).general_tier_flag
    ⨾ (e i).general_profile_idc
    ⨾ (e i).general_profile_compatibility_flag
    ⨾ (e i).general_progressive_source_flag
    ⨾ (e i).general_interlaced_source_flag
    ⨾ (e i).general_non_packed_constraint_flag
    ⨾ (e i).general_frame_only_constraint_flag
    ⨾ (e i).general_max_12bit_constraint_flag
    ⨾ (e i).general_max_10bit_constraint_flag
    ⨾ (e i).general_max_8bit_constraint_flag
    ⨾ (e i).general_max_422chroma_constraint_flag
    ⨾ (e i).general_max_420chroma_constraint_flag
    ⨾ (e i).general_max_monochrome_constraint_flag
    ⨾ (e i).general_intra_constraint_flag
    ⨾ (e i).general_one_picture_only_constraint_flag
    ⨾ (e i).general_lower_bit_rate_constraint_flag
    ⨾ (e i).general_max_14bit_constraint_flag
    ⨾ (e i).general_inbld_flag
    ⨾ level x.general_level_idc y.general_level_idc (λ j. (e j).general_level_idc) i
    ⨾ (e i).sub_layer_profile_present_flag
    ⨾ (e i).sub_layer_level_present_flag
    ⨾ (e i).sub_layer_profile_space
    ⨾ (e i).sub_layer_tier_flag
    ⨾ (e i).sub_layer_profile_idc
    ⨾ (e i).sub_layer_profile_compatibility_flag
    ⨾ (e i).sub_layer_progressive_source_flag
    ⨾ (e i).sub_layer_interlaced_source_flag
    ⨾ (e i).sub_layer_non_packed_constraint_flag
    ⨾ (e i).sub_layer_frame_only_constraint_flag
    ⨾ (e i).sub_layer_max_12bit_constraint_flag
    ⨾ (e i).sub_layer_max_10bit_constraint_flag
    ⨾ (e i).sub_layer_max_8bit_constraint_flag
    ⨾ (e i).sub_layer_max_422chroma_constraint_flag
    ⨾ (e i).sub_layer_max_420chroma_constraint_flag
    ⨾ (e i).sub_layer_max_monochrome_constraint_flag
    ⨾ (e i).sub_layer_intra_constraint_flag
    ⨾ (e i).sub_layer_one_picture_only_constraint_flag
    ⨾ (e i).sub_layer_lower_bit_rate_constraint_flag
    ⨾ (e i).sub_layer_max_14bit_constraint_flag
    ⨾ (e i).sub_layer_inbld_flag
    ⨾ mapped level_number level x.sub_layer_level_idc y.sub_layer_level_idc (λ j. (e j).sub_layer_level_idc) i
    ⨾ tt)

pub scaling_lists : IsItsValues plain_scaling_lists
scaling_lists x y e = same scaling_lists_record.the_type x y (λ i.
    (e i).scaling_list_dc_coef_minus8_16x16
    ⨾ (e i).scaling_list_dc_coef_minus8_32x32
    ⨾ (e i).scaling_list_4x4
    ⨾ (e i).scaling_list_8x8
    ⨾ (e i).scaling_list_16x16
    ⨾ (e i).scaling_list_32x32
    ⨾ tt)

pub short_term_ref_pic_set : IsItsValues plain_short_term_ref_pic_set
short_term_ref_pic_set x y e = same short_term_ref_pic_set_record.the_type x y (λ i.
    (e i).inter_ref_pic_set_prediction_flag
    ⨾ (e i).delta_idx_minus1
    ⨾ (e i).delta_rps_sign
    ⨾ (e i).abs_delta_rps_minus1
    ⨾ (e i).num_negative_pics
    ⨾ (e i).num_positive_pics
    ⨾ (e i).delta_poc_s0
    ⨾ (e i).used_by_curr_pic_s0
    ⨾ (e i).delta_poc_s1
    ⨾ (e i).used_by_curr_pic_s1
    ⨾ (e i).num_delta_pocs
    ⨾ tt)

pub pps_range_extension : IsItsValues plain_pps_range_extension
pps_range_extension x y e = same pps_range_extension_record.the_type x y (λ i.
    (e i).log2_max_transform_skip_block_size_minus2
    ⨾ (e i).cross_component_prediction_enabled_flag
    ⨾ (e i).chroma_qp_offset_list_enabled_flag
    ⨾ (e i).diff_cu_chroma_qp_offset_depth
    ⨾ (e i).chroma_qp_offset_list_len_minus1
    ⨾ (e i).cb_qp_offset_list
    ⨾ (e i).cr_qp_offset_list
    ⨾ (e i).log2_sao_offset_scale_luma
    ⨾ (e i).log2_sao_offset_scale_chroma
    ⨾ tt)

pub pps_scc_extension : IsItsValues plain_pps_scc_extension
pps_scc_extension x y e = same pps_scc_extension_record.the_type x y (λ i.
    (e i).curr_pic_ref_enabled_flag
    ⨾ (e i).residual_adaptive_colour_transform_enabled_flag
    ⨾ (e i).slice_act_qp_offsets_present_flag
    ⨾ (e i).act_y_qp_offset_plus5
    ⨾ (e i).act_cb_qp_offset_plus5
    ⨾ (e i).act_cr_qp_offset_plus3
    ⨾ (e i).palette_predictor_initializers_present_flag
    ⨾ (e i).num_palette_predictor_initializers
    ⨾ (e i).monochrome_palette_flag
    ⨾ (e i).luma_bit_depth_entry_minus8
    ⨾ (e i).chroma_bit_depth_entry_minus8
    ⨾ (e i).palette_predictor_initializer
    ⨾ tt)

pub ref_pic_list_modification : IsItsValues plain_ref_pic_list_modification
ref_pic_list_modification x y e = same ref_pic_list_modification_record.the_type x y (λ i.
    record { items = (e i).list_entry_l0 }
    ⨾ record { items = (e i).list_entry_l1 }
    ⨾ (e i).ref_pic_list_modification_flag_l0
    ⨾ (e i).ref_pic_list_modification_flag_l1
    ⨾ tt)
