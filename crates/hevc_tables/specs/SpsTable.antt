-- Sequence parameter sets (7.3.2.2.1, table 5). Each part fills in its elements of a set, with what
-- is derived from them (7.4.3.2.1); those that are absent stay.
use Rattle.std.specs.Prelude.{ℕ, ◌+◌, ◌-◌, ◌*◌, ◌^◌, ◌==◌, min, nat_le, true, false, if◌then◌else◌}
use Rattle.std.specs.Prelude.{List, [], ◌∷◌, ◌++◌, slice_set, slice_index_or}
use Rattle.std.specs.Int.{div_ceil}
use Rattle.hevc_spec.specs.Table.{Table, done, ◌>>=◌}
use Rattle.hevc_spec.specs.Rows.{row, flag_row, zero_row, bits_row, ue_row, check_row, skip_row}
use Rattle.hevc_spec.specs.Rows.{when, either, repeat}
use Rattle.hevc_records.specs.ShortTermRefPicSet.{PlainShortTermRefPicSet}
use Rattle.hevc_records.specs.Sps.{PlainSps, default_sps}
use Rattle.hevc_records.specs.SpsSizes.{leaves_some, wp_offset_half_range}
use Rattle.hevc_tables.specs.ProfileTierLevelTable.{profile_tier_level}
use Rattle.hevc_tables.specs.ScalingListTable.{scaling_list_data}
use Rattle.hevc_tables.specs.ShortTermTable.{short_term_ref_pic_set}
use Rattle.hevc_tables.specs.VuiTable.{vui_parameters}
use Rattle.hevc_tables.specs.VpsTable.{up_to_highest}
use Rattle.hevc_tables.specs.SpsRangeExtensionTable.{sps_range_extension}
use Rattle.hevc_tables.specs.SpsSccExtensionTable.{SampleFormat, sps_scc_extension}

-- ---- rows 1 to 15

-- rows 1 to 5: the ids, the sub-layers and the profile
unfoldable pub identity : PlainSps → Table PlainSps
identity sps = do
  let sps = record sps { video_parameter_set_id = (← bits_row (row 5 1) 4 0 15) }
  let sps = record sps { max_sub_layers_minus1 = (← bits_row (row 5 2) 3 0 6) }
  let sps = record sps { temporal_id_nesting_flag = (← flag_row (row 5 3)) }
  let sps = record sps { profile_tier_level = (← profile_tier_level sps.max_sub_layers_minus1) }
  let sps = record sps { seq_parameter_set_id = (← ue_row (row 5 5) 0 15) }
  done sps

-- what follows from the size of a picture and that of its blocks
unfoldable pub with_picture_size : PlainSps → PlainSps
with_picture_size sps =
    let across = div_ceil sps.pic_width_in_luma_samples sps.ctb_size_y in
    let down = div_ceil sps.pic_height_in_luma_samples sps.ctb_size_y in
    record sps {
      pic_width_in_ctbs_y = across;
      pic_height_in_ctbs_y = down;
      pic_size_in_ctbs_y = across * down;
      pic_size_in_samples_y = sps.pic_width_in_luma_samples * sps.pic_height_in_luma_samples;
    }

-- rows 6 to 9: the chroma format, and the size in luma samples
unfoldable pub samples : PlainSps → Table PlainSps
samples sps = do
  let sps = record sps { chroma_format_idc = (← ue_row (row 5 6) 0 3) }
  let sps = record sps {
    separate_colour_plane_flag = (← when (sps.chroma_format_idc == 3) false (flag_row (row 5 7)));
  }
  let sps = record sps { pic_width_in_luma_samples = (← ue_row (row 5 8) 1 16888) }
  let sps = record sps { pic_height_in_luma_samples = (← ue_row (row 5 9) 1 16888) }
  let sps = record sps {
    chroma_array_type = if sps.separate_colour_plane_flag then 0 else sps.chroma_format_idc;
  }
  done (with_picture_size (record sps { conformance_window_flag = false }))

-- rows 11 and 12: the conformance cropping window
unfoldable pub window : PlainSps → Table PlainSps
window sps = do
  left ← ue_row (row 5 11) 0 2147483647
  right ← ue_row (row 5 11) 0 2147483647
  top ← ue_row (row 5 11) 0 2147483647
  bottom ← ue_row (row 5 11) 0 2147483647
  _ ← check_row (row 5 12)
      (leaves_some sps.chroma_array_type sps.pic_width_in_luma_samples
      sps.pic_height_in_luma_samples left right top bottom)
  done (record sps {
    conformance_window_flag = true;
    conf_win_left_offset = left;
    conf_win_right_offset = right;
    conf_win_top_offset = top;
    conf_win_bottom_offset = bottom;
  })

-- rows 10 to 12
unfoldable pub cropping : PlainSps → Table PlainSps
cropping sps = do
  cropped ← flag_row (row 5 10)
  when cropped sps (window sps)

-- what follows from the bit depths and the range extension (7.4.3.2.2)
unfoldable pub with_half_ranges : PlainSps → PlainSps
with_half_ranges sps = record sps {
  wp_offset_half_range_y =
      wp_offset_half_range sps.range_extension.high_precision_offsets_enabled_flag
      sps.bit_depth_luma_minus8;
  wp_offset_half_range_c =
      wp_offset_half_range sps.range_extension.high_precision_offsets_enabled_flag
      sps.bit_depth_chroma_minus8;
}

-- rows 13 to 15: the bit depths, and the low bits of order counts
unfoldable pub depths : PlainSps → Table PlainSps
depths sps = do
  let sps = record sps { bit_depth_luma_minus8 = (← ue_row (row 5 13) 0 6) }
  let sps = record sps { bit_depth_chroma_minus8 = (← ue_row (row 5 14) 0 6) }
  let sps = record sps { log2_max_pic_order_cnt_lsb_minus4 = (← ue_row (row 5 15) 0 12) }
  done (with_half_ranges sps)

-- ---- rows 16 to 24

-- rows 17 to 19 of sub-layer i, where each sub-layer has its own
unfoldable pub own_ordering : ℕ → PlainSps → Table PlainSps
own_ordering i sps = do
  buffering ← ue_row (row 5 17) 0 16
  reordering ← ue_row (row 5 18) 0 buffering
  latency ← ue_row (row 5 19) 0 255
  done (record sps {
    max_dec_pic_buffering_minus1 = slice_set sps.max_dec_pic_buffering_minus1 i buffering;
    max_num_reorder_pics = slice_set sps.max_num_reorder_pics i reordering;
    max_latency_increase_plus1 = slice_set sps.max_latency_increase_plus1 i latency;
  })

-- rows 17 to 19 of the highest sub-layer, which hold for all lower ones (7.4.3.2.1)
unfoldable pub common_ordering : PlainSps → Table PlainSps
common_ordering sps = do
  buffering ← ue_row (row 5 17) 0 16
  reordering ← ue_row (row 5 18) 0 buffering
  latency ← ue_row (row 5 19) 0 255
  done (record sps {
    max_dec_pic_buffering_minus1 = up_to_highest sps.max_sub_layers_minus1 buffering;
    max_num_reorder_pics = up_to_highest sps.max_sub_layers_minus1 reordering;
    max_latency_increase_plus1 = up_to_highest sps.max_sub_layers_minus1 latency;
  })

-- rows 17 to 19 of each sub-layer
unfoldable pub own_orderings : PlainSps → Table PlainSps
own_orderings sps = repeat own_ordering 0 (sps.max_sub_layers_minus1 + 1) sps

-- rows 16 to 19
unfoldable pub orderings : PlainSps → Table PlainSps
orderings sps = do
  let sps = record sps { sub_layer_ordering_info_present_flag = (← flag_row (row 5 16)) }
  either sps.sub_layer_ordering_info_present_flag (own_orderings sps) (common_ordering sps)

-- what follows from the sizes of blocks (7-10 to 7-19)
unfoldable pub with_block_sizes : PlainSps → PlainSps
with_block_sizes sps =
    let min_cb = sps.log2_min_luma_coding_block_size_minus3 + 3 in
    let ctb = min_cb + sps.log2_diff_max_min_luma_coding_block_size in
    with_picture_size (record sps {
      min_cb_log2_size_y = min_cb;
      ctb_log2_size_y = ctb;
      ctb_size_y = 2 ^ ctb;
      max_tb_log2_size_y =
          sps.log2_min_luma_transform_block_size_minus2 + 2
          + sps.log2_diff_max_min_luma_transform_block_size;
    })

-- rows 20 to 24: the sizes of blocks
unfoldable pub blocks : PlainSps → Table PlainSps
blocks sps = do
  let sps = record sps { log2_min_luma_coding_block_size_minus3 = (← ue_row (row 5 20) 0 3) }
  let sps = record sps { log2_diff_max_min_luma_coding_block_size = (← ue_row (row 5 21) 0 6) }
  let sps = record sps { log2_min_luma_transform_block_size_minus2 = (← ue_row (row 5 22) 0 3) }
  let sps = record sps { log2_diff_max_min_luma_transform_block_size = (← ue_row (row 5 23) 0 3) }
  let sps = with_block_sizes sps
  _ ← check_row (row 5 24) (nat_le sps.max_tb_log2_size_y (min sps.ctb_log2_size_y 5))
  done sps

-- ---- rows 25 to 42

-- row 29
unfoldable pub scaling_lists : PlainSps → Table PlainSps
scaling_lists sps = do
  let sps = record sps { scaling_list = (← scaling_list_data) }
  done sps

-- rows 25 to 29: how deep blocks are split, and the scaling lists, all 0 where the set has none
unfoldable pub scaling : PlainSps → Table PlainSps
scaling sps = do
  let sps = record sps { max_transform_hierarchy_depth_inter = (← ue_row (row 5 25) 0 4) }
  let sps = record sps { max_transform_hierarchy_depth_intra = (← ue_row (row 5 26) 0 4) }
  let sps = record sps { scaling_list_enabled_flag = (← flag_row (row 5 27)) }
  let sps = record sps {
    scaling_list_data_present_flag =
        (← when sps.scaling_list_enabled_flag false (flag_row (row 5 28)));
  }
  when sps.scaling_list_data_present_flag sps (scaling_lists sps)

-- rows 31 to 34: pulse code modulation
unfoldable pub pulse_code_modulation : PlainSps → Table PlainSps
pulse_code_modulation sps = do
  let sps = record sps { pcm_sample_bit_depth_luma_minus1 = (← bits_row (row 5 31) 4 0 15) }
  let sps = record sps { pcm_sample_bit_depth_chroma_minus1 = (← bits_row (row 5 31) 4 0 15) }
  let sps = record sps { log2_min_pcm_luma_coding_block_size_minus3 = (← ue_row (row 5 32) 0 2) }
  let sps = record sps { log2_diff_max_min_pcm_luma_coding_block_size = (← ue_row (row 5 33) 0 2) }
  let sps = record sps { pcm_loop_filter_disabled_flag = (← flag_row (row 5 34)) }
  done sps

-- rows 30 to 34: tools
unfoldable pub tools : PlainSps → Table PlainSps
tools sps = do
  let sps = record sps { amp_enabled_flag = (← flag_row (row 5 30)) }
  let sps = record sps { sample_adaptive_offset_enabled_flag = (← flag_row (row 5 30)) }
  let sps = record sps { pcm_enabled_flag = (← flag_row (row 5 30)) }
  when sps.pcm_enabled_flag sps (pulse_code_modulation sps)

-- sps_max_dec_pic_buffering_minus1 of the highest sub-layer
abbrev pub highest_buffering : PlainSps → ℕ
highest_buffering sps = slice_index_or sps.max_dec_pic_buffering_minus1 sps.max_sub_layers_minus1 0

-- row 36 of set i, after those before it
unfoldable pub short_term_set : ℕ → ℕ → ℕ → List PlainShortTermRefPicSet
    → Table (List PlainShortTermRefPicSet)
short_term_set count buffering i sets = do
  set ← short_term_ref_pic_set sets count buffering i
  done (sets ++ set ∷ [])

-- row 36 of so many sets
unfoldable pub short_term_sets : ℕ → ℕ → Table (List PlainShortTermRefPicSet)
short_term_sets count buffering = repeat (short_term_set count buffering) 0 count []

-- rows 35 and 36: the short-term reference picture sets
unfoldable pub short_term : PlainSps → Table PlainSps
short_term sps = do
  count ← ue_row (row 5 35) 0 64
  sets ← short_term_sets count (highest_buffering sps)
  done (record sps { num_short_term_ref_pic_sets = count; short_term_ref_pic_set = sets })

-- rows 39 and 40 of long-term picture i
unfoldable pub long_term_picture : ℕ → PlainSps → Table PlainSps
long_term_picture i sps = do
  lsb ← bits_row (row 5 39) (sps.log2_max_pic_order_cnt_lsb_minus4 + 4) 0
      (2 ^ (sps.log2_max_pic_order_cnt_lsb_minus4 + 4) - 1)
  used ← flag_row (row 5 40)
  done (record sps {
    lt_ref_pic_poc_lsb_sps = slice_set sps.lt_ref_pic_poc_lsb_sps i lsb;
    used_by_curr_pic_lt_sps_flag = slice_set sps.used_by_curr_pic_lt_sps_flag i used;
  })

-- rows 39 and 40 of each long-term picture
unfoldable pub long_term_pictures : PlainSps → Table PlainSps
long_term_pictures sps = repeat long_term_picture 0 sps.num_long_term_ref_pics_sps sps

-- rows 37 to 40: the long-term pictures that slices may name
unfoldable pub long_term : PlainSps → Table PlainSps
long_term sps = do
  let sps = record sps { long_term_ref_pics_present_flag = (← flag_row (row 5 37)) }
  let sps = record sps {
    num_long_term_ref_pics_sps =
        (← when sps.long_term_ref_pics_present_flag 0 (ue_row (row 5 38) 0 32));
  }
  long_term_pictures sps

-- row 42
unfoldable pub usability_information : PlainSps → Table PlainSps
usability_information sps = do
  let sps = record sps { vui_parameters = (← vui_parameters sps.max_sub_layers_minus1) }
  done sps

-- rows 41 and 42: more tools, and usability information
unfoldable pub usability : PlainSps → Table PlainSps
usability sps = do
  let sps = record sps { temporal_mvp_enabled_flag = (← flag_row (row 5 41)) }
  let sps = record sps { strong_intra_smoothing_enabled_flag = (← flag_row (row 5 41)) }
  let sps = record sps { vui_parameters_present_flag = (← flag_row (row 5 41)) }
  when sps.vui_parameters_present_flag sps (usability_information sps)

-- ---- rows 43 to 50: extensions, whose flags all are before the first body

-- rows 44 to 48: which extensions the set has;
-- those for several layers and for three dimensions it may not have
unfoldable pub extension_flags : PlainSps → Table PlainSps
extension_flags sps = do
  let sps = record sps { range_extension_flag = (← flag_row (row 5 44)) }
  _ ← zero_row (row 5 45)
  _ ← zero_row (row 5 46)
  let sps = record sps { scc_extension_flag = (← flag_row (row 5 47)) }
  _ ← skip_row (row 5 48) 4
  done sps

-- row 49
unfoldable pub range_extension : PlainSps → Table PlainSps
range_extension sps = do
  x ← sps_range_extension
  done (with_half_ranges (record sps { range_extension = x }))

-- the format of samples that palettes are read by
abbrev pub sample_format : PlainSps → SampleFormat
sample_format sps = record {
  chroma_format_idc = sps.chroma_format_idc;
  bit_depth_luma_minus8 = sps.bit_depth_luma_minus8;
  bit_depth_chroma_minus8 = sps.bit_depth_chroma_minus8;
}

-- row 50
unfoldable pub scc_extension : PlainSps → Table PlainSps
scc_extension sps = do
  let sps = record sps { scc_extension = (← sps_scc_extension (sample_format sps)) }
  done sps

-- rows 44 to 50
unfoldable pub extension_data : PlainSps → Table PlainSps
extension_data sps = do
  sps ← extension_flags sps
  sps ← when sps.range_extension_flag sps (range_extension sps)
  when sps.scc_extension_flag sps (scc_extension sps)

-- rows 43 to 50
unfoldable pub extensions : PlainSps → Table PlainSps
extensions sps = do
  let sps = record sps { extension_present_flag = (← flag_row (row 5 43)) }
  when sps.extension_present_flag sps (extension_data sps)

-- ---- the table

-- rows 1 to 24: the format of pictures
unfoldable pub format : PlainSps → Table PlainSps
format sps = do
  sps ← identity sps
  sps ← samples sps
  sps ← cropping sps
  sps ← depths sps
  sps ← orderings sps
  blocks sps

-- rows 25 to 50: how they are coded
unfoldable pub coding : PlainSps → Table PlainSps
coding sps = do
  sps ← scaling sps
  sps ← tools sps
  sps ← short_term sps
  sps ← long_term sps
  sps ← usability sps
  extensions sps

-- table 5 (7.3.2.2.1)
unfoldable pub sequence_parameter_set : Table PlainSps
sequence_parameter_set = do
  sps ← format default_sps
  coding sps
