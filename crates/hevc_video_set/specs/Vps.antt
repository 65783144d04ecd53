use Rattle.std.specs.Prelude.{map}
use Rattle.hevc_records.specs.Vps.{PlainVps}
use Rattle.hevc_video_set.specs.declared.vps.Vps.{Vps}
use Rattle.hevc_video_set.specs.HrdParams.{plain_hrd_params}
use Rattle.hevc_set_parts.specs.ProfileTierLevel.{plain_profile_tier_level}

-- the values of its fields
abbrev pub plain_vps : Vps → PlainVps
plain_vps r = record {
  video_parameter_set_id = r.video_parameter_set_id;
  base_layer_internal_flag = r.base_layer_internal_flag;
  base_layer_available_flag = r.base_layer_available_flag;
  max_layers_minus1 = r.max_layers_minus1;
  max_sub_layers_minus1 = r.max_sub_layers_minus1;
  temporal_id_nesting_flag = r.temporal_id_nesting_flag;
  profile_tier_level = plain_profile_tier_level r.profile_tier_level;
  sub_layer_ordering_info_present_flag = r.sub_layer_ordering_info_present_flag;
  max_dec_pic_buffering_minus1 = r.max_dec_pic_buffering_minus1;
  max_num_reorder_pics = r.max_num_reorder_pics;
  max_latency_increase_plus1 = r.max_latency_increase_plus1;
  max_layer_id = r.max_layer_id;
  num_layer_sets_minus1 = r.num_layer_sets_minus1;
  timing_info_present_flag = r.timing_info_present_flag;
  num_units_in_tick = r.num_units_in_tick;
  time_scale = r.time_scale;
  poc_proportional_to_timing_flag = r.poc_proportional_to_timing_flag;
  num_ticks_poc_diff_one_minus1 = r.num_ticks_poc_diff_one_minus1;
  num_hrd_parameters = r.num_hrd_parameters;
  hrd_layer_set_idx = r.hrd_layer_set_idx;
  cprms_present_flag = r.cprms_present_flag;
  hrd_parameters = map plain_hrd_params r.hrd_parameters;
  extension_flag = r.extension_flag;
}
