-- The fields of a video parameter set.
use Rattle.std.specs.Prelude.{ℕ, [], ◌∷◌}
use Rattle.hevc_records.specs.Vps.{PlainVps}
use Rattle.hevc_events.specs.Flags.{flags_of}
use Rattle.hevc_pull.specs.declared.fields.vps.VpsFields.{VpsFields}
use Rattle.hevc_pull.specs.Fields.Profile.{fields_of_profile}

-- the first at bit 0
abbrev pub vps_flags : PlainVps → ℕ
vps_flags v =
    flags_of
    (v.base_layer_internal_flag ∷
    v.base_layer_available_flag ∷
    v.temporal_id_nesting_flag ∷
    v.sub_layer_ordering_info_present_flag ∷
    v.timing_info_present_flag ∷
    v.poc_proportional_to_timing_flag ∷
    v.extension_flag ∷ [])

-- each field has the element of its name
abbrev pub fields_of_vps : PlainVps → VpsFields
fields_of_vps v = record {
  vps_video_parameter_set_id = v.video_parameter_set_id;
  vps_max_layers_minus1 = v.max_layers_minus1;
  vps_max_sub_layers_minus1 = v.max_sub_layers_minus1;
  vps_max_layer_id = v.max_layer_id;
  profile = fields_of_profile v.profile_tier_level;
  vps_max_dec_pic_buffering_minus1 = v.max_dec_pic_buffering_minus1;
  vps_max_num_reorder_pics = v.max_num_reorder_pics;
  vps_max_latency_increase_plus1 = v.max_latency_increase_plus1;
  vps_num_layer_sets_minus1 = v.num_layer_sets_minus1;
  vps_num_units_in_tick = v.num_units_in_tick;
  vps_time_scale = v.time_scale;
  vps_num_ticks_poc_diff_one_minus1 = v.num_ticks_poc_diff_one_minus1;
  vps_num_hrd_parameters = v.num_hrd_parameters;
  flags = vps_flags v;
}
