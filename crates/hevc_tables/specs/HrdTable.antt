-- HRD parameters (E.2.2, table 3), and those of a sub-layer (E.2.3, table 4). Each part fills in
-- its elements of a structure; those that are absent stay.
use Rattle.std.specs.Prelude.{ℕ, ◌+◌, Bool, true, false, slice_set, ◌||◌, not}
use Rattle.hevc_spec.specs.Table.{Table, done, ◌>>=◌}
use Rattle.hevc_spec.specs.Rows.{row, flag_row, bits_row, ue_row, when, repeat}
use Rattle.hevc_records.specs.SublayerHrdParameters.{PlainSublayerHrdParameters}
use Rattle.hevc_records.specs.SublayerHrdParameters.{default_sublayer_hrd_parameters}
use Rattle.hevc_records.specs.HrdParams.{PlainHrdParams, default_hrd_params}

-- ---- table 4

-- rows 1 to 3 of schedule i
unfoldable pub schedule : Bool → ℕ → PlainSublayerHrdParameters → Table PlainSublayerHrdParameters
schedule sub_pic_hrd_params_present_flag i hrd = do
  let hrd = record hrd {
    bit_rate_value_minus1 = slice_set hrd.bit_rate_value_minus1 i (← ue_row (row 4 1) 0 2147483647);
  }
  let hrd = record hrd {
    cpb_size_value_minus1 = slice_set hrd.cpb_size_value_minus1 i (← ue_row (row 4 1) 0 2147483647);
  }
  let hrd = record hrd {
    cpb_size_du_value_minus1 =
        slice_set hrd.cpb_size_du_value_minus1 i
        (← when sub_pic_hrd_params_present_flag 0 (ue_row (row 4 2) 0 2147483647));
  }
  let hrd = record hrd {
    bit_rate_du_value_minus1 =
        slice_set hrd.bit_rate_du_value_minus1 i
        (← when sub_pic_hrd_params_present_flag 0 (ue_row (row 4 2) 0 2147483647));
  }
  let hrd = record hrd { cbr_flag = slice_set hrd.cbr_flag i (← flag_row (row 4 3)) }
  done hrd

-- table 4 (E.2.3): rows 1 to 3 for each i from 0 to CpbCnt - 1, which is cpb_cnt_minus1 (E.3.3)
unfoldable pub sub_layer_hrd_parameters : Bool → ℕ → Table PlainSublayerHrdParameters
sub_layer_hrd_parameters sub_pic_hrd_params_present_flag cpb_cnt_minus1 =
    repeat (schedule sub_pic_hrd_params_present_flag) 0 (cpb_cnt_minus1 + 1)
    default_sublayer_hrd_parameters

-- ---- table 3: what all sub-layers have in common

-- rows 3 to 6: the ticks of decoding units, and the lengths of their delays
unfoldable pub decoding_units : PlainHrdParams → Table PlainHrdParams
decoding_units hrd = do
  let hrd = record hrd { tick_divisor_minus2 = (← bits_row (row 3 3) 8 0 255) }
  let hrd = record hrd {
    du_cpb_removal_delay_increment_length_minus1 = (← bits_row (row 3 4) 5 0 31);
  }
  let hrd = record hrd { sub_pic_cpb_params_in_pic_timing_sei_flag = (← flag_row (row 3 5)) }
  let hrd = record hrd { dpb_output_delay_du_length_minus1 = (← bits_row (row 3 6) 5 0 31) }
  done hrd

-- rows 7 to 9: the scales of bit rates and buffer sizes, and the lengths of delays
unfoldable pub scales : PlainHrdParams → Table PlainHrdParams
scales hrd = do
  let hrd = record hrd { bit_rate_scale = (← bits_row (row 3 7) 4 0 15) }
  let hrd = record hrd { cpb_size_scale = (← bits_row (row 3 7) 4 0 15) }
  let hrd = record hrd {
    cpb_size_du_scale = (← when hrd.sub_pic_hrd_params_present_flag 0 (bits_row (row 3 8) 4 0 15));
  }
  let hrd = record hrd { initial_cpb_removal_delay_length_minus1 = (← bits_row (row 3 9) 5 0 31) }
  let hrd = record hrd { au_cpb_removal_delay_length_minus1 = (← bits_row (row 3 9) 5 0 31) }
  let hrd = record hrd { dpb_output_delay_length_minus1 = (← bits_row (row 3 9) 5 0 31) }
  done hrd

-- rows 2 to 9
unfoldable pub buffering : PlainHrdParams → Table PlainHrdParams
buffering hrd = do
  let hrd = record hrd { sub_pic_hrd_params_present_flag = (← flag_row (row 3 2)) }
  hrd ← when hrd.sub_pic_hrd_params_present_flag hrd (decoding_units hrd)
  scales hrd

-- rows 1 to 9: rows 2 to 9 are there if one of the flags of row 1 is set
unfoldable pub common_parameters : PlainHrdParams → Table PlainHrdParams
common_parameters hrd = do
  let hrd = record hrd { nal_hrd_parameters_present_flag = (← flag_row (row 3 1)) }
  let hrd = record hrd { vcl_hrd_parameters_present_flag = (← flag_row (row 3 1)) }
  when (hrd.nal_hrd_parameters_present_flag || hrd.vcl_hrd_parameters_present_flag) hrd
      (buffering hrd)

-- what the structure before has in common for its sub-layers, with nothing said of them
unfoldable pub common_of : PlainHrdParams → PlainHrdParams
common_of before = record before {
  fixed_pic_rate_general_flag = default_hrd_params.fixed_pic_rate_general_flag;
  fixed_pic_rate_within_cvs_flag = default_hrd_params.fixed_pic_rate_within_cvs_flag;
  elemental_duration_in_tc_minus1 = default_hrd_params.elemental_duration_in_tc_minus1;
  low_delay_hrd_flag = default_hrd_params.low_delay_hrd_flag;
  cpb_cnt_minus1 = default_hrd_params.cpb_cnt_minus1;
  nal_hrd = default_hrd_params.nal_hrd;
  vcl_hrd = default_hrd_params.vcl_hrd;
}

-- ---- table 3: each sub-layer

-- rows 10 to 16 of sub-layer i; fixed_pic_rate_within_cvs_flag is set where
-- fixed_pic_rate_general_flag is (E.3.2)
unfoldable pub sub_layer : ℕ → PlainHrdParams → Table PlainHrdParams
sub_layer i hrd = do
  fixed ← flag_row (row 3 10)
  within ← when (not fixed) true (flag_row (row 3 11))
  duration ← when within 0 (ue_row (row 3 12) 0 2047)
  low_delay ← when (not within) false (flag_row (row 3 13))
  count ← when (not low_delay) 0 (ue_row (row 3 14) 0 31)
  nal ← when hrd.nal_hrd_parameters_present_flag default_sublayer_hrd_parameters
      (sub_layer_hrd_parameters hrd.sub_pic_hrd_params_present_flag count)
  vcl ← when hrd.vcl_hrd_parameters_present_flag default_sublayer_hrd_parameters
      (sub_layer_hrd_parameters hrd.sub_pic_hrd_params_present_flag count)
  done (record hrd {
    fixed_pic_rate_general_flag = slice_set hrd.fixed_pic_rate_general_flag i fixed;
    fixed_pic_rate_within_cvs_flag = slice_set hrd.fixed_pic_rate_within_cvs_flag i within;
    elemental_duration_in_tc_minus1 = slice_set hrd.elemental_duration_in_tc_minus1 i duration;
    low_delay_hrd_flag = slice_set hrd.low_delay_hrd_flag i low_delay;
    cpb_cnt_minus1 = slice_set hrd.cpb_cnt_minus1 i count;
    nal_hrd = slice_set hrd.nal_hrd i nal;
    vcl_hrd = slice_set hrd.vcl_hrd i vcl;
  })

-- rows 10 to 16 (E.2.2) for each sub-layer from 0 to maxNumSubLayersMinus1
unfoldable pub sub_layers : ℕ → PlainHrdParams → Table PlainHrdParams
sub_layers max_sub_layers_minus1 hrd = repeat sub_layer 0 (max_sub_layers_minus1 + 1) hrd

-- Table 3 (E.2.2). Without commonInfPresentFlag rows 1 to 9 are absent, and their elements are
-- those of the structure before (E.3.2).
unfoldable pub hrd_parameters : Bool → ℕ → PlainHrdParams → Table PlainHrdParams
hrd_parameters common_inf_present_flag max_sub_layers_minus1 before = do
  hrd ← when common_inf_present_flag (common_of before) (common_parameters default_hrd_params)
  sub_layers max_sub_layers_minus1 hrd
