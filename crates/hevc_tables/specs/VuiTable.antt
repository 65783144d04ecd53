-- Video usability information (E.2.1, table 8). Each part fills in its elements of a structure;
-- those that are absent stay.
use Rattle.std.specs.Prelude.{ℕ, true, false, ◌==◌}
use Rattle.hevc_spec.specs.Table.{Table, done, ◌>>=◌}
use Rattle.hevc_spec.specs.Rows.{row, flag_row, bits_row, ue_row, when}
use Rattle.hevc_records.specs.HrdParams.{default_hrd_params}
use Rattle.hevc_records.specs.VuiParams.{PlainVuiParams, default_vui_params}
use Rattle.hevc_tables.specs.HrdTable.{hrd_parameters}

-- rows 1 to 3: the sample aspect ratio; EXTENDED_SAR is 255 (Table E.1)
unfoldable pub aspect_ratio : PlainVuiParams → Table PlainVuiParams
aspect_ratio vui = do
  let vui = record vui { aspect_ratio_info_present_flag = (← flag_row (row 8 1)) }
  let vui = record vui {
    aspect_ratio_idc = (← when vui.aspect_ratio_info_present_flag 0 (bits_row (row 8 2) 8 0 255));
  }
  let vui = record vui {
    sar_width = (← when (vui.aspect_ratio_idc == 255) 0 (bits_row (row 8 3) 16 0 65535));
  }
  let vui = record vui {
    sar_height = (← when (vui.aspect_ratio_idc == 255) 0 (bits_row (row 8 3) 16 0 65535));
  }
  done vui

-- rows 4 and 5: overscan
unfoldable pub overscan : PlainVuiParams → Table PlainVuiParams
overscan vui = do
  let vui = record vui { overscan_info_present_flag = (← flag_row (row 8 4)) }
  let vui = record vui {
    overscan_appropriate_flag = (← when vui.overscan_info_present_flag false (flag_row (row 8 5)));
  }
  done vui

-- row 9: how colours are described
unfoldable pub colours : PlainVuiParams → Table PlainVuiParams
colours vui = do
  let vui = record vui { colour_primaries = (← bits_row (row 8 9) 8 0 255) }
  let vui = record vui { transfer_characteristics = (← bits_row (row 8 9) 8 0 255) }
  let vui = record vui { matrix_coeffs = (← bits_row (row 8 9) 8 0 255) }
  done vui

-- rows 7 to 9: the signal
unfoldable pub signal : PlainVuiParams → Table PlainVuiParams
signal vui = do
  let vui = record vui { video_format = (← bits_row (row 8 7) 3 0 7) }
  let vui = record vui { video_full_range_flag = (← flag_row (row 8 8)) }
  let vui = record vui { colour_description_present_flag = (← flag_row (row 8 8)) }
  when vui.colour_description_present_flag vui (colours vui)

-- rows 6 to 9: the type of the signal
unfoldable pub signal_type : PlainVuiParams → Table PlainVuiParams
signal_type vui = do
  let vui = record vui { video_signal_type_present_flag = (← flag_row (row 8 6)) }
  when vui.video_signal_type_present_flag vui (signal vui)

-- rows 10 to 12: the places of chroma samples
unfoldable pub chroma_places : PlainVuiParams → Table PlainVuiParams
chroma_places vui = do
  let vui = record vui { chroma_loc_info_present_flag = (← flag_row (row 8 10)) }
  let vui = record vui {
    chroma_sample_loc_type_top_field =
        (← when vui.chroma_loc_info_present_flag 0 (ue_row (row 8 11) 0 5));
  }
  let vui = record vui {
    chroma_sample_loc_type_bottom_field =
        (← when vui.chroma_loc_info_present_flag 0 (ue_row (row 8 12) 0 5));
  }
  done vui

-- row 14: the default display window
unfoldable pub display_window : PlainVuiParams → Table PlainVuiParams
display_window vui = do
  let vui = record vui { def_disp_win_left_offset = (← ue_row (row 8 14) 0 2147483647) }
  let vui = record vui { def_disp_win_right_offset = (← ue_row (row 8 14) 0 2147483647) }
  let vui = record vui { def_disp_win_top_offset = (← ue_row (row 8 14) 0 2147483647) }
  let vui = record vui { def_disp_win_bottom_offset = (← ue_row (row 8 14) 0 2147483647) }
  done vui

-- rows 13 and 14: fields and frames, and the window that is shown
unfoldable pub display : PlainVuiParams → Table PlainVuiParams
display vui = do
  let vui = record vui { neutral_chroma_indication_flag = (← flag_row (row 8 13)) }
  let vui = record vui { field_seq_flag = (← flag_row (row 8 13)) }
  let vui = record vui { frame_field_info_present_flag = (← flag_row (row 8 13)) }
  let vui = record vui { default_display_window_flag = (← flag_row (row 8 13)) }
  when vui.default_display_window_flag vui (display_window vui)

-- row 20, where commonInfPresentFlag is 1, so there is no structure before
unfoldable pub hrd : ℕ → PlainVuiParams → Table PlainVuiParams
hrd max_sub_layers_minus1 vui = do
  let vui = record vui { hrd = (← hrd_parameters true max_sub_layers_minus1 default_hrd_params) }
  done vui

-- rows 16 to 20: the clock, and the parameters of the hypothetical reference decoder
unfoldable pub timing : ℕ → PlainVuiParams → Table PlainVuiParams
timing max_sub_layers_minus1 vui = do
  let vui = record vui { num_units_in_tick = (← bits_row (row 8 16) 32 0 4294967295) }
  let vui = record vui { time_scale = (← bits_row (row 8 16) 32 0 4294967295) }
  let vui = record vui { poc_proportional_to_timing_flag = (← flag_row (row 8 17)) }
  let vui = record vui {
    num_ticks_poc_diff_one_minus1 =
        (← when vui.poc_proportional_to_timing_flag 0 (ue_row (row 8 18) 0 2147483647));
  }
  let vui = record vui { hrd_parameters_present_flag = (← flag_row (row 8 19)) }
  when vui.hrd_parameters_present_flag vui (hrd max_sub_layers_minus1 vui)

-- rows 15 to 20
unfoldable pub timing_info : ℕ → PlainVuiParams → Table PlainVuiParams
timing_info max_sub_layers_minus1 vui = do
  let vui = record vui { timing_info_present_flag = (← flag_row (row 8 15)) }
  when vui.timing_info_present_flag vui (timing max_sub_layers_minus1 vui)

-- rows 22 to 26: restrictions of the stream
unfoldable pub restrictions : PlainVuiParams → Table PlainVuiParams
restrictions vui = do
  let vui = record vui { tiles_fixed_structure_flag = (← flag_row (row 8 22)) }
  let vui = record vui { motion_vectors_over_pic_boundaries_flag = (← flag_row (row 8 22)) }
  let vui = record vui { restricted_ref_pic_lists_flag = (← flag_row (row 8 22)) }
  let vui = record vui { min_spatial_segmentation_idc = (← ue_row (row 8 23) 0 4095) }
  let vui = record vui { max_bytes_per_pic_denom = (← ue_row (row 8 24) 0 2147483647) }
  let vui = record vui { max_bits_per_min_cu_denom = (← ue_row (row 8 24) 0 2147483647) }
  let vui = record vui { log2_max_mv_length_horizontal = (← ue_row (row 8 25) 0 16) }
  let vui = record vui { log2_max_mv_length_vertical = (← ue_row (row 8 26) 0 15) }
  done vui

-- rows 21 to 26
unfoldable pub stream_restrictions : PlainVuiParams → Table PlainVuiParams
stream_restrictions vui = do
  let vui = record vui { bitstream_restriction_flag = (← flag_row (row 8 21)) }
  when vui.bitstream_restriction_flag vui (restrictions vui)

-- table 8 (E.2.1) of a set of so many sub-layers
unfoldable pub vui_parameters : ℕ → Table PlainVuiParams
vui_parameters max_sub_layers_minus1 = do
  vui ← aspect_ratio default_vui_params
  vui ← overscan vui
  vui ← signal_type vui
  vui ← chroma_places vui
  vui ← display vui
  vui ← timing_info max_sub_layers_minus1 vui
  stream_restrictions vui
