-- The scaling lists as Linux's stateless decoders take them.
use Rattle.std.specs.Prelude.{ℕ, ◌+◌, ◌-◌, ℤ, pos, negsuc, List, [], ◌∷◌, map, replicate, not}
use Rattle.std.specs.Prelude.{if◌then◌else◌, slice_index, slice_index_or}
use Rattle.hevc_records.specs.ScalingLists.{PlainScalingLists}
use Rattle.hevc_records.specs.DefaultScalingLists.{default_lists}
use Rattle.hevc_records.specs.Sps.{PlainSps}
use Rattle.hevc_records.specs.Pps.{PlainPps}
use Rattle.hevc_v4l2.specs.declared.scaling.V4l2CtrlHevcScalingMatrix.{V4l2CtrlHevcScalingMatrix}
use Rattle.hevc_events.specs.Scan.{in_raster_order, scan_places_4x4, scan_places_8x8}

-- 16 everywhere (8.6.4.2)
abbrev pub flat_lists : PlainScalingLists
flat_lists = record {
  scaling_list_dc_coef_minus8_16x16 = replicate 6 (pos 8);
  scaling_list_dc_coef_minus8_32x32 = replicate 6 (pos 8);
  scaling_list_4x4 = replicate 6 (replicate 16 16);
  scaling_list_8x8 = replicate 6 (replicate 64 16);
  scaling_list_16x16 = replicate 6 (replicate 64 16);
  scaling_list_32x32 = replicate 6 (replicate 64 16);
}

-- The picture set's lists, where it has any, else the sequence set's, else the default ones
-- (7.4.3.2.1, 7.4.3.3.1); none where coefficients aren't scaled by lists.
abbrev pub active_lists : PlainSps → PlainPps → PlainScalingLists
active_lists sps pps =
    if not sps.scaling_list_enabled_flag then flat_lists
    else if pps.scaling_list_data_present_flag then pps.scaling_list
    else if sps.scaling_list_data_present_flag then sps.scaling_list
    else default_lists

-- the first entry of a matrix, of which the syntax has 8 less (7.4.5)
abbrev pub dc_coef : (minus8 : ℤ) → ℕ
dc_coef (pos n) = n + 8
dc_coef (negsuc n) = 7 - n

-- of the six matrices of a size, those of luma
abbrev pub luma_lists : List (List ℕ) → List (List ℕ)
luma_lists lists = slice_index_or lists 0 [] ∷ slice_index_or lists 3 [] ∷ []

abbrev pub luma_coefs : List ℕ → List ℕ
luma_coefs coefs = slice_index coefs 0 ∷ slice_index coefs 3 ∷ []

-- each list in raster order, of the 32x32 matrices those of luma alone
abbrev pub control_of_lists : PlainScalingLists → V4l2CtrlHevcScalingMatrix
control_of_lists lists = record {
  scaling_list_4x4 = map (in_raster_order scan_places_4x4) lists.scaling_list_4x4;
  scaling_list_8x8 = map (in_raster_order scan_places_8x8) lists.scaling_list_8x8;
  scaling_list_16x16 = map (in_raster_order scan_places_8x8) lists.scaling_list_16x16;
  scaling_list_32x32 =
      map (in_raster_order scan_places_8x8) (luma_lists lists.scaling_list_32x32);
  scaling_list_dc_coef_16x16 = map dc_coef lists.scaling_list_dc_coef_minus8_16x16;
  scaling_list_dc_coef_32x32 =
      luma_coefs (map dc_coef lists.scaling_list_dc_coef_minus8_32x32);
}
