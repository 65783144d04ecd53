-- The scaling lists as VA-API takes them.
use Rattle.std.specs.Prelude.{map, replicate}
use Rattle.hevc_records.specs.ScalingLists.{PlainScalingLists}
use Rattle.hevc_events.specs.Scan.{in_raster_order, scan_places_4x4, scan_places_8x8}
use Rattle.hevc_v4l2.specs.Scaling.{dc_coef, luma_coefs, luma_lists}
use Rattle.hevc_va.specs.declared.scaling.VaIqMatrixBufferHevc.{VaIqMatrixBufferHevc}

-- each list in raster order (6.5.3), of the 32x32 matrices those of luma alone
abbrev pub buffer_of_lists : PlainScalingLists → VaIqMatrixBufferHevc
buffer_of_lists lists = record {
  scaling_list_4x4 = map (in_raster_order scan_places_4x4) lists.scaling_list_4x4;
  scaling_list_8x8 = map (in_raster_order scan_places_8x8) lists.scaling_list_8x8;
  scaling_list_16x16 = map (in_raster_order scan_places_8x8) lists.scaling_list_16x16;
  scaling_list_32x32 =
      map (in_raster_order scan_places_8x8) (luma_lists lists.scaling_list_32x32);
  scaling_list_dc_16x16 = map dc_coef lists.scaling_list_dc_coef_minus8_16x16;
  scaling_list_dc_32x32 = luma_coefs (map dc_coef lists.scaling_list_dc_coef_minus8_32x32);
  va_reserved = replicate 4 0;
}
