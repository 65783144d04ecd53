-- The range extensions of a sequence and a picture parameter set as VA-API takes them.
use Rattle.std.specs.Prelude.{ℕ, List, [], ◌∷◌, not, ◌&&◌, if◌then◌else◌, Option, Some, None}
use Rattle.std.specs.List.{list_all}
use Rattle.hevc_records.specs.PpsRangeExtension.{PlainPpsRangeExtension}
use Rattle.hevc_records.specs.SpsRangeExtension.{PlainSpsRangeExtension}
use Rattle.hevc_events.specs.Flags.{flags_of}
use Rattle.hevc_v4l2.specs.Arrays.{is_byte, is_signed_byte}
use Rattle.hevc_va.specs.declared.error.VaError.{VaError}
use Rattle.hevc_va.specs.declared.error.VaError.TheVariants.{ChromaOffsetList, RangeExtension}
use Rattle.hevc_va.specs.declared.range.VaPictureParameterBufferHevcRext.{VaPictureParameterBufferHevcRext}

-- the numbers of a picture set's extension that aren't in a list
abbrev pub numbers_of : PlainPpsRangeExtension → List ℕ
numbers_of p =
    p.diff_cu_chroma_qp_offset_depth ∷
    p.chroma_qp_offset_list_len_minus1 ∷
    p.log2_sao_offset_scale_luma ∷
    p.log2_sao_offset_scale_chroma ∷
    p.log2_max_transform_skip_block_size_minus2 ∷ []

-- the first thing that the struct can't hold
abbrev pub range_error : PlainPpsRangeExtension → Option VaError
range_error p =
    if not (list_all is_byte (numbers_of p)) then Some RangeExtension
    else if not (list_all is_signed_byte p.cb_qp_offset_list
    && list_all is_signed_byte p.cr_qp_offset_list) then Some ChromaOffsetList
    else None

-- the flags in the order of range_extension_pic_fields
abbrev pub range_flags : PlainSpsRangeExtension → PlainPpsRangeExtension → ℕ
range_flags s p =
    flags_of
    (s.transform_skip_rotation_enabled_flag ∷
    s.transform_skip_context_enabled_flag ∷
    s.implicit_rdpcm_enabled_flag ∷
    s.explicit_rdpcm_enabled_flag ∷
    s.extended_precision_processing_flag ∷
    s.intra_smoothing_disabled_flag ∷
    s.high_precision_offsets_enabled_flag ∷
    s.persistent_rice_adaptation_enabled_flag ∷
    s.cabac_bypass_alignment_enabled_flag ∷
    p.cross_component_prediction_enabled_flag ∷
    p.chroma_qp_offset_list_enabled_flag ∷ [])

-- Each field has the element of its name.
abbrev pub buffer_of_ranges : PlainSpsRangeExtension → PlainPpsRangeExtension
    → VaPictureParameterBufferHevcRext
buffer_of_ranges s p = record {
  range_extension_pic_fields = range_flags s p;
  diff_cu_chroma_qp_offset_depth = p.diff_cu_chroma_qp_offset_depth;
  chroma_qp_offset_list_len_minus1 = p.chroma_qp_offset_list_len_minus1;
  log2_sao_offset_scale_luma = p.log2_sao_offset_scale_luma;
  log2_sao_offset_scale_chroma = p.log2_sao_offset_scale_chroma;
  log2_max_transform_skip_block_size_minus2 = p.log2_max_transform_skip_block_size_minus2;
  cb_qp_offset_list = p.cb_qp_offset_list;
  cr_qp_offset_list = p.cr_qp_offset_list;
}
