-- A picture and its sets as VA-API takes them.
use Rattle.std.specs.Prelude.{ℕ, ◌+◌, ◌*◌, not, List, [], ◌∷◌, take, replicate, slice_index}
use Rattle.std.specs.Prelude.{if◌then◌else◌, Option, Some, None}
use Rattle.std.specs.List.{list_all}
use Rattle.std.specs.Option.{option_or}
use Rattle.hevc_spec.specs.UnitTypes.{is_idr}
use Rattle.hevc_records.specs.Sps.{PlainSps}
use Rattle.hevc_records.specs.Pps.{PlainPps}
use Rattle.hevc_bits.specs.NaluType.{nalu_type_number}
use Rattle.hevc_picture_slice.specs.declared.slice.Slice.{Slice}
use Rattle.hevc_picture_slice.specs.SliceHeader.{plain_slice_header}
use Rattle.hevc_walk.specs.ReferenceSets.{RefPicSet}
use Rattle.hevc_pictures.specs.declared.picture_data.PictureData.{PictureData}
use Rattle.hevc_dpb.specs.declared.entry.DpbEntry.{DpbEntry}
use Rattle.hevc_events.specs.Flags.{flags_of}
use Rattle.hevc_va.specs.declared.error.VaError.{VaError}
use Rattle.hevc_va.specs.declared.error.VaError.TheVariants.{TileColumns, TileRows}
use Rattle.hevc_va.specs.declared.surfaces.VaPictureHevc.{VaPictureHevc}
use Rattle.hevc_va.specs.declared.surfaces.VaSurface.{VaSurface}
use Rattle.hevc_va.specs.declared.picture.VaPictureParameterBufferHevc.{VaPictureParameterBufferHevc}
use Rattle.hevc_va.specs.Arrays.{in_places, is_16_bits}
use Rattle.hevc_va.specs.References.{frames_error, frames_of}
use Rattle.hevc_va.specs.Surfaces.{no_picture, picture_at}

-- There are places for 19 tile columns and 21 tile rows, though a picture can have one more of each
-- (7.4.3.3.1): the last one takes what is left.
abbrev pub tile_columns : PlainPps → List ℕ
tile_columns p = take 19 p.column_width_minus1

abbrev pub tile_rows : PlainPps → List ℕ
tile_rows p = take 21 p.row_height_minus1

-- the first of their sizes that the struct can't hold
abbrev pub tiles_error : PlainPps → Option VaError
tiles_error p =
    if not (list_all is_16_bits (tile_columns p)) then Some TileColumns
    else if not (list_all is_16_bits (tile_rows p)) then Some TileRows
    else None

-- the first thing that the struct can't hold
abbrev pub picture_error : PlainPps → (stored : List (DpbEntry ℕ)) → List VaSurface → Option VaError
picture_error p stored surfaces = option_or (tiles_error p) (frames_error p stored surfaces)

-- chroma_format_idc in two bits, and the flags in the order of pic_fields. The last two, of pictures
-- that aren't reordered or have no B slices, stay 0: they are never wrong so.
abbrev pub picture_fields : PlainSps → PlainPps → ℕ
picture_fields s p =
    s.chroma_format_idc + 4 *
    flags_of
    (s.separate_colour_plane_flag ∷
    s.pcm_enabled_flag ∷
    s.scaling_list_enabled_flag ∷
    p.transform_skip_enabled_flag ∷
    s.amp_enabled_flag ∷
    s.strong_intra_smoothing_enabled_flag ∷
    p.sign_data_hiding_enabled_flag ∷
    p.constrained_intra_pred_flag ∷
    p.cu_qp_delta_enabled_flag ∷
    p.weighted_pred_flag ∷
    p.weighted_bipred_flag ∷
    p.transquant_bypass_enabled_flag ∷
    p.tiles_enabled_flag ∷
    p.entropy_coding_sync_enabled_flag ∷
    p.loop_filter_across_slices_enabled_flag ∷
    p.loop_filter_across_tiles_enabled_flag ∷
    s.pcm_loop_filter_disabled_flag ∷ [])

-- The flags in the order of slice_parsing_fields. The last three are RapPicFlag, IdrPicFlag and
-- IntraPicFlag: an IRAP picture refers to no other picture.
abbrev pub slice_parsing_fields : PictureData → PlainSps → PlainPps → ℕ
slice_parsing_fields picture s p =
    flags_of
    (p.lists_modification_present_flag ∷
    s.long_term_ref_pics_present_flag ∷
    s.temporal_mvp_enabled_flag ∷
    p.cabac_init_present_flag ∷
    p.output_flag_present_flag ∷
    p.dependent_slice_segments_enabled_flag ∷
    p.slice_chroma_qp_offsets_present_flag ∷
    s.sample_adaptive_offset_enabled_flag ∷
    p.deblocking_filter_override_enabled_flag ∷
    p.deblocking_filter_disabled_flag ∷
    p.slice_segment_header_extension_present_flag ∷
    picture.is_irap ∷
    is_idr (nalu_type_number picture.nalu_type) ∷
    picture.is_irap ∷ [])

-- Each field has the element of its name. Of the numbers that each sub-layer has, those of the
-- highest one are taken.
abbrev pub filled_buffer : PictureData → (first : Slice) → PlainSps → PlainPps
    → (columns rows : List ℕ) → (current : VaPictureHevc) → (frames : List VaPictureHevc)
    → VaPictureParameterBufferHevc
filled_buffer picture first s p columns rows current frames = record {
  curr_pic = current;
  reference_frames = frames;
  pic_width_in_luma_samples = s.pic_width_in_luma_samples;
  pic_height_in_luma_samples = s.pic_height_in_luma_samples;
  pic_fields = picture_fields s p;
  sps_max_dec_pic_buffering_minus1 =
      slice_index s.max_dec_pic_buffering_minus1 s.max_sub_layers_minus1;
  bit_depth_luma_minus8 = s.bit_depth_luma_minus8;
  bit_depth_chroma_minus8 = s.bit_depth_chroma_minus8;
  pcm_sample_bit_depth_luma_minus1 = s.pcm_sample_bit_depth_luma_minus1;
  pcm_sample_bit_depth_chroma_minus1 = s.pcm_sample_bit_depth_chroma_minus1;
  log2_min_luma_coding_block_size_minus3 = s.log2_min_luma_coding_block_size_minus3;
  log2_diff_max_min_luma_coding_block_size = s.log2_diff_max_min_luma_coding_block_size;
  log2_min_transform_block_size_minus2 = s.log2_min_luma_transform_block_size_minus2;
  log2_diff_max_min_transform_block_size = s.log2_diff_max_min_luma_transform_block_size;
  log2_min_pcm_luma_coding_block_size_minus3 = s.log2_min_pcm_luma_coding_block_size_minus3;
  log2_diff_max_min_pcm_luma_coding_block_size = s.log2_diff_max_min_pcm_luma_coding_block_size;
  max_transform_hierarchy_depth_intra = s.max_transform_hierarchy_depth_intra;
  max_transform_hierarchy_depth_inter = s.max_transform_hierarchy_depth_inter;
  init_qp_minus26 = p.init_qp_minus26;
  diff_cu_qp_delta_depth = p.diff_cu_qp_delta_depth;
  pps_cb_qp_offset = p.cb_qp_offset;
  pps_cr_qp_offset = p.cr_qp_offset;
  log2_parallel_merge_level_minus2 = p.log2_parallel_merge_level_minus2;
  num_tile_columns_minus1 = p.num_tile_columns_minus1;
  num_tile_rows_minus1 = p.num_tile_rows_minus1;
  column_width_minus1 = columns;
  row_height_minus1 = rows;
  slice_parsing_fields = slice_parsing_fields picture s p;
  log2_max_pic_order_cnt_lsb_minus4 = s.log2_max_pic_order_cnt_lsb_minus4;
  num_short_term_ref_pic_sets = s.num_short_term_ref_pic_sets;
  num_long_term_ref_pic_sps = s.num_long_term_ref_pics_sps;
  num_ref_idx_l0_default_active_minus1 = p.num_ref_idx_l0_default_active_minus1;
  num_ref_idx_l1_default_active_minus1 = p.num_ref_idx_l1_default_active_minus1;
  pps_beta_offset_div2 = p.beta_offset_div2;
  pps_tc_offset_div2 = p.tc_offset_div2;
  num_extra_slice_header_bits = p.num_extra_slice_header_bits;
  st_rps_bits = (plain_slice_header first.header).st_rps_bits;
  va_reserved = replicate 8 0;
}

-- The picture by its surface, with no flag, since SEI messages, which tell of fields, aren't read;
-- and the pictures that it may refer to, in fifteen places.
abbrev pub buffer_of_picture : PictureData → (first : Slice) → PlainSps → PlainPps
    → (stored : List (DpbEntry ℕ)) → RefPicSet → (surface : ℕ) → List VaSurface
    → VaPictureParameterBufferHevc
buffer_of_picture picture first s p stored set surface surfaces =
    filled_buffer picture first s p (tile_columns p) (tile_rows p)
    (picture_at surface picture.pic_order_cnt_val 0)
    (in_places 15 no_picture (frames_of picture p stored set surface surfaces))
