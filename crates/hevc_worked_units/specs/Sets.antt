-- The sets that are worked with.
use Rattle.std.specs.Prelude.{true, false, ◌∷◌, pos, negsuc, replicate}
use Rattle.hevc_records.specs.ShortTermRefPicSet.{PlainShortTermRefPicSet}
use Rattle.hevc_records.specs.ShortTermRefPicSet.{default_short_term_ref_pic_set}
use Rattle.hevc_records.specs.Sps.{PlainSps, default_sps}
use Rattle.hevc_records.specs.SpsSccExtension.{default_sps_scc_extension}

-- 16 blocks of 8x8 luma samples, one over another, with chroma of 4:2:0
abbrev pub a_column : PlainSps
a_column = record default_sps {
  pic_height_in_luma_samples = 128;
  pic_height_in_ctbs_y = 16;
  pic_size_in_ctbs_y = 16;
  pic_size_in_samples_y = 128;
  chroma_format_idc = 1;
  chroma_array_type = 1;
  max_dec_pic_buffering_minus1 = 4 ∷ replicate 6 0;
}

-- 440 blocks of 8x8 luma samples, one over another
abbrev pub a_tall_column : PlainSps
a_tall_column = record default_sps {
  pic_height_in_luma_samples = 3520;
  pic_height_in_ctbs_y = 440;
  pic_size_in_ctbs_y = 440;
  pic_size_in_samples_y = 3520;
}

-- the column, with motion vectors of other pictures and two long-term pictures, of which one is used
abbrev pub a_referring_column : PlainSps
a_referring_column = record a_column {
  long_term_ref_pics_present_flag = true;
  num_long_term_ref_pics_sps = 2;
  lt_ref_pic_poc_lsb_sps = 3 ∷ 9 ∷ replicate 30 0;
  used_by_curr_pic_lt_sps_flag = true ∷ replicate 31 false;
  temporal_mvp_enabled_flag = true;
}

-- ten blocks of 8x8 luma samples side by side, of 12 bits of luma, with up to six palette predictors
abbrev pub a_row_of_ten : PlainSps
a_row_of_ten = record default_sps {
  pic_width_in_luma_samples = 80;
  pic_width_in_ctbs_y = 10;
  pic_size_in_ctbs_y = 10;
  pic_size_in_samples_y = 80;
  bit_depth_luma_minus8 = 4;
  scc_extension = record default_sps_scc_extension {
    palette_max_size = 4;
    delta_palette_max_predictor_size = 2;
  };
}

-- one member directly before the picture and one directly after it, neither used
abbrev pub two_neighbours : PlainShortTermRefPicSet
two_neighbours = record default_short_term_ref_pic_set {
  num_negative_pics = 1;
  num_positive_pics = 1;
  num_delta_pocs = 2;
  delta_poc_s0 = negsuc 0 ∷ replicate 15 (pos 0);
  delta_poc_s1 = pos 1 ∷ replicate 15 (pos 0);
}
