-- What a sequence set says of the pictures of its sequence (7.4.3.2.1): their format,
-- and the limits of their output.
use Rattle.std.specs.Prelude.{ℕ, min, List, slice_index_or}
use Rattle.hevc_records.specs.Sps.{PlainSps}
use Rattle.hevc_records.specs.SpsSizes.{max_dpb_size_of}
use Rattle.hevc_walk.specs.Meanings.{Format, Limits}

-- the format that a sequence set asks for, with MaxDpbSize (A.4.2)
abbrev pub format_of_set : PlainSps → Format
format_of_set s = record {
  coded_width = s.pic_width_in_luma_samples;
  coded_height = s.pic_height_in_luma_samples;
  general_profile_idc = s.profile_tier_level.general_profile_idc;
  bit_depth_luma_minus8 = s.bit_depth_luma_minus8;
  bit_depth_chroma_minus8 = s.bit_depth_chroma_minus8;
  chroma_format_idc = s.chroma_format_idc;
  max_num_pics = max_dpb_size_of s;
}

-- HighestTid (8.1.2), where sub-layers up to this one are wanted:
-- the highest of them that the set has
abbrev pub highest_sub_layer : ℕ → PlainSps → ℕ
highest_sub_layer wanted s = min wanted s.max_sub_layers_minus1

-- the number that a set has for the highest sub-layer that is decoded (7.4.3.2.1)
abbrev pub of_highest : ℕ → PlainSps → List ℕ → ℕ
of_highest wanted s numbers = slice_index_or numbers (highest_sub_layer wanted s) 0

-- what a set declares for the highest sub-layer that is decoded,
-- where sub-layers up to this one are wanted (C.5.2.2)
abbrev pub limits_of_set : ℕ → PlainSps → Limits
limits_of_set wanted s = record {
  max_num_reorder_pics = of_highest wanted s s.max_num_reorder_pics;
  max_latency_increase_plus1 = of_highest wanted s s.max_latency_increase_plus1;
  max_dec_pic_buffering_minus1 = of_highest wanted s s.max_dec_pic_buffering_minus1;
}
