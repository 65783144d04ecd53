-- What a backend is told of a sequence, and what it tells of it (7.4.3.2.1, A.4.2).
use Rattle.std.specs.Prelude.{◌+◌}
use Rattle.hevc_records.specs.Sps.{PlainSps}
use Rattle.hevc_records.specs.SpsSizes.{max_dpb_size_of, window_width, window_height}
use Rattle.hevc_walk.specs.Meanings.{Format}
use Rattle.hevc_backend.specs.declared.negotiation.NegotiationInfo.{NegotiationInfo}
use Rattle.hevc_backend.specs.declared.stream_info.StreamInfo.{StreamInfo}

abbrev pub format_of : NegotiationInfo → Format
format_of info = record {
  coded_width = info.coded_resolution.width;
  coded_height = info.coded_resolution.height;
  general_profile_idc = info.general_profile_idc;
  bit_depth_luma_minus8 = info.bit_depth_luma_minus8;
  bit_depth_chroma_minus8 = info.bit_depth_chroma_minus8;
  chroma_format_idc = info.chroma_format_idc;
  max_num_pics = info.max_num_pics;
}

-- all numbers 0
abbrev pub no_format : Format
no_format = record {
  coded_width = 0;
  coded_height = 0;
  general_profile_idc = 0;
  bit_depth_luma_minus8 = 0;
  bit_depth_chroma_minus8 = 0;
  chroma_format_idc = 0;
  max_num_pics = 0;
}

abbrev pub info_of : Format → NegotiationInfo
info_of f = record {
  coded_resolution = record { width = f.coded_width; height = f.coded_height };
  general_profile_idc = f.general_profile_idc;
  bit_depth_luma_minus8 = f.bit_depth_luma_minus8;
  bit_depth_chroma_minus8 = f.bit_depth_chroma_minus8;
  chroma_format_idc = f.chroma_format_idc;
  max_num_pics = f.max_num_pics;
}

-- what a backend that records tells of a sequence: its sizes, and a frame for each picture of the
-- buffer and for the current one
abbrev pub stream_info_of_set : PlainSps → StreamInfo
stream_info_of_set s = record {
  coded_resolution = record {
    width = s.pic_width_in_luma_samples;
    height = s.pic_height_in_luma_samples;
  };
  display_resolution = record { width = window_width s; height = window_height s };
  min_num_frames = max_dpb_size_of s + 1;
}
