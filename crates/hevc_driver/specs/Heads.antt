-- What the code's records of pictures stand for.
use Rattle.std.specs.Prelude.{◌&&◌}
use Rattle.hevc_bits.specs.NaluType.{nalu_type_number}
use Rattle.hevc_walk.specs.Pictures as walk
use Rattle.hevc_pictures.specs.Limits.{limits_of}
use Rattle.hevc_dpb.specs.Plain.{from_zero}
use Rattle.hevc_backend.specs.Negotiation.{format_of}
use Rattle.hevc_driver.specs.declared.head.Head.{Head}
use Rattle.hevc_driver.specs.declared.head.Context.{Context}

abbrev pub head_of : Head → walk.Head
head_of h = record {
  number = h.number;
  nal_unit_type = nalu_type_number h.picture.nalu_type;
  pic_order_cnt_lsb = from_zero h.picture.slice_pic_order_cnt_lsb;
  order_count = h.picture.pic_order_cnt_val;
  valid_for_prev_tid0 = h.picture.valid_for_prev_tid0_pic;
  starts_sequence = h.picture.is_irap && h.picture.no_rasl_output_flag;
  skipped = h.skipped;
  pic_output_flag = h.picture.pic_output_flag;
  no_output_of_prior_pics = h.picture.no_output_of_prior_pics_flag;
  latest_irap_no_rasl = h.latest_irap_no_rasl;
  format = format_of h.format;
  limits = limits_of h.limits;
}

abbrev pub context_of : Context → walk.Context
context_of n = record {
  number = n.number;
  first_in_bitstream = n.first_picture_in_bitstream;
  first_after_end = n.first_picture_after_eos;
  prev_tid0_count = n.prev_tid0_count;
  latest_irap_no_rasl = n.latest_irap_no_rasl;
}
