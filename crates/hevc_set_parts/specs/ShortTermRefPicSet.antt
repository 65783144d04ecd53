use Rattle.hevc_records.specs.ShortTermRefPicSet.{PlainShortTermRefPicSet}
use Rattle.hevc_set_parts.specs.declared.short_term_ref_pic_set.ShortTermRefPicSet.{ShortTermRefPicSet}

-- the values of its fields
abbrev pub plain_short_term_ref_pic_set : ShortTermRefPicSet → PlainShortTermRefPicSet
plain_short_term_ref_pic_set r = record {
  inter_ref_pic_set_prediction_flag = r.inter_ref_pic_set_prediction_flag;
  delta_idx_minus1 = r.delta_idx_minus1;
  delta_rps_sign = r.delta_rps_sign;
  abs_delta_rps_minus1 = r.abs_delta_rps_minus1;
  num_negative_pics = r.num_negative_pics;
  num_positive_pics = r.num_positive_pics;
  delta_poc_s0 = r.delta_poc_s0;
  used_by_curr_pic_s0 = r.used_by_curr_pic_s0;
  delta_poc_s1 = r.delta_poc_s1;
  used_by_curr_pic_s1 = r.used_by_curr_pic_s1;
  num_delta_pocs = r.num_delta_pocs;
}
