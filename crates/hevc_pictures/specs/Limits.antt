-- What a sequence set declares of the order of its pictures, as the walk has it.
use Rattle.hevc_walk.specs.Meanings as walk
use Rattle.hevc_pictures.specs.declared.limits.Limits.{Limits}

-- as the walk has them
abbrev pub limits_of : Limits → walk.Limits
limits_of limits = record {
  max_num_reorder_pics = limits.reorder;
  max_latency_increase_plus1 = limits.latency_plus1;
  max_dec_pic_buffering_minus1 = limits.buffering;
}
