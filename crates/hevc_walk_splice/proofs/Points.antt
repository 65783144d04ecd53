-- The row meets the premises.
use Rattle.std.proofs.Common.{refl, arith, All}
use Rattle.std.proofs.lemmas.Int.{ints}
use Rattle.std.proofs.lemmas.List.Elements.{All-nil, All-from_recursion}
use Rattle.hevc_walk.specs.Premises.{IsFormat, IsLimits, IsShortTermRefPicSet, IsLongTermMember}
use Rattle.hevc_walk.specs.Premises.{IsListRule, IsMeaning, AreMeanings}
use Rattle.hevc_walk_examples.specs.Streams.{plain_format, plain_sets, one_place, idr, idr_without_prior, p4}
use Rattle.hevc_walk_splice.specs.Points.{two_points, its_sets}
use Rattle.hevc_walk_splice.specs.Splicing.{IsOfSet}

format : IsFormat plain_format
format = record { max_num_pics = omega arith }

limits : IsLimits (plain_sets plain_format).limits
limits = record {
  max_num_reorder_pics = omega arith;
  max_latency_increase_plus1 = omega arith;
  max_dec_pic_buffering_minus1 = omega arith;
}

place : IsListRule one_place
place = record { some = omega arith; few = omega arith; entries = tt }

idr-means : IsMeaning (idr (plain_sets plain_format))
idr-means = (
  record {
    format = format;
    limits = limits;
    log2_max_pic_order_cnt_lsb_minus4 = 0;
    log2_bound = omega arith;
    max_pic_order_cnt_lsb = refl;
    sets = All-nil IsShortTermRefPicSet;
    first = λ h. refl;
  },
  λ h. record {
    pic_order_cnt_lsb = omega arith;
    curr_rps_idx = omega arith;
    own_set = record { few = omega arith; negative = tt; positive = tt };
    long_term = All-nil (IsLongTermMember 16);
    few_long_term = omega arith;
    list0 = place;
    list1 = place;
  },
)

prior-means : IsMeaning (idr_without_prior (plain_sets plain_format))
prior-means = (
  record {
    format = format;
    limits = limits;
    log2_max_pic_order_cnt_lsb_minus4 = 0;
    log2_bound = omega arith;
    max_pic_order_cnt_lsb = refl;
    sets = All-nil IsShortTermRefPicSet;
    first = λ h. refl;
  },
  λ h. record {
    pic_order_cnt_lsb = omega arith;
    curr_rps_idx = omega arith;
    own_set = record { few = omega arith; negative = tt; positive = tt };
    long_term = All-nil (IsLongTermMember 16);
    few_long_term = omega arith;
    list0 = place;
    list1 = place;
  },
)

p4-means : IsMeaning p4
p4-means = (
  record {
    format = format;
    limits = limits;
    log2_max_pic_order_cnt_lsb_minus4 = 0;
    log2_bound = omega arith;
    max_pic_order_cnt_lsb = refl;
    sets = All-nil IsShortTermRefPicSet;
    first = λ h. refl;
  },
  λ h. record {
    pic_order_cnt_lsb = omega arith;
    curr_rps_idx = omega arith;
    own_set = record { few = omega arith; negative = (omega (arith, ints), tt); positive = tt };
    long_term = All-nil (IsLongTermMember 16);
    few_long_term = omega arith;
    list0 = place;
    list1 = place;
  },
)

pub real : AreMeanings two_points
real = record {
  each = All-from_recursion IsMeaning two_points (format, (tt, (idr-means, (p4-means, (prior-means, (p4-means, tt))))));
  set_first = tt;
}

pub sets : All IsOfSet its_sets
sets = All-from_recursion IsOfSet its_sets (tt, (tt, tt))
