use Rattle.std.specs.Prelude.{ℕ, ℤ, pos, ◌+◌, ◌<◌, ◌<ℤ◌, Bool, false, List, replicate}
use Rattle.std.specs.Prelude.{slice_index_or}

-- A short-term reference picture set (H.265 7.3.7), with any numbers
pub record PlainShortTermRefPicSet : Type 0 where
  pub inter_ref_pic_set_prediction_flag : Bool
  pub delta_idx_minus1 : ℕ
  pub delta_rps_sign : Bool
  pub abs_delta_rps_minus1 : ℕ
  pub num_negative_pics : ℕ
  pub num_positive_pics : ℕ
  pub delta_poc_s0 : List ℤ
  pub used_by_curr_pic_s0 : List Bool
  pub delta_poc_s1 : List ℤ
  pub used_by_curr_pic_s1 : List Bool
  pub num_delta_pocs : ℕ

-- the value where nothing was read
abbrev pub default_short_term_ref_pic_set : PlainShortTermRefPicSet
default_short_term_ref_pic_set = record {
  inter_ref_pic_set_prediction_flag = false;
  delta_idx_minus1 = 0;
  delta_rps_sign = false;
  abs_delta_rps_minus1 = 0;
  num_negative_pics = 0;
  num_positive_pics = 0;
  delta_poc_s0 = replicate 16 (pos 0);
  used_by_curr_pic_s0 = replicate 16 false;
  delta_poc_s1 = replicate 16 (pos 0);
  used_by_curr_pic_s1 = replicate 16 false;
  num_delta_pocs = 0;
}

-- the first `count` differences lie below 0, each below the one before it
pub record Fall (count : ℕ) (differences : List ℤ) : Type 0 where
  pub below_zero : (k : ℕ) → k < count → slice_index_or differences k (pos 0) <ℤ pos 0
  pub falling : (k : ℕ) → k + 1 < count
      → slice_index_or differences (k + 1) (pos 0) <ℤ slice_index_or differences k (pos 0)

-- the first `count` differences lie above 0, each above the one before it
pub record Rise (count : ℕ) (differences : List ℤ) : Type 0 where
  pub above_zero : (k : ℕ) → k < count → pos 0 <ℤ slice_index_or differences k (pos 0)
  pub rising : (k : ℕ) → k + 1 < count
      → slice_index_or differences k (pos 0) <ℤ slice_index_or differences (k + 1) (pos 0)
