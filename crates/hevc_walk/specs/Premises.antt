-- What every list of meanings that is read from a byte stream meets, and the laws may ask for.
use Rattle.std.specs.Prelude.{◌≡◌, ℕ, ℤ, pos, ◌+◌, ◌^◌, ◌≤◌, ◌<◌, ◌<ℤ◌, true, false, List, [], ◌∷◌}
use Rattle.std.specs.Prelude.{length, All, IfSome}
use Rattle.hevc_walk.specs.Meanings.{Format, Limits, ShortTermMember, LongTermMember}
use Rattle.hevc_walk.specs.Meanings.{ShortTermRefPicSet, ListRule, Slice, Meaning, SequenceSet}
use Rattle.hevc_walk.specs.Meanings.{CodedSlice, EndOfSequence, EndOfBitstream, Other, Refused}

-- MaxDpbSize is at most 16 (A.4.2)
pub record IsFormat (f : Format) : Type 0 where
  pub max_num_pics : f.max_num_pics ≤ 16

-- Each is a byte: the first and the last by 7.4.3.2.1, the latency number because none above 255 is
-- read here.
pub record IsLimits (limits : Limits) : Type 0 where
  pub max_num_reorder_pics : limits.max_num_reorder_pics < 2 ^ 8
  pub max_latency_increase_plus1 : limits.max_latency_increase_plus1 < 2 ^ 8
  pub max_dec_pic_buffering_minus1 : limits.max_dec_pic_buffering_minus1 < 2 ^ 8

-- the differences strictly fall from below d, or strictly rise from above it
abbrev pub FallBelow : ℤ → List ShortTermMember → Type 0
FallBelow d [] = Unit {0}
FallBelow d (m ∷ ms) = (m.delta_poc <ℤ d) × FallBelow m.delta_poc ms

abbrev pub RiseAbove : ℤ → List ShortTermMember → Type 0
RiseAbove d [] = Unit {0}
RiseAbove d (m ∷ ms) = (d <ℤ m.delta_poc) × RiseAbove m.delta_poc ms

-- (7.4.8)
pub record IsShortTermRefPicSet (set : ShortTermRefPicSet) : Type 0 where
  pub few : length set.negative_pics + length set.positive_pics ≤ 16
  pub negative : FallBelow (pos 0) set.negative_pics
  pub positive : RiseAbove (pos 0) set.positive_pics

-- PocLsbLt is below MaxPicOrderCntLsb (7.4.7.1)
pub record IsLongTermMember (max_pic_order_cnt_lsb : ℕ) (m : LongTermMember) : Type 0 where
  pub poc_lsb : m.poc_lsb < max_pic_order_cnt_lsb

-- at least one place, at most 15, and an entry for each
-- where the list is changed (7.4.7.1, 7.4.7.2)
pub record IsListRule (rule : ListRule) : Type 0 where
  pub some : 1 ≤ rule.num_ref_idx_active
  pub few : rule.num_ref_idx_active ≤ 15
  pub entries : IfSome rule.list_entry (λ entries. length entries ≡ rule.num_ref_idx_active)

pub record IsSlice (s : Slice) : Type 0 where
  pub format : IsFormat s.format
  pub limits : IsLimits s.limits
  -- MaxPicOrderCntLsb is a power of two from 16 to 65536
  pub log2_max_pic_order_cnt_lsb_minus4 : ℕ
  pub log2_bound : log2_max_pic_order_cnt_lsb_minus4 ≤ 12
  pub max_pic_order_cnt_lsb : s.max_pic_order_cnt_lsb ≡ 2 ^ (log2_max_pic_order_cnt_lsb_minus4 + 4)
  pub sets : All IsShortTermRefPicSet s.short_term_ref_pic_sets
  -- the first slice segment of a picture is independent
  pub first : s.first_slice_segment_in_pic_flag ≡ true → s.dependent_slice_segment_flag ≡ false

-- what an independent slice has read itself
pub record IsIndependent (s : Slice) : Type 0 where
  pub pic_order_cnt_lsb : s.pic_order_cnt_lsb < s.max_pic_order_cnt_lsb
  pub curr_rps_idx : s.curr_rps_idx ≤ length s.short_term_ref_pic_sets
  pub own_set : IsShortTermRefPicSet s.short_term_ref_pic_set
  pub long_term : All (IsLongTermMember s.max_pic_order_cnt_lsb) s.long_term_pics
  pub few_long_term : length s.long_term_pics ≤ 16
  pub list0 : IsListRule s.list0
  pub list1 : IsListRule s.list1

abbrev pub IsMeaning : Meaning → Type 0
IsMeaning (SequenceSet format) = IsFormat format
IsMeaning (CodedSlice s) = IsSlice s × (s.dependent_slice_segment_flag ≡ false → IsIndependent s)
IsMeaning u = Unit {0}

-- before the first sequence set no unit means a slice or an end
abbrev pub SetComesFirst : List Meaning → Type 0
SetComesFirst [] = Unit {0}
SetComesFirst (CodedSlice s ∷ us) = ⊥
SetComesFirst (SequenceSet format ∷ us) = Unit {0}
SetComesFirst (EndOfSequence ∷ us) = ⊥
SetComesFirst (EndOfBitstream ∷ us) = ⊥
SetComesFirst (Other ∷ us) = SetComesFirst us
SetComesFirst (Refused cause ∷ us) = SetComesFirst us

pub record AreMeanings (us : List Meaning) : Type 0 where
  pub each : All IsMeaning us
  pub set_first : SetComesFirst us
