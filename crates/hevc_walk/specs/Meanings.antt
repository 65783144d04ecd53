-- What a unit means for the pictures, with the facts of the sets that are kept at it.
use Rattle.std.specs.Prelude.{ℕ, ℤ, Bool, List, Option, ◌==◌, ◌&&◌}

-- What is negotiated of a sequence set (7.4.3.2.1). The first sequence
-- set opens a negotiation, and so does a picture of another format
-- than the accepted one; a later sequence set by itself opens none.
pub record Format : Type 0 where
  -- pic_width_in_luma_samples, pic_height_in_luma_samples
  pub coded_width : ℕ
  pub coded_height : ℕ
  pub general_profile_idc : ℕ
  pub bit_depth_luma_minus8 : ℕ
  pub bit_depth_chroma_minus8 : ℕ
  pub chroma_format_idc : ℕ
  -- MaxDpbSize (A.4.2), at most 16: how many pictures the buffer has room for
  pub max_num_pics : ℕ

abbrev pub same_format : Format → Format → Bool
same_format a b =
    a.coded_width == b.coded_width
    && a.coded_height == b.coded_height
    && a.general_profile_idc == b.general_profile_idc
    && a.bit_depth_luma_minus8 == b.bit_depth_luma_minus8
    && a.bit_depth_chroma_minus8 == b.bit_depth_chroma_minus8
    && a.chroma_format_idc == b.chroma_format_idc
    && a.max_num_pics == b.max_num_pics

-- sps_max_num_reorder_pics, sps_max_latency_increase_plus1 and sps_max_dec_pic_buffering_minus1
-- (7.4.3.2.1) of the highest sub-layer that is decoded, HighestTid (C.5.2.2)
pub record Limits : Type 0 where
  pub max_num_reorder_pics : ℕ
  pub max_latency_increase_plus1 : ℕ
  pub max_dec_pic_buffering_minus1 : ℕ

-- A member of a short-term reference picture set (7.4.8): DeltaPocS0 or DeltaPocS1,
-- and UsedByCurrPicS0 or S1.
pub record ShortTermMember : Type 0 where
  pub delta_poc : ℤ
  pub used_by_curr_pic : Bool

pub record ShortTermRefPicSet : Type 0 where
  pub negative_pics : List ShortTermMember
  pub positive_pics : List ShortTermMember

-- A long-term member of a slice header (7.4.7.1): PocLsbLt, UsedByCurrPicLt, and DeltaPocMsbCycleLt
-- (7-52) where delta_poc_msb_present_flag is set.
pub record LongTermMember : Type 0 where
  pub poc_lsb : ℕ
  pub delta_poc_msb_cycle : Option ℕ
  pub used_by_curr_pic : Bool

-- What a slice header says of one reference list: num_ref_idx_active_minus1 + 1, and the members of
-- list_entry where ref_pic_list_modification_flag is set (7.4.7.2).
pub record ListRule : Type 0 where
  pub num_ref_idx_active : ℕ
  pub list_entry : Option (List ℕ)

pub data SliceType : Type 0 where
  B P I : SliceType

-- The part of a slice segment header that a dependent slice segment
-- takes from the independent one before it (7.4.7.1).
pub record SliceHeader : Type 0 where
  pub slice_type : SliceType
  pub pic_output_flag : Bool
  pub pic_order_cnt_lsb : ℕ
  -- CurrRpsIdx: which set of the sequence set is meant,
  -- or their number where the header has its own
  pub curr_rps_idx : ℕ
  -- the header's own, empty where it has none
  pub short_term_ref_pic_set : ShortTermRefPicSet
  pub long_term_pics : List LongTermMember
  -- NumPicTotalCurr (7-55)
  pub num_pic_total_curr : ℕ
  pub list0 : ListRule
  pub list1 : ListRule

-- What the picture set that a slice names, and the sequence set that this one names,
-- say as they are kept at the slice.
pub record NamedSets : Type 0 where
  pub format : Format
  pub limits : Limits
  -- MaxPicOrderCntLsb (7-8)
  pub max_pic_order_cnt_lsb : ℕ
  pub short_term_ref_pic_sets : List ShortTermRefPicSet
  pub pps_curr_pic_ref_enabled_flag : Bool

-- A slice segment: its unit's header and bytes, its own header, and the sets that it names.
pub record Slice : Type 0 where
  pub nal_unit_type : ℕ
  pub temporal_id : ℕ
  pub bytes : List ℕ
  -- HandleCraAsBlaFlag (8.1.3): a CRA picture is handled as a BLA picture; says nothing of others
  pub handled_as_bla : Bool
  pub first_slice_segment_in_pic_flag : Bool
  pub no_output_of_prior_pics_flag : Bool
  pub pic_parameter_set_id : ℕ
  pub dependent_slice_segment_flag : Bool
  pub segment_address : ℕ
  pub header : SliceHeader
  pub open header use *
  pub sets : NamedSets
  pub open sets use *

-- Why a unit is refused by what it and the kept sets say.
-- A table and a row are those of docs/TABLES.md.
pub data UnitCause : Type 0 where
  TruncatedNalu : UnitCause
  InvalidNaluType : (nal_unit_type : ℕ) → UnitCause
  OutOfBits : UnitCause
  OutOfRange : (table row : ℕ) → UnitCause
  MissingPps : (pic_parameter_set_id : ℕ) → UnitCause

-- What a unit means after the units before it.
pub data Meaning : Type 0 where
  SequenceSet : Format → Meaning
  CodedSlice : Slice → Meaning
  EndOfSequence : Meaning
  EndOfBitstream : Meaning
  -- a unit that asks nothing of the pictures
  Other : Meaning
  Refused : UnitCause → Meaning
