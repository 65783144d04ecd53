-- The pictures of some units, latest first, each with its flags and its order count.
use Rattle.std.specs.Prelude.{ℕ, ℤ, pos, ◌+◌, ◌-ℤ◌, Bool, true, false, not, ◌&&◌, ◌||◌, List, []}
use Rattle.std.specs.Prelude.{◌∷◌, ◌++◌, if◌then◌else◌, ◌==◌, Option, Some, None}
use Rattle.hevc_spec.specs.UnitTypes.{is_idr, is_bla, is_cra, is_irap, is_radl, is_rasl, is_slnr}
use Rattle.hevc_walk.specs.Meanings.{Slice, Format, Limits, Meaning, SequenceSet, CodedSlice}
use Rattle.hevc_walk.specs.Meanings.{EndOfSequence, EndOfBitstream, Other, Refused}
use Rattle.hevc_walk.specs.DependentSlices.{KeptHeader, whole_slice, kept_header}
use Rattle.hevc_walk.specs.OrderCounts.{count_behind, is_i32}

-- What the pictures before tell of the next one (8.1.3, 8.3.1).
pub record Context : Type 0 where
  pub number : ℕ
  pub first_in_bitstream : Bool
  pub first_after_end : Bool
  -- the order count of prevTid0Pic, if there is one (8.3.1)
  pub prev_tid0_count : Option ℤ
  -- NoRaslOutputFlag of the latest IRAP picture, false where there is none
  pub latest_irap_no_rasl : Bool

-- NoRaslOutputFlag (8.1.3). It holds for every other picture
-- that is first after an end of sequence, too.
abbrev pub no_rasl_output : Context → Slice → Bool
no_rasl_output c s =
    is_idr s.nal_unit_type
    || is_bla s.nal_unit_type
    || (is_cra s.nal_unit_type && (c.first_in_bitstream || s.handled_as_bla))
    || c.first_after_end

-- an IRAP picture with NoRaslOutputFlag: a coded video sequence begins
abbrev pub begins_sequence : Context → Slice → Bool
begins_sequence c s = is_irap s.nal_unit_type && no_rasl_output c s

-- PicOrderCntVal (8.3.1)
abbrev pub order_count_of : Context → Slice → ℤ
order_count_of c s =
    if begins_sequence c s then pos s.pic_order_cnt_lsb
    else count_behind s.max_pic_order_cnt_lsb c.prev_tid0_count s.pic_order_cnt_lsb

-- What a picture's first slice tells of it (8.1.3, 8.3.1).
pub record Head : Type 0 where
  pub number : ℕ
  pub nal_unit_type : ℕ
  pub pic_order_cnt_lsb : ℕ
  -- PicOrderCntVal
  pub order_count : ℤ
  -- TemporalId is 0, and it is none of RADL, RASL or sub-layer non-reference
  pub valid_for_prev_tid0 : Bool
  -- an IRAP picture with NoRaslOutputFlag
  pub starts_sequence : Bool
  -- RASL, and the latest IRAP picture has NoRaslOutputFlag: it isn't decoded here (8.1.3)
  pub skipped : Bool
  -- PicOutputFlag (8.1.3), where a RASL picture goes by its own NoRaslOutputFlag
  pub pic_output_flag : Bool
  -- NoOutputOfPriorPicsFlag (C.5.2.2), not inferred from a changed size
  pub no_output_of_prior_pics : Bool
  -- NoRaslOutputFlag of the latest IRAP picture, up to this one
  pub latest_irap_no_rasl : Bool
  pub format : Format
  pub limits : Limits

unfoldable pub head : Context → Slice → Head
head c s = record {
  number = c.number;
  nal_unit_type = s.nal_unit_type;
  pic_order_cnt_lsb = s.pic_order_cnt_lsb;
  order_count = order_count_of c s;
  valid_for_prev_tid0 =
      s.temporal_id == 0
      && not (is_radl s.nal_unit_type || is_rasl s.nal_unit_type || is_slnr s.nal_unit_type);
  starts_sequence = begins_sequence c s;
  skipped = is_rasl s.nal_unit_type && c.latest_irap_no_rasl;
  pic_output_flag = s.pic_output_flag && not (is_rasl s.nal_unit_type && no_rasl_output c s);
  no_output_of_prior_pics =
      begins_sequence c s
      && not c.first_in_bitstream
      && (is_cra s.nal_unit_type || s.no_output_of_prior_pics_flag);
  latest_irap_no_rasl =
      if is_irap s.nal_unit_type then no_rasl_output c s else c.latest_irap_no_rasl;
  format = s.format;
  limits = s.limits;
}

-- its order count and PicOrderCntMsb are 32-bit numbers (8.3.1)
unfoldable pub order_count_in_range : Head → Bool
order_count_in_range p = is_i32 p.order_count && is_i32 (p.order_count -ℤ pos p.pic_order_cnt_lsb)

-- the pictures after it may take their order counts from its own: it can be prevTid0Pic
abbrev pub is_tid0 : Head → Bool
is_tid0 p = not p.skipped && p.valid_for_prev_tid0

-- A picture: its slices, each with its unit, and the ends that are before the next picture.
pub record Picture : Type 0 where
  pub head : Head
  pub open head use *
  pub first : Slice
  -- the unit of its first slice
  pub unit : ℕ
  pub slices : List (ℕ × Slice)
  pub sequence_ends : Bool
  pub bitstream_ends : Bool

abbrev pub context : List Picture → Context
context [] = record {
  number = 0;
  first_in_bitstream = true;
  first_after_end = true;
  prev_tid0_count = None;
  latest_irap_no_rasl = false;
}
context (p ∷ before) = record {
  number = p.number + 1;
  first_in_bitstream = p.bitstream_ends;
  first_after_end = p.sequence_ends;
  prev_tid0_count = if is_tid0 p.head then Some p.order_count else (context before).prev_tid0_count;
  latest_irap_no_rasl = p.latest_irap_no_rasl;
}

-- a picture that begins at unit k (7.4.2.4.5)
abbrev pub new_picture : ℕ → Slice → List Picture → Picture
new_picture k s before = record {
  head = head (context before) s;
  first = s;
  unit = k;
  slices = (k, s) ∷ [];
  sequence_ends = false;
  bitstream_ends = false;
}

-- a slice at unit k begins a picture, or belongs to the latest one (7.4.2.4.5)
abbrev pub with_slice : ℕ → Slice → List Picture → List Picture
with_slice k s [] = new_picture k s [] ∷ []
with_slice k s (p ∷ before) =
    if s.first_slice_segment_in_pic_flag then new_picture k s (p ∷ before) ∷ p ∷ before
    else record p { slices = p.slices ++ (k, s) ∷ [] } ∷ before

-- an end of sequence (7.4.3.6) or of bitstream (7.4.3.7) counts for the next picture,
-- and ends no picture that is open
abbrev pub with_sequence_end : List Picture → List Picture
with_sequence_end [] = []
with_sequence_end (p ∷ before) = record p { sequence_ends = true } ∷ before

abbrev pub with_bitstream_end : List Picture → List Picture
with_bitstream_end [] = []
with_bitstream_end (p ∷ before) = record p { bitstream_ends = true } ∷ before

-- What some units give, in decoding order (7.4.2.4).
pub record Stream : Type 0 where
  -- the first sequence set, with its unit
  pub first_set : Option (ℕ × Format)
  -- the header of the latest independent slice
  pub kept : Option KeptHeader
  -- latest first
  pub pictures : List Picture

-- no slice is read before the first sequence set, so none that comes after a picture is the first
abbrev pub with_set : ℕ → Format → Option (ℕ × Format) → List Picture → Option (ℕ × Format)
with_set k format None [] = Some (k, format)
with_set k format None (p ∷ before) = None
with_set k format (Some set) pictures = Some set

abbrev pub with_whole : ℕ → Option Slice → List Picture → List Picture
with_whole k None pictures = pictures
with_whole k (Some s) pictures = with_slice k s pictures

-- one more unit, the k-th
abbrev pub with_unit : ℕ → Meaning → Stream → Stream
with_unit k (SequenceSet format) v =
    record v { first_set = with_set k format v.first_set v.pictures }
with_unit k (CodedSlice s) v = record v {
  kept = kept_header v.kept s;
  pictures = with_whole k (whole_slice v.kept s) v.pictures;
}
with_unit k EndOfSequence v = record v { pictures = with_sequence_end v.pictures }
with_unit k EndOfBitstream v = record v { pictures = with_bitstream_end v.pictures }
with_unit k Other v = v
with_unit k (Refused cause) v = v

abbrev pub nothing_yet : Stream
nothing_yet = record { first_set = None; kept = None; pictures = [] }

-- the units from the k-th on
abbrev pub stream_from : ℕ → Stream → List Meaning → Stream
stream_from k v [] = v
stream_from k v (u ∷ us) = stream_from (k + 1) (with_unit k u v) us

abbrev pub stream : List Meaning → Stream
stream us = stream_from 0 nothing_yet us

-- the pictures of a list of units, latest first
abbrev pub pictures : List Meaning → List Picture
pictures us = (stream us).pictures
