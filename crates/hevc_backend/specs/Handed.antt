-- What a backend is handed with its calls: parameter sets, slice segment headers and pictures.
use Rattle.std.specs.Prelude.{◌≡◌, ℕ, ℤ, pos, ◌-ℤ◌, Bool, false, List, [], ◌∷◌, ◌++◌, map, Option}
use Rattle.std.specs.Prelude.{IfSome, Contains}
use Rattle.std.specs.List.{flat_map}
use Rattle.hevc_spec.specs.UnitTypes.{is_irap}
use Rattle.hevc_records.specs.Sps.{PlainSps}
use Rattle.hevc_records.specs.Pps.{PlainPps}
use Rattle.hevc_records.specs.SliceHeader.{PlainSliceSegmentHeader}
use Rattle.hevc_bits.specs.NaluType.{nalu_type_number}
use Rattle.hevc_sequence_set.specs.declared.sps.Sps.{Sps}
use Rattle.hevc_sequence_set.specs.Sps.{plain_sps}
use Rattle.hevc_picture_slice.specs.declared.pps.Pps.{Pps}
use Rattle.hevc_picture_slice.specs.Pps.{plain_pps}
use Rattle.hevc_picture_slice.specs.declared.slice.Slice as code
use Rattle.hevc_picture_slice.specs.SliceHeader.{plain_slice_header}
use Rattle.hevc_walk.specs.Buffer.{Buffer, Mark, Unused}
use Rattle.hevc_walk.specs.Meanings.{Slice}
use Rattle.hevc_walk.specs.Pictures.{Context, head, no_rasl_output}
use Rattle.hevc_walk.specs.Walk.{Store, accepted_size}
use Rattle.hevc_pictures.specs.declared.picture_data.PictureData.{PictureData}
use Rattle.hevc_pictures.specs.Marks.{mark_of, reference_of}
use Rattle.hevc_dpb.specs.declared.entry.DpbEntry.{DpbEntry}
use Rattle.hevc_dpb.specs.declared.dpb.Dpb.{Dpb}
use Rattle.hevc_dpb.specs.Entries.{IsPartOf}
use Rattle.hevc_dpb.specs.Views.{buffer_of, max_num_pics_of}

-- A slice segment: the parameter sets that are active for it (7.4.2.4.2), and its header, that of a
-- dependent one completed (7.4.7.1).
pub record Segment : Type 0 where
  pub sps : PlainSps
  pub pps : PlainPps
  pub header : PlainSliceSegmentHeader

abbrev pub segment_of : code.Slice → Sps → Pps → Segment
segment_of slice sps pps = record {
  sps = plain_sps sps;
  pps = plain_pps pps;
  header = plain_slice_header slice.header;
}

-- All that is known of a picture (8.1.3, 8.3.1, C.5.2.2), and how it is stored.
pub record PlainPicture : Type 0 where
  pub nal_unit_type : ℕ
  pub no_rasl_output_flag : Bool
  pub pic_output_flag : Bool
  pub valid_for_prev_tid0 : Bool
  pub pic_order_cnt_lsb : ℤ
  pub pic_order_cnt_msb : ℤ
  pub order_count : ℤ
  pub no_output_of_prior_pics : Bool
  pub is_irap : Bool
  pub first_after_end : Bool
  -- of its first slice
  pub st_rps_bits : ℕ
  pub latency_count : ℤ
  pub needed_for_output : Bool
  pub mark : Mark

abbrev pub plain_picture : PictureData → PlainPicture
plain_picture p = record {
  nal_unit_type = nalu_type_number p.nalu_type;
  no_rasl_output_flag = p.no_rasl_output_flag;
  pic_output_flag = p.pic_output_flag;
  valid_for_prev_tid0 = p.valid_for_prev_tid0_pic;
  pic_order_cnt_lsb = p.slice_pic_order_cnt_lsb;
  pic_order_cnt_msb = p.pic_order_cnt_msb;
  order_count = p.pic_order_cnt_val;
  no_output_of_prior_pics = p.no_output_of_prior_pics_flag;
  is_irap = p.is_irap;
  first_after_end = p.first_picture_after_eos;
  st_rps_bits = p.short_term_ref_pic_set_size_bits;
  latency_count = p.pic_latency_cnt;
  needed_for_output = p.needed_for_output;
  mark = mark_of (reference_of p);
}

-- the picture that begins with a slice, whose header's own short-term set has so many bits
unfoldable pub first_picture : Context → Slice → ℕ → PlainPicture
first_picture c s st_rps_bits = record {
  nal_unit_type = s.nal_unit_type;
  no_rasl_output_flag = no_rasl_output c s;
  pic_output_flag = (head c s).pic_output_flag;
  valid_for_prev_tid0 = (head c s).valid_for_prev_tid0;
  pic_order_cnt_lsb = pos s.pic_order_cnt_lsb;
  pic_order_cnt_msb = (head c s).order_count -ℤ pos s.pic_order_cnt_lsb;
  order_count = (head c s).order_count;
  no_output_of_prior_pics = (head c s).no_output_of_prior_pics;
  is_irap = is_irap s.nal_unit_type;
  first_after_end = c.first_after_end;
  st_rps_bits = st_rps_bits;
  -- it isn't stored yet
  latency_count = pos 0;
  needed_for_output = false;
  mark = Unused;
}

-- no picture: no number but 0, no flag, no mark
abbrev pub no_picture : PlainPicture
no_picture = record {
  nal_unit_type = 0;
  no_rasl_output_flag = false;
  pic_output_flag = false;
  valid_for_prev_tid0 = false;
  pic_order_cnt_lsb = pos 0;
  pic_order_cnt_msb = pos 0;
  order_count = pos 0;
  no_output_of_prior_pics = false;
  is_irap = false;
  first_after_end = false;
  st_rps_bits = 0;
  latency_count = pos 0;
  needed_for_output = false;
  mark = Unused;
}

-- The decoded picture buffer (C.5.2): its entries in the order in which they were stored, and how
-- many it may hold (A.4.2).
pub record PlainDpb : Type 0 where
  pub entries : Buffer
  pub max_num_pics : ℕ

abbrev pub plain_dpb : {T : Type 0} → Dpb T → PlainDpb
plain_dpb dpb = record { entries = buffer_of dpb; max_num_pics = max_num_pics_of dpb }

-- as the walk has it
abbrev pub dpb_of : Store → PlainDpb
dpb_of store = record {
  entries = store.buffer;
  max_num_pics = accepted_size store.accepted;
}

-- one that holds nothing
abbrev pub no_dpb : PlainDpb
no_dpb = record { entries = []; max_num_pics = 0 }

-- What came with one call.
pub data Handed : Type 0 where
  -- the sequence parameter set whose format is negotiated
  Sequence : (set : PlainSps) → Handed
  -- a picture that begins
  Announced : (number : ℕ) → (picture : PlainPicture) → Handed
  -- the same picture, with what is stored as it is decoded, and its first slice segment
  Begun : (number : ℕ) → (picture : PlainPicture) → (dpb : PlainDpb) → (segment : Segment) → Handed
  -- a slice segment of a picture, with the same
  Decoded : (number : ℕ) → (dpb : PlainDpb) → (segment : Segment) → Handed

-- the latest that came is this picture, which begins
abbrev pub EndsWithPicture : (number : ℕ) → PlainPicture → List Handed → Type 0
EndsWithPicture number picture hs =
    (earlier : List Handed) × (hs ≡ earlier ++ Announced number picture ∷ [])

-- so it is, where a backend exposes what came
pub record IsAnnounced (handed : Option (List Handed)) (number : ℕ) (picture : PlainPicture)
    : Type 0 where
  pub latest : IfSome handed (EndsWithPicture number picture)

-- ---- what is stored

-- a picture but for what the buffer changes of it: its mark, its latency count, whether it is
-- needed for output
abbrev pub unstored : PlainPicture → PlainPicture
unstored p = record p { latency_count = pos 0; needed_for_output = false; mark = Unused }

abbrev pub numbered : (number : ℕ) → PictureData → ℕ × PlainPicture
numbered number p = (number, unstored (plain_picture p))

-- the pictures that were announced, with their numbers
abbrev pub announced_in : Handed → List (ℕ × PlainPicture)
announced_in (Sequence set) = []
announced_in (Announced number picture) = (number, unstored picture) ∷ []
announced_in (Begun number picture dpb segment) = []
announced_in (Decoded number dpb segment) = []

abbrev pub announced : List Handed → List (ℕ × PlainPicture)
announced hs = flat_map announced_in hs

-- a picture of this number was announced, where a backend exposes what came
pub record IsAmong (handed : Option (List Handed)) (number : ℕ) (picture : PictureData)
    : Type 0 where
  pub of_handed : IfSome handed (λ hs. Contains (announced hs) (numbered number picture))

-- those of these entries
abbrev pub stored_pictures : {T : Type 0} → List (DpbEntry T) → List (ℕ × PlainPicture)
stored_pictures es = map (λ e. numbered e.number e.picture) es

-- each of these entries is a picture as it was announced, where a backend exposes what came
pub record AreAnnounced {T : Type 0} (handed : Option (List Handed)) (es : List (DpbEntry T))
    : Type 0 where
  pub of_handed : IfSome handed (λ hs. IsPartOf (stored_pictures es) (announced hs))
