-- What a picture's first slice tells of it, as the walk has it.
use Rattle.std.specs.Prelude.{◌≡◌, ℕ, ℤ, pos, ◌+◌, ◌-ℤ◌, Bool, false, ◌&&◌, Option}
use Rattle.hevc_spec.specs.UnitTypes.{is_irap}
use Rattle.hevc_bits.specs.NaluType.{nalu_type_number}
use Rattle.hevc_picture_slice.specs.declared.slice.Slice.{Slice}
use Rattle.hevc_walk.specs.Meanings as walk
use Rattle.hevc_walk.specs.Pictures.{Context, Head, head, no_rasl_output}
use Rattle.hevc_pictures.specs.declared.picture_data.PictureData.{PictureData}
use Rattle.hevc_pictures.specs.declared.reference.Reference.TheVariants as mark
use Rattle.hevc_pictures.specs.Marks.{reference_of}

-- The pictures before tell this of the next one: whether it is first in the bitstream, or first
-- after an end of sequence, and the order count of prevTid0Pic.
pub record IsContext (c : Context) (in_bitstream after_eos : Bool) (prev_count : Option ℤ)
    : Type 0 where
  pub first_in_bitstream : c.first_in_bitstream ≡ in_bitstream
  pub first_after_end : c.first_after_end ≡ after_eos
  pub prev_tid0_count : c.prev_tid0_count ≡ prev_count

-- a slice segment has these values of the walk's slice, where MaxPicOrderCntLsb and
-- HandleCraAsBlaFlag are these
pub record IsFirstSlice (s : walk.Slice) (slice : Slice) (max_lsb : ℤ) (handle_cra_as_bla : Bool)
    : Type 0 where
  pub nal_unit_type : slice.nalu.header.nal_unit_type ≡ s.nal_unit_type
  pub temporal_id : slice.nalu.header.nuh_temporal_id_plus1 ≡ s.temporal_id + 1
  pub no_output_of_prior_pics_flag :
      slice.header.no_output_of_prior_pics_flag ≡ s.no_output_of_prior_pics_flag
  pub pic_output_flag : slice.header.pic_output_flag ≡ s.pic_output_flag
  pub pic_order_cnt_lsb : slice.header.pic_order_cnt_lsb ≡ s.pic_order_cnt_lsb
  pub max_pic_order_cnt_lsb : max_lsb ≡ pos s.max_pic_order_cnt_lsb
  pub handled_as_bla : handle_cra_as_bla ≡ s.handled_as_bla

-- what is known of a picture is what its head says
pub record IsHeadOf (h : Head) (p : PictureData) : Type 0 where
  pub nal_unit_type : nalu_type_number p.nalu_type ≡ h.nal_unit_type
  pub pic_order_cnt_lsb : p.slice_pic_order_cnt_lsb ≡ pos h.pic_order_cnt_lsb
  pub order_count : p.pic_order_cnt_val ≡ h.order_count
  pub valid_for_prev_tid0 : p.valid_for_prev_tid0_pic ≡ h.valid_for_prev_tid0
  pub starts_sequence : (p.is_irap && p.no_rasl_output_flag) ≡ h.starts_sequence
  pub pic_output_flag : p.pic_output_flag ≡ h.pic_output_flag
  pub no_output_of_prior_pics : p.no_output_of_prior_pics_flag ≡ h.no_output_of_prior_pics

-- a picture that begins with a slice, in this context
pub record IsNewPicture (c : Context) (s : walk.Slice) (st_rps_bits : ℕ) (p : PictureData)
    : Type 0 where
  pub told : IsHeadOf (head c s) p
  pub no_rasl_output_flag : p.no_rasl_output_flag ≡ no_rasl_output c s
  pub is_irap_picture : p.is_irap ≡ is_irap s.nal_unit_type
  pub pic_order_cnt_msb : p.pic_order_cnt_msb ≡ p.pic_order_cnt_val -ℤ p.slice_pic_order_cnt_lsb
  pub first_picture_after_eos : p.first_picture_after_eos ≡ c.first_after_end
  pub short_term_ref_pic_set_size_bits : p.short_term_ref_pic_set_size_bits ≡ st_rps_bits
  pub pic_latency_cnt : p.pic_latency_cnt ≡ pos 0
  pub needed_for_output : p.needed_for_output ≡ false
  pub reference : reference_of p ≡ mark.None
