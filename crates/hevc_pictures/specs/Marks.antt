-- How a picture is marked (8.3.2).
use Rattle.std.specs.Prelude.{◌≡◌, Bool, true, false, pos}
use Rattle.hevc_bits.specs.NaluType.{nalu_type_number}
use Rattle.hevc_walk.specs.Buffer.{Mark}
use Rattle.hevc_walk.specs.Buffer as walk
use Rattle.hevc_pictures.specs.declared.reference.Reference.{Reference}
use Rattle.hevc_pictures.specs.declared.reference.Reference.TheVariants.{None, ShortTerm, LongTerm}
use Rattle.hevc_pictures.specs.declared.picture_data.PictureData.{PictureData}

-- marked as used for reference
abbrev pub is_reference : Reference → Bool
is_reference None = false
is_reference ShortTerm = true
is_reference LongTerm = true

abbrev pub is_short_term : Reference → Bool
is_short_term None = false
is_short_term ShortTerm = true
is_short_term LongTerm = false

abbrev pub reference_of : PictureData → Reference
reference_of p = p.reference

abbrev pub with_reference : Reference → PictureData → PictureData
with_reference mark p = record p { reference = mark }

-- a picture of which nothing is known: no number but 0, no flag, no mark
pub record Unmarked (p : PictureData) : Type 0 where
  pub nalu_type : nalu_type_number p.nalu_type ≡ 0
  pub no_rasl_output_flag : p.no_rasl_output_flag ≡ false
  pub pic_output_flag : p.pic_output_flag ≡ false
  pub valid_for_prev_tid0_pic : p.valid_for_prev_tid0_pic ≡ false
  pub slice_pic_order_cnt_lsb : p.slice_pic_order_cnt_lsb ≡ pos 0
  pub pic_order_cnt_msb : p.pic_order_cnt_msb ≡ pos 0
  pub pic_order_cnt_val : p.pic_order_cnt_val ≡ pos 0
  pub no_output_of_prior_pics_flag : p.no_output_of_prior_pics_flag ≡ false
  pub is_irap : p.is_irap ≡ false
  pub first_picture_after_eos : p.first_picture_after_eos ≡ false
  pub pic_latency_cnt : p.pic_latency_cnt ≡ pos 0
  pub needed_for_output : p.needed_for_output ≡ false
  pub short_term_ref_pic_set_size_bits : p.short_term_ref_pic_set_size_bits ≡ 0
  pub mark : reference_of p ≡ None

-- the mark of an entry of the walk
abbrev pub mark_of : Reference → Mark
mark_of None = walk.Unused
mark_of ShortTerm = walk.ShortTerm
mark_of LongTerm = walk.LongTerm
