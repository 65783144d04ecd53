-- What the code's records of pictures stand for.
use Rattle.std.proofs.Common.{◌≡◌, ℕ, ℤ, pos, ◌≤ℤ◌, Bool, true, false, ◌&&◌, not, refl, sym, ap}
use Rattle.std.proofs.Common.{◌∙◌, subst, if◌then◌else◌, arith}
use Rattle.std.specs.Prelude.{IsErr, OnErr, Result, Ok, Err}
use Rattle.std.proofs.lemmas.Int.{ints}
use Rattle.hevc_spec.specs.UnitTypes.{is_irap, is_rasl}
use Rattle.hevc_bits.specs.NaluType.{nalu_type_number}
use Rattle.hevc_walk.specs.Meanings.{Slice}
use Rattle.hevc_walk.specs.Pictures as walk
use Rattle.hevc_walk.specs.Pictures.{Context, head, no_rasl_output, order_count_in_range}
use Rattle.hevc_walk.specs.Walk.{is_decoded}
use Rattle.hevc_pictures.specs.declared.limits.Limits.{Limits}
use Rattle.hevc_pictures.specs.declared.picture_data.PictureData.{PictureData}
use Rattle.hevc_backend.specs.declared.negotiation.NegotiationInfo.{NegotiationInfo}
use Rattle.hevc_pictures.specs.Limits.{limits_of}
use Rattle.hevc_pictures.specs.NewPicture.{IsNewPicture}
use Rattle.hevc_refs.specs.Marking.{RefersAs}
use Rattle.hevc_dpb.specs.Plain.{from_zero}
use Rattle.hevc_backend.specs.Negotiation.{format_of}
use Rattle.hevc_driver.specs.declared.head.Head.{Head}
use Rattle.hevc_driver.specs.Heads.{head_of}

both_left : (a b c : Bool) → a && b && c ≡ true → a ≡ true
both_left true b c h = refl
both_left false b c h = h

pub refers : (h : Head) → RefersAs (head_of h) h.picture
refers h = record { nal_unit_type = refl; order_count = refl; starts_sequence = refl }

abbrev pub head_by : ℕ → PictureData → Bool → Bool → NegotiationInfo → Limits → walk.Head
head_by number picture skipped latest format limits = record {
  number = number;
  nal_unit_type = nalu_type_number picture.nalu_type;
  pic_order_cnt_lsb = from_zero picture.slice_pic_order_cnt_lsb;
  order_count = picture.pic_order_cnt_val;
  valid_for_prev_tid0 = picture.valid_for_prev_tid0_pic;
  starts_sequence = picture.is_irap && picture.no_rasl_output_flag;
  skipped = skipped;
  pic_output_flag = picture.pic_output_flag;
  no_output_of_prior_pics = picture.no_output_of_prior_pics_flag;
  latest_irap_no_rasl = latest;
  format = format_of format;
  limits = limits_of limits;
}

-- what is known of a picture that begins is what its head says
pub same_head : (c : Context) (w : Slice) (bits number : ℕ) (picture : PictureData) (skipped latest : Bool)
    (format : NegotiationInfo) (limits : Limits) → IsNewPicture c w bits picture → number ≡ c.number
    → skipped ≡ (is_rasl w.nal_unit_type && c.latest_irap_no_rasl)
    → latest ≡ (if picture.is_irap then picture.no_rasl_output_flag else c.latest_irap_no_rasl)
    → format_of format ≡ w.format → limits_of limits ≡ w.limits
    → head_by number picture skipped latest format limits ≡ head c w
unfolding head
same_head c w bits number picture skipped latest format limits is number_is skipped_is latest_is format_is limits_is =
    let lsb = ap from_zero is.told.pic_order_cnt_lsb in
    let irap = latest_is
    ∙ ap (λ (b : Bool). if b then picture.no_rasl_output_flag else c.latest_irap_no_rasl) is.is_irap_picture
    ∙ ap (λ (b : Bool). if is_irap w.nal_unit_type then b else c.latest_irap_no_rasl) is.no_rasl_output_flag in
    rw (
      number_is,
      is.told.nal_unit_type,
      lsb,
      is.told.order_count,
      is.told.valid_for_prev_tid0,
      is.told.starts_sequence,
      skipped_is,
      is.told.pic_output_flag,
      is.told.no_output_of_prior_pics,
      irap,
      format_is,
      limits_is,
    ) refl

pub prior_starts : (c : Context) (w : Slice) (discards starts : Bool)
    → discards ≡ (head c w).no_output_of_prior_pics → starts ≡ (head c w).starts_sequence → discards ≡ true
    → starts ≡ true
unfolding head
prior_starts c w discards starts d s e = s ∙ both_left _ _ _ (sym d ∙ e)

-- a result that isn't refused
pub not_refused : {T E : Type 0} (r : Result T E) (v : T) (b : Bool) → r ≡ Ok v → (b ≡ false → IsErr r) → b ≡ true
not_refused r v true is h = refl
not_refused r v false is h = absurd (cc (subst IsErr is (h refl)))

pub refused_as : {T S E : Type 0} (r : Result T E) (e : E) (s : Result S E) (P : Type 0) → r ≡ Err e
    → (IsErr r → P) → OnErr s P
refused_as r e (Ok v) P is h = tt
refused_as r e (Err f) P is h = h (subst IsErr (sym is) refl)

pub from_lsb : (n : ℤ) (m : ℕ) → n ≡ pos m → pos 0 ≤ℤ n
from_lsb n m is = omega (arith, ints, is)

pub decoded_is : (p q : walk.Head) → p ≡ q → order_count_in_range q ≡ true → p.skipped ≡ false → is_decoded p ≡ true
decoded_is p q same within shown =
    ap (λ (b : Bool). b && not p.skipped) (ap order_count_in_range same ∙ within) ∙ ap not shown
