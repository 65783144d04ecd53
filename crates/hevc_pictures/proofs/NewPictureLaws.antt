-- What code finds of a picture is what the walk says of it.
use Rattle.std.proofs.Common.{◌≡◌, ℕ, ℤ, pos, ◌+◌, ◌-ℤ◌, Bool, not, cond, ◌&&◌, ◌||◌, eqb, refl, sym, ap, ◌∙◌}
use Rattle.std.specs.Prelude.{Option}
use Rattle.hevc_spec.specs.UnitTypes.{is_idr, is_bla, is_cra, is_irap, is_radl, is_rasl, is_slnr}
use Rattle.hevc_picture_slice.specs.declared.slice.Slice.{Slice}
use Rattle.hevc_walk.specs.Meanings as walk
use Rattle.hevc_walk.specs.OrderCounts.{count_behind, is_i32}
use Rattle.hevc_walk.specs.Pictures.{Context, head, no_rasl_output, begins_sequence, order_count_of}
use Rattle.hevc_walk.specs.Pictures.{order_count_in_range}
use Rattle.hevc_pictures.specs.OrderCounts.{count_by}
use Rattle.hevc_pictures.specs.NewPicture.{IsContext, IsFirstSlice}

module _ (c : Context) (s : walk.Slice) (in_bitstream after_eos : Bool) (prev : Option ℤ) (slice : Slice)
    (max_lsb : ℤ) (handle : Bool)
    (k : IsContext c in_bitstream after_eos prev) (f : IsFirstSlice s slice max_lsb handle) (t : ℕ)
    (is_t : t ≡ s.nal_unit_type) where
  pub no_rasl_is : (r : Bool)
      → r ≡ (is_idr t || is_bla t || (is_cra t && (in_bitstream || handle)) || after_eos) → r ≡ no_rasl_output c s
  no_rasl_is r is =
      is
      ∙ ap (λ x. is_idr x || is_bla x || (is_cra x && (in_bitstream || handle)) || after_eos) is_t
      ∙ ap (λ b. is_idr s.nal_unit_type || is_bla s.nal_unit_type ||
      (is_cra s.nal_unit_type && (b || handle)) || after_eos) (sym k.first_in_bitstream)
      ∙ ap (λ b. is_idr s.nal_unit_type || is_bla s.nal_unit_type ||
      (is_cra s.nal_unit_type && (c.first_in_bitstream || b)) || after_eos) f.handled_as_bla
      ∙ ap (λ b. is_idr s.nal_unit_type || is_bla s.nal_unit_type ||
      (is_cra s.nal_unit_type && (c.first_in_bitstream || s.handled_as_bla)) || b) (sym k.first_after_end)

  pub begins_is : (b r : Bool) → b ≡ (is_irap t && r) → r ≡ no_rasl_output c s → b ≡ begins_sequence c s
  begins_is b r is is_r = is ∙ ap (λ x. is_irap x && r) is_t ∙ ap (λ x. is_irap s.nal_unit_type && x) is_r

  pub output_is : (b r : Bool) → b ≡ (slice.header.pic_output_flag && not (is_rasl t && r))
      → r ≡ no_rasl_output c s → b ≡ (head c s).pic_output_flag
  unfolding head
  output_is b r is is_r =
      is
      ∙ ap (λ x. slice.header.pic_output_flag && not (is_rasl x && r)) is_t
      ∙ ap (λ x. slice.header.pic_output_flag && not (is_rasl s.nal_unit_type && x)) is_r
      ∙ ap (λ x. x && not (is_rasl s.nal_unit_type && no_rasl_output c s)) f.pic_output_flag

  pub discards_is : (b r : Bool)
      → b ≡ (r && not in_bitstream && (is_cra t || slice.header.no_output_of_prior_pics_flag))
      → r ≡ begins_sequence c s → b ≡ (head c s).no_output_of_prior_pics
  unfolding head
  discards_is b r is is_r =
      is
      ∙ ap (λ x. r && not in_bitstream && (is_cra x || slice.header.no_output_of_prior_pics_flag)) is_t
      ∙ ap (λ x. x && not in_bitstream && (is_cra s.nal_unit_type || slice.header.no_output_of_prior_pics_flag)) is_r
      ∙ ap (λ x. begins_sequence c s && not x &&
      (is_cra s.nal_unit_type || slice.header.no_output_of_prior_pics_flag)) (sym k.first_in_bitstream)
      ∙ ap (λ x. begins_sequence c s && not c.first_in_bitstream && (is_cra s.nal_unit_type || x))
      f.no_output_of_prior_pics_flag

  pub valid_is : (b : Bool) → ((temporal_id : ℕ) → slice.nalu.header.nuh_temporal_id_plus1 ≡ temporal_id + 1
      → b ≡ (eqb temporal_id 0 && not (is_radl t || is_rasl t || is_slnr t)))
      → b ≡ (head c s).valid_for_prev_tid0
  unfolding head
  valid_is b is = is s.temporal_id f.temporal_id
      ∙ ap (λ x. eqb s.temporal_id 0 && not (is_radl x || is_rasl x || is_slnr x)) is_t

  pub count_is : (b : Bool) → b ≡ begins_sequence c s
      → count_by b s.max_pic_order_cnt_lsb prev s.pic_order_cnt_lsb ≡ order_count_of c s
  count_is b is =
      ap (λ x. count_by x s.max_pic_order_cnt_lsb prev s.pic_order_cnt_lsb) is
      ∙ ap (λ x. cond (begins_sequence c s) (pos s.pic_order_cnt_lsb)
      (count_behind s.max_pic_order_cnt_lsb x s.pic_order_cnt_lsb)) (sym k.prev_tid0_count)

  pub range_is : (n : ℤ) → n ≡ order_count_of c s
      → (is_i32 n && is_i32 (n -ℤ pos s.pic_order_cnt_lsb)) ≡ order_count_in_range (head c s)
  unfolding head order_count_in_range
  range_is n is = ap (λ (x : ℤ). is_i32 x && is_i32 (x -ℤ pos s.pic_order_cnt_lsb)) is

-- the rest of a head, as it is defined
pub head_count : (c : Context) (s : walk.Slice) → (head c s).order_count ≡ order_count_of c s
unfolding head
head_count c s = refl

pub head_starts : (c : Context) (s : walk.Slice) → (head c s).starts_sequence ≡ begins_sequence c s
unfolding head
head_starts c s = refl

pub head_type : (c : Context) (s : walk.Slice) → (head c s).nal_unit_type ≡ s.nal_unit_type
unfolding head
head_type c s = refl

pub head_lsb : (c : Context) (s : walk.Slice) → (head c s).pic_order_cnt_lsb ≡ s.pic_order_cnt_lsb
unfolding head
head_lsb c s = refl
