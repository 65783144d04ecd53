-- Order counts in code are those of the walk.
use Rattle.std.proofs.Common.{◌≡◌, ℕ, ℤ, pos, ◌+◌, ◌≤◌, ◌^◌, Bool, true, false, cond, List, [], ◌∷◌, refl, sym, ap, ◌∙◌}
use Rattle.std.proofs.Common.{subst, arith, Result, Ok, Err, Some, None, to_z, of_z, w32}
use Rattle.std.specs.Prelude.{nat_le, ◌==◌, IsErr, ◌↔◌, ◌&&◌, int_le, ◌≤ℤ◌, ◌-ℤ◌}
use Rattle.std.proofs.lemmas.Bool.Decides.{nat_tests}
use Rattle.std.proofs.lemmas.Int.{ints}
use Rattle.hevc_spec.specs.UnitHeader.{UnitHeader, HeaderFault, header_fields, checked_header, unit_header}
use Rattle.hevc_spec.specs.UnitHeader.{temporal_id_zero, unspecified_type}
use Rattle.hevc_bits.specs.FoundUnit.{bytes_of}
use Rattle.hevc_bits.specs.ParsedHeader.{parsed_header}
use Rattle.hevc_records.specs.Pps.{PlainPps}
use Rattle.hevc_sequence_set.specs.declared.sps.Sps.{Sps}
use Rattle.hevc_sequence_set.specs.Sps.{plain_sps}
use Rattle.hevc_picture_slice.specs.declared.slice.Slice.{Slice}
use Rattle.hevc_picture_slice.specs.SliceHeader.{plain_slice_header}
use Rattle.hevc_pictures.proofs.Powers.{power_most}
use Rattle.hevc_pictures.specs.NewPicture.{IsContext, IsFirstSlice}
use Rattle.hevc_walk.specs.Meanings as walk
use Rattle.hevc_walk.specs.OrderCounts.{is_i32}
use Rattle.hevc_walk.specs.Pictures.{Head, order_count_in_range}
use Rattle.hevc_stream.specs.Options.{default_options}
use Rattle.hevc_stream.specs.Slices.{coded_slice}
use Rattle.hevc_syntax_text.specs.declared.counting.Counting.{Counting}
use Rattle.hevc_syntax_text.specs.Order.{behind_picture, context_of}
use Rattle.hevc_syntax_text.specs.Variables.{told_count}
use Rattle.hevc_syntax_text.proofs.Kept.{header_is}

-- nuh_temporal_id_plus1 isn't 0
positive_checked : (h g : UnitHeader) → checked_header h ≡ Ok g → 1 ≤ g.nuh_temporal_id_plus1
positive_checked h g e = by_tests (nat_le 48 h.nal_unit_type) (h.nuh_temporal_id_plus1 == 0) refl e
  where
    by_tests : (s t : Bool) → (h.nuh_temporal_id_plus1 == 0) ≡ t
        → Path (Result UnitHeader HeaderFault)
        (cond s (Err (unspecified_type h.nal_unit_type)) (cond t (Err temporal_id_zero) (Ok h))) (Ok g)
        → 1 ≤ g.nuh_temporal_id_plus1
    by_tests true t z e = absurd (cc e)
    by_tests false true z e = absurd (cc e)
    by_tests false false z e =
        let same : h ≡ g = cc e in
        let more : 1 ≤ h.nuh_temporal_id_plus1 = grind (arith, nat_tests, z) in
        subst (λ (x : UnitHeader). 1 ≤ x.nuh_temporal_id_plus1) same more

positive : (bytes : List ℕ) (h : UnitHeader) → unit_header bytes ≡ Ok h → 1 ≤ h.nuh_temporal_id_plus1
positive [] h e = absurd (cc e)
positive (_ ∷ []) h e = absurd (cc e)
positive (first ∷ second ∷ bytes) h e = positive_checked (header_fields first second) h e

-- the context is that of the walk
pub is_context : (c : Counting)
    → IsContext (context_of c) c.first_in_bitstream c.first_after_end c.prev_tid0_count
is_context c = record { first_in_bitstream = refl; first_after_end = refl; prev_tid0_count = refl }

-- a slice segment as the walk has it
abbrev pub slice_at : Slice → Sps → PlainPps → walk.Slice
slice_at s sps pps =
    coded_slice default_options s.nalu.header (bytes_of s.nalu) (plain_slice_header s.header)
    (record { sps = plain_sps sps; pps = pps })

-- MaxPicOrderCntLsb has 32 bits
pub signed_lsb : (max : ℤ) (k : ℕ) → k ≤ 12 → max ≡ pos (2 ^ (k + 4)) → to_z w32 (of_z w32 max) ≡ pos (2 ^ (k + 4))
signed_lsb max k le is =
    let most = power_most k le in
    let same : to_z w32 (of_z w32 max) ≡ max = omega (arith, ints, most, is) in
    same ∙ is

-- it has the values that the order count depends on
pub is_first : (s : Slice) (sps : Sps) (pps : PlainPps) (max : ℤ)
    → parsed_header (bytes_of s.nalu) ≡ Ok s.nalu.header
    → max ≡ pos (2 ^ ((plain_sps sps).log2_max_pic_order_cnt_lsb_minus4 + 4))
    → IsFirstSlice (slice_at s sps pps) s max false
is_first s sps pps max parsed power = record {
  nal_unit_type = refl;
  temporal_id =
      (let more = positive (bytes_of s.nalu) s.nalu.header (header_is (bytes_of s.nalu) s.nalu.header parsed) in
      omega (arith, more));
  no_output_of_prior_pics_flag = refl;
  pic_output_flag = refl;
  pic_order_cnt_lsb = refl;
  max_pic_order_cnt_lsb = power;
  handled_as_bla = refl;
}

-- where a picture is had its count is in range, and where none is had it isn't
pub in_range : {T E : Type 0} (r : Result T E) (x : T) (b : Bool) → r ≡ Ok x → (IsErr r ↔ (b ≡ false)) → b ≡ true
in_range r x true is h = refl
in_range r x false is h = absurd (cc (subst IsErr is (h.1 refl)))

pub out_of_range : {T E : Type 0} (r : Result T E) (e : E) (b : Bool) → r ≡ Err e → (IsErr r ↔ (b ≡ false)) → b ≡ false
out_of_range r e b is h = h.0 (subst IsErr (sym is) refl)

-- both hold where both together do
and_left : (a b : Bool) → (a && b) ≡ true → a ≡ true
and_left true b e = refl
and_left false b e = absurd (cc e)

-- a number of 32 bits is kept as it is
fits : (v : ℤ) → is_i32 v ≡ true → to_z w32 (of_z w32 v) ≡ v
fits v e =
    let low : (pos 0 -ℤ pos 2147483648) ≤ℤ v =
    (let is = and_left (int_le (pos 0 -ℤ pos 2147483648) v) (int_le v (pos 2147483648 -ℤ pos 1)) e in
    grind (arith, nat_tests, ints, is)) in
    let high : v ≤ℤ pos 2147483647 = grind (arith, nat_tests, ints, e) in
    omega (arith, ints, low, high)

-- an order count in range is one
count_fits : (h : Head) → order_count_in_range h ≡ true → to_z w32 (of_z w32 h.order_count) ≡ h.order_count
unfolding order_count_in_range
count_fits h within = fits h.order_count (and_left (is_i32 h.order_count) _ within)

module _ (c : Counting) (h : Head) where
  -- it is told
  pub counted : (v : ℤ) → order_count_in_range h ≡ true → v ≡ h.order_count
      → Some (to_z w32 (of_z w32 v)) ≡ told_count h
  counted v within is =
      ap (λ (n : ℤ). Some (to_z w32 (of_z w32 n))) is ∙ ap Some (count_fits h within)
      ∙ sym (ap (λ (b : Bool). cond b (Some h.order_count) None) within)

  -- another is not
  pub uncounted : order_count_in_range h ≡ false → None ≡ told_count h
  uncounted outside = sym (ap (λ (b : Bool). cond b (Some h.order_count) None) outside)

  -- after a picture that can be prevTid0Pic
  pub behind_tid0 : (new : Counting) (v : ℤ) → order_count_in_range h ≡ true → h.valid_for_prev_tid0 ≡ true
      → v ≡ h.order_count
      → new ≡ record {
        first_in_bitstream = false;
        first_after_end = false;
        prev_tid0_count = Some (to_z w32 (of_z w32 v));
      } → new ≡ behind_picture h c
  behind_tid0 new v within valid is same =
      same ∙ rw (within, valid, is, count_fits h within) refl

  -- after another
  pub behind_other : (new : Counting) → order_count_in_range h ≡ true → h.valid_for_prev_tid0 ≡ false
      → new ≡ record { first_in_bitstream = false; first_after_end = false; prev_tid0_count = c.prev_tid0_count }
      → new ≡ behind_picture h c
  behind_other new within valid same = same ∙ rw (within, valid) refl

  -- and after one whose count is out of range
  pub behind_none : order_count_in_range h ≡ false → c ≡ behind_picture h c
  behind_none outside = rw outside refl
