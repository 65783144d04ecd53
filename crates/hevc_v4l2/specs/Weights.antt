-- The weights of predictions as Linux's stateless decoders take them.
use Rattle.std.specs.Prelude.{ℕ, ◌^◌, ℤ, pos, neg_ℤ, ◌+ℤ◌, ◌-ℤ◌, ◌*ℤ◌, Bool, List, [], ◌∷◌, map}
use Rattle.std.specs.Prelude.{not, ◌&&◌, nat_lt, slice_index_or, if◌then◌else◌, Option, Some, None}
use Rattle.std.specs.Int.{int_shr, int_max, int_min}
use Rattle.std.specs.List.{list_all, range_with_len}
use Rattle.hevc_records.specs.PredWeightTable.{PlainPredWeightTable}
use Rattle.hevc_v4l2.specs.declared.error.ControlError.{ControlError}
use Rattle.hevc_v4l2.specs.declared.error.ControlError.TheVariants.{ChromaDenominator, LumaOffset}
use Rattle.hevc_v4l2.specs.declared.error.ControlError.TheVariants.{ChromaOffset}
use Rattle.hevc_v4l2.specs.declared.weights.ChromaOffsets.{ChromaOffsets}
use Rattle.hevc_v4l2.specs.declared.weights.V4l2HevcPredWeightTable.{V4l2HevcPredWeightTable}
use Rattle.hevc_v4l2.specs.Arrays.{is_signed_byte, no_pair, padded}

-- Clip3( low, high, number ) (5.8)
abbrev pub clip3 : (low high number : ℤ) → ℤ
clip3 low high number = int_max low (int_min number high)

-- ChromaOffsetL0 and ChromaOffsetL1 (7-56), by WpOffsetHalfRangeC and ChromaLog2WeightDenom;
-- the weight is ChromaWeightL0 or ChromaWeightL1
abbrev pub chroma_offset : (half_range : ℤ) → (log2_denominator : ℕ)
    → (delta_weight delta_offset : ℤ) → ℤ
chroma_offset half_range log2_denominator delta_weight delta_offset =
    let weight = pos (2 ^ log2_denominator) +ℤ delta_weight in
    clip3 (neg_ℤ half_range) (half_range -ℤ pos 1)
    ((half_range +ℤ delta_offset) -ℤ int_shr (half_range *ℤ weight) log2_denominator)

-- those of Cb and Cr
abbrev pub chroma_offset_pair : (half_range : ℤ) → (log2_denominator : ℕ)
    → (delta_weights delta_offsets : List ℤ) → List ℤ
chroma_offset_pair half_range log2_denominator delta_weights delta_offsets =
    chroma_offset half_range log2_denominator
    (slice_index_or delta_weights 0 (pos 0)) (slice_index_or delta_offsets 0 (pos 0)) ∷
    chroma_offset half_range log2_denominator
    (slice_index_or delta_weights 1 (pos 0)) (slice_index_or delta_offsets 1 (pos 0)) ∷ []

-- those of each entry of a list
unfoldable pub chroma_offsets : (half_range : ℤ) → (log2_denominator : ℕ)
    → (delta_weights delta_offsets : List (List ℤ)) → List (List ℤ)
chroma_offsets half_range log2_denominator delta_weights delta_offsets =
    map
    (λ i. chroma_offset_pair half_range log2_denominator
    (slice_index_or delta_weights i no_pair) (slice_index_or delta_offsets i no_pair))
    (range_with_len 0 15)

abbrev pub chroma_offsets_l0 : (half_range : ℤ) → PlainPredWeightTable → List (List ℤ)
chroma_offsets_l0 half_range t =
    chroma_offsets half_range t.chroma_log2_weight_denom
    t.delta_chroma_weight_l0 t.delta_chroma_offset_l0

abbrev pub chroma_offsets_l1 : (half_range : ℤ) → PlainPredWeightTable → List (List ℤ)
chroma_offsets_l1 half_range t =
    chroma_offsets half_range t.chroma_log2_weight_denom
    t.delta_chroma_weight_l1 t.delta_chroma_offset_l1

-- those of both lists, where ChromaLog2WeightDenom is at most 7 (7.4.7.3)
abbrev pub chroma_offsets_of : (half_range : ℤ) → PlainPredWeightTable → Option ChromaOffsets
chroma_offsets_of half_range t =
    if nat_lt 7 t.chroma_log2_weight_denom then None
    else Some (record {
      l0 = chroma_offsets_l0 half_range t;
      l1 = chroma_offsets_l1 half_range t;
    })

abbrev pub luma_fits : PlainPredWeightTable → Bool
luma_fits t = list_all is_signed_byte t.luma_offset_l0 && list_all is_signed_byte t.luma_offset_l1

abbrev pub chroma_fits : (l0 l1 : List (List ℤ)) → Bool
chroma_fits l0 l1 = list_all (list_all is_signed_byte) l0 && list_all (list_all is_signed_byte) l1

-- the first of the offsets that the struct can't hold, with these of chroma
abbrev pub offsets_error : (l0 l1 : List (List ℤ)) → PlainPredWeightTable → Option ControlError
offsets_error l0 l1 t =
    if not (luma_fits t) then Some LumaOffset
    else if not (chroma_fits l0 l1) then Some ChromaOffset
    else None

-- the first thing that the struct can't hold
abbrev pub weights_error : (half_range : ℤ) → PlainPredWeightTable → Option ControlError
weights_error half_range t =
    if nat_lt 7 t.chroma_log2_weight_denom then Some ChromaDenominator
    else offsets_error (chroma_offsets_l0 half_range t) (chroma_offsets_l1 half_range t) t

-- Each field has the element of its name, and no weight in the last of its 16 places. The offsets
-- of chroma are these.
abbrev pub with_chroma_offsets : (l0 l1 : List (List ℤ)) → PlainPredWeightTable
    → V4l2HevcPredWeightTable
with_chroma_offsets l0 l1 t = record {
  delta_luma_weight_l0 = padded (pos 0) t.delta_luma_weight_l0;
  luma_offset_l0 = padded (pos 0) t.luma_offset_l0;
  delta_chroma_weight_l0 = padded no_pair t.delta_chroma_weight_l0;
  chroma_offset_l0 = padded no_pair l0;
  delta_luma_weight_l1 = padded (pos 0) t.delta_luma_weight_l1;
  luma_offset_l1 = padded (pos 0) t.luma_offset_l1;
  delta_chroma_weight_l1 = padded no_pair t.delta_chroma_weight_l1;
  chroma_offset_l1 = padded no_pair l1;
  luma_log2_weight_denom = t.luma_log2_weight_denom;
  delta_chroma_log2_weight_denom = t.delta_chroma_log2_weight_denom;
}

abbrev pub control_of_weights : (half_range : ℤ) → PlainPredWeightTable → V4l2HevcPredWeightTable
control_of_weights half_range t =
    with_chroma_offsets (chroma_offsets_l0 half_range t) (chroma_offsets_l1 half_range t) t
