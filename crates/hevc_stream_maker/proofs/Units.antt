-- The units of made streams.
use Rattle.std.proofs.Common.{◌≡◌, ℕ, zero, suc, ◌+◌, ◌-◌, ◌%◌, Bool, true, false, cond, eqb, List}
use Rattle.std.proofs.Common.{[], ◌∷◌, ◌++◌, length, map, refl, sym, ap, ◌∙◌, arith}
use Rattle.std.specs.Prelude.{nat_le, ◌&&◌, replicate, All}
use Rattle.std.specs.List.{range_with_len}
use Rattle.std.proofs.lemmas.List.{length-append}
use Rattle.std.proofs.lemmas.List.Elements.{All-cons, All-nil}
use Rattle.hevc_spec.specs.Bits.{number}
use Rattle.hevc_spec.specs.Payload.{low_bits}
use Rattle.hevc_spec.specs.Units.{is_empty, units, without_trailing_zeros}
use Rattle.hevc_bit_writer.specs.Writing.{packed, trailing_bits}
use Rattle.hevc_bit_writer.specs.WrittenUnits.{escaped, IsUnit, placed}
use Rattle.hevc_bit_writer.proofs.Escapes.{stays_whole_escaped}
use Rattle.hevc_bit_writer.proofs.Found as found
use Rattle.hevc_stream_maker.specs.Groups.{picture, order_count}
use Rattle.hevc_stream_maker.specs.Slices.{header, payload_bits, spelled_elements}
use Rattle.hevc_stream_maker.specs.Made.{sequence_set, picture_set, first_picture, made, made_units, picture_unit}
use Rattle.hevc_stream_maker.proofs.Sizes.{length-falses}

packed-append : (xs ys : List Bool) → length xs % 8 ≡ 0 → packed (xs ++ ys) ≡ packed xs ++ packed ys
packed-append (a ∷ b ∷ c ∷ d ∷ e ∷ f ∷ g ∷ h ∷ xs) ys whole =
    ap (λ (x : List ℕ). number (a ∷ b ∷ c ∷ d ∷ e ∷ f ∷ g ∷ h ∷ []) ∷ x) (packed-append xs ys (omega arith))
packed-append [] ys whole = refl
packed-append (a ∷ []) ys whole = absurd (omega arith)
packed-append (a ∷ b ∷ []) ys whole = absurd (omega arith)
packed-append (a ∷ b ∷ c ∷ []) ys whole = absurd (omega arith)
packed-append (a ∷ b ∷ c ∷ d ∷ []) ys whole = absurd (omega arith)
packed-append (a ∷ b ∷ c ∷ d ∷ e ∷ []) ys whole = absurd (omega arith)
packed-append (a ∷ b ∷ c ∷ d ∷ e ∷ f ∷ []) ys whole = absurd (omega arith)
packed-append (a ∷ b ∷ c ∷ d ∷ e ∷ f ∷ g ∷ []) ys whole = absurd (omega arith)

-- bytes whose last one isn't 0
ends_whole : (bytes : List ℕ) → without_trailing_zeros (bytes ++ 128 ∷ []) ≡ bytes ++ 128 ∷ []
ends_whole [] = refl
ends_whole (byte ∷ bytes) = rw (ends_whole bytes) (by_rest bytes (eqb byte 0))
  where
    by_rest : (bytes : List ℕ) (t : Bool)
        → cond (t && is_empty (bytes ++ 128 ∷ [])) [] (byte ∷ bytes ++ 128 ∷ []) ≡ byte ∷ bytes ++ 128 ∷ []
    by_rest [] true = refl
    by_rest [] false = refl
    by_rest (_ ∷ _) true = refl
    by_rest (_ ∷ _) false = refl

-- a byte of data comes after whole bytes
ends_in_data : (bits : List Bool)
    → without_trailing_zeros (packed (bits ++ trailing_bits (length bits) ++ low_bits 8 128)) ≡ packed
    (bits ++ trailing_bits (length bits) ++ low_bits 8 128)
ends_in_data bits =
    let front = bits ++ trailing_bits (length bits) in
    let long : length front ≡ length bits + suc (length (replicate (7 - length bits % 8) false)) =
    length-append bits (trailing_bits (length bits)) in
    let whole : length front % 8 ≡ 0 = omega (arith, long, length-falses (7 - length bits % 8)) in
    let parts : packed (front ++ low_bits 8 128) ≡ packed front ++ 128 ∷ [] =
    packed-append front (low_bits 8 128) whole in
    ap without_trailing_zeros parts ∙ ends_whole (packed front) ∙ sym parts

picture_is_unit : (number : ℕ) → IsUnit (picture_unit number)
unfolding picture_unit
picture_is_unit number =
    let bits = spelled_elements (header (picture number) (order_count number)) in
    let bytes = packed (payload_bits (picture number) (order_count number)) in
    record {
      whole = stays_whole_escaped 2 1 bytes (λ e. cc) (ends_in_data bits);
      kept = all_kept (escaped bytes) (nat_le 2 (suc (suc (length (escaped bytes)))));
    }
  where
    all_kept : (bytes : List ℕ) (t : Bool) → cond (t && false) (2 ∷ 1 ∷ []) (2 ∷ 1 ∷ bytes) ≡ 2 ∷ 1 ∷ bytes
    all_kept bytes true = refl
    all_kept bytes false = refl

all_pictures : (from n : ℕ) → All IsUnit (map picture_unit (range_with_len from n))
all_pictures from zero = All-nil IsUnit
all_pictures from (suc n) =
    All-cons IsUnit (picture_unit from) (map picture_unit (range_with_len (from + 1) n))
    (picture_is_unit from) (all_pictures (from + 1) n)

pub all_found : (pictures : ℕ) → units (made pictures) ≡ placed 0 (made_units pictures)
all_found pictures =
    let rest = map picture_unit (range_with_len 0 (pictures - 1)) in
    let idr : IsUnit first_picture = record { whole = refl; kept = refl } in
    let pps : IsUnit picture_set = record { whole = refl; kept = refl } in
    let sps : IsUnit sequence_set = record { whole = refl; kept = refl } in
    found.all_found (made_units pictures)
    (All-cons IsUnit sequence_set (picture_set ∷ first_picture ∷ rest) sps
    (All-cons IsUnit picture_set (first_picture ∷ rest) pps
    (All-cons IsUnit first_picture rest idr (all_pictures 0 (pictures - 1)))))
