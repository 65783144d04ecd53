-- How long made streams are.
use Rattle.std.proofs.Common.{◌≡◌, ℕ, zero, suc, ◌+◌, ◌-◌, ◌*◌, ◌%◌, ◌<◌, ◌≤◌, Bool, true, false}
use Rattle.std.proofs.Common.{cond, eqb, List, [], ◌∷◌, ◌++◌, length, map, refl, ap, ◌∙◌, arith}
use Rattle.std.specs.Prelude.{nat_le, ◌&&◌, replicate, slice_index_or}
use Rattle.std.specs.List.{range_with_len}
use Rattle.std.proofs.lemmas.List.{length-append}
use Rattle.std.proofs.lemmas.Nat.{mod_below}
use Rattle.hevc_spec.specs.Payload.{run_behind, low_bits}
use Rattle.hevc_bit_writer.specs.Writing.{leading_zero_bits, packed, trailing_bits}
use Rattle.hevc_bit_writer.specs.WrittenUnits.{escaped_after, stream_of}
use Rattle.hevc_stream_maker.specs.Groups.{group, no_picture, picture, order_count}
use Rattle.hevc_stream_maker.specs.Slices.{spelled_elements, header, payload_bits}
use Rattle.hevc_stream_maker.specs.Made.{made, picture_unit}

packed_short : (bits : List Bool) → 8 * length (packed bits) ≤ length bits
packed_short (a ∷ b ∷ c ∷ d ∷ e ∷ f ∷ g ∷ h ∷ bits) = omega (arith, packed_short bits)
packed_short [] = omega arith
packed_short (a ∷ []) = omega arith
packed_short (a ∷ b ∷ []) = omega arith
packed_short (a ∷ b ∷ c ∷ []) = omega arith
packed_short (a ∷ b ∷ c ∷ d ∷ []) = omega arith
packed_short (a ∷ b ∷ c ∷ d ∷ e ∷ []) = omega arith
packed_short (a ∷ b ∷ c ∷ d ∷ e ∷ f ∷ []) = omega arith
packed_short (a ∷ b ∷ c ∷ d ∷ e ∷ f ∷ g ∷ []) = omega arith

escaped_short : (run : ℕ) (bytes : List ℕ) → length (escaped_after run bytes) ≤ 2 * length bytes
escaped_short run [] = omega arith
escaped_short run (byte ∷ bytes) =
    by_test (eqb run 2 && nat_le byte 3) (escaped_short (run_behind 0 byte) bytes)
    (escaped_short (run_behind run byte) bytes)
  where
    by_test : (t : Bool) → length (escaped_after (run_behind 0 byte) bytes) ≤ 2 * length bytes
        → length (escaped_after (run_behind run byte) bytes) ≤ 2 * length bytes
        → length (cond t (3 ∷ byte ∷ escaped_after (run_behind 0 byte) bytes)
        (byte ∷ escaped_after (run_behind run byte) bytes)) ≤ 2 * suc (length bytes)
    by_test true anew on = omega arith
    by_test false anew on = omega arith

header_short : (place : ℕ) (count : ℕ) → place < 8
    → length (spelled_elements (header (slice_index_or group place no_picture) count)) ≤ 64
unfolding leading_zero_bits
header_short zero count h = omega arith
header_short (suc zero) count h = omega arith
header_short (suc (suc zero)) count h = omega arith
header_short (suc (suc (suc zero))) count h = omega arith
header_short (suc (suc (suc (suc zero)))) count h = omega arith
header_short (suc (suc (suc (suc (suc zero))))) count h = omega arith
header_short (suc (suc (suc (suc (suc (suc zero)))))) count h = omega arith
header_short (suc (suc (suc (suc (suc (suc (suc zero))))))) count h = omega arith
header_short (suc (suc (suc (suc (suc (suc (suc (suc place)))))))) count h = absurd (omega arith)

pub length-falses : (n : ℕ) → length (replicate n false) ≡ n
length-falses zero = refl
length-falses (suc n) = ap suc (length-falses n)

unit_short : (number : ℕ) → length (picture_unit number) ≤ 61
unfolding picture_unit
unit_short number =
    let bits = spelled_elements (header (picture number) (order_count number)) in
    let end = trailing_bits (length bits) in
    let whole = payload_bits (picture number) (order_count number) in
    let few : length bits ≤ 64 = header_short (number % 8) (order_count number) (mod_below number 8 (omega arith)) in
    let most : length end ≤ 8 = omega (arith, length-falses (7 - length bits % 8)) in
    let long : length whole ≡ length bits + length end + 8 = length-append (bits ++ end) (low_bits 8 128)
    ∙ ap (λ (x : ℕ). x + 8) (length-append bits end) in
    omega (arith, few, most, long, packed_short whole, escaped_short 0 (packed whole))

stream_short : (from n : ℕ) → length (stream_of (map picture_unit (range_with_len from n))) ≤ 64 * n
stream_short from zero = omega arith
stream_short from (suc n) =
    let rest = stream_of (map picture_unit (range_with_len (from + 1) n)) in
    let long = length-append (picture_unit from) rest in
    omega (arith, long, unit_short from, stream_short (from + 1) n)

pub short : (pictures : ℕ) → length (made pictures) ≤ 46 + 64 * pictures
short pictures = omega (arith, stream_short 0 (pictures - 1))
