-- The units of a byte stream (Annex B).
use Rattle.std.specs.Prelude.{ℕ, ◌+◌, Bool, true, false, List, [], ◌∷◌, length, drop, take, ◌==◌}
use Rattle.std.specs.Prelude.{◌&&◌, nat_le, if◌then◌else◌}
use Rattle.hevc_spec.specs.UnitHeader.{nal_unit_type}
use Rattle.hevc_spec.specs.UnitTypes.{is_end}

-- A unit as it is in a stream: the place of its first header byte, and its bytes.
pub record NalUnit : Type 0 where
  pub offset : ℕ
  pub bytes : List ℕ

-- the start code 00 00 01 is at the front (B.2.1, start_code_prefix_one_3bytes)
abbrev pub begins_with_start_code : List ℕ → Bool
begins_with_start_code [] = false
begins_with_start_code (_ ∷ []) = false
begins_with_start_code (_ ∷ _ ∷ []) = false
begins_with_start_code (a ∷ b ∷ c ∷ _) = a == 0 && b == 0 && c == 1

-- the bytes before the next start code, or all of them where there is none
abbrev pub before_start_code : List ℕ → List ℕ
before_start_code [] = []
before_start_code (byte ∷ bytes) =
    if begins_with_start_code (byte ∷ bytes) then [] else byte ∷ before_start_code bytes

abbrev pub is_empty : List ℕ → Bool
is_empty [] = true
is_empty (_ ∷ _) = false

-- bytes without the zeros at their end (B.2.1, zero_byte and trailing_zero_8bits)
abbrev pub without_trailing_zeros : List ℕ → List ℕ
without_trailing_zeros [] = []
without_trailing_zeros (byte ∷ bytes) =
    if byte == 0 && is_empty (without_trailing_zeros bytes) then []
    else byte ∷ without_trailing_zeros bytes

-- The units of bytes that are at a place of a stream. After each
-- start code a unit begins, and ends before the next one, without the
-- zeros there. Of those bytes, those are its own that are kept.
abbrev pub units_at : (kept : List ℕ → List ℕ) → ℕ → List ℕ → List NalUnit
units_at kept place [] = []
units_at kept place (byte ∷ bytes) =
    if begins_with_start_code (byte ∷ bytes)
    then record {
      offset = place + 3;
      bytes = kept (without_trailing_zeros (before_start_code (drop 2 bytes)));
    } ∷ units_at kept (place + 1) bytes
    else units_at kept (place + 1) bytes

-- the units whose start codes are at a place of a stream or after it
unfoldable pub units_from : (kept : List ℕ → List ℕ) → ℕ → List ℕ → List NalUnit
units_from kept place stream = units_at kept place (drop place stream)

-- An end of sequence or of bitstream has its two header bytes alone (7.3.2.6, 7.3.2.7); any other
-- unit has all of its bytes.
abbrev pub kept_bytes : List ℕ → List ℕ
kept_bytes bytes =
    if nat_le 2 (length bytes) && is_end (nal_unit_type bytes) then take 2 bytes else bytes

-- the units of a stream, in order
abbrev pub units : List ℕ → List NalUnit
units stream = units_from kept_bytes 0 stream
