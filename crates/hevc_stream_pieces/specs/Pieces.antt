-- Bytes that are found as they are, each after a start code.
use Rattle.std.specs.Prelude.{◌≡◌, ℕ, ◌+◌, List, [], ◌∷◌, length}
use Rattle.hevc_spec.specs.Units.{NalUnit, before_start_code, without_trailing_zeros, kept_bytes}

-- no start code is in the bytes, and they don't end in 00 (B.2)
pub record IsPiece (bytes : List ℕ) : Type 0 where
  pub whole : before_start_code bytes ≡ bytes
  pub trimmed : without_trailing_zeros bytes ≡ bytes

-- besides, all of them are the unit's own
pub record IsWholePiece (bytes : List ℕ) : Type 0 where
  pub piece : IsPiece bytes
  pub kept : kept_bytes bytes ≡ bytes

-- the units of pieces that are after a start code each, from a place of a stream on
abbrev pub units_of_pieces : ℕ → List (List ℕ) → List NalUnit
units_of_pieces place [] = []
units_of_pieces place (piece ∷ pieces) =
    record { offset = place + 3; bytes = kept_bytes piece }
    ∷ units_of_pieces (place + 3 + length piece) pieces
