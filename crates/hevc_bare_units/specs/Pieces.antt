-- Units that are found whatever their header is.
use Rattle.std.specs.Prelude.{◌≡◌, ◌≤◌, ◌+◌, ℕ, List, ◌∷◌, length}
use Rattle.hevc_spec.specs.Units.{NalUnit, kept_bytes, units_from}
use Rattle.hevc_bits.specs.FoundUnit.{FoundUnit, bytes_of}
use Rattle.hevc_bare_units.specs.declared.piece.Piece.{Piece}

-- the unit, with the bytes that are its own
abbrev pub own_unit : FoundUnit Piece → NalUnit
own_unit piece = record { offset = piece.offset; bytes = kept_bytes (bytes_of piece) }

-- It is the first unit of a stream whose start code is at a place or after it; the others are those
-- after its end. It lies within the stream (Annex B).
pub record IsNextPiece (place : ℕ) (stream : List ℕ) (piece : FoundUnit Piece) : Type 0 where
  pub same_stream : piece.stream ≡ stream
  pub first : units_from kept_bytes place stream
      ≡ own_unit piece ∷ units_from kept_bytes (piece.offset + piece.size) stream
  pub ahead : place + 3 ≤ piece.offset
  pub inside : piece.offset + piece.size ≤ length stream
