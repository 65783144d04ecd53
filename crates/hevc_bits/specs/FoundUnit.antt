-- A unit that was found in a stream.
use Rattle.std.specs.Prelude.{◌≡◌, ℕ, ◌-◌, List, ◌∷◌, take, drop, slice_index, ◌==◌, ◌&&◌, nat_le}
use Rattle.std.specs.Prelude.{if◌then◌else◌, ◌+◌, ◌≤◌, length, Result, Ok}
use Rattle.hevc_spec.specs.Units.{NalUnit, units_from}

-- its header, the stream in which it is, the place of its first byte, and how many bytes it has
pub record FoundUnit (H : Type 0) : Type 0 where
  pub header : H
  pub stream : List ℕ
  pub offset : ℕ
  pub size : ℕ

abbrev pub bytes_of : {H : Type 0} → FoundUnit H → List ℕ
bytes_of u = take u.size (drop u.offset u.stream)

abbrev pub unit_of : {H : Type 0} → FoundUnit H → NalUnit
unit_of u = record { offset = u.offset; bytes = bytes_of u }

-- it is one of the units of its stream, of whose bytes
-- up to the next start code these are kept (Annex B)
abbrev pub IsCutOut : {H : Type 0} → (List ℕ → List ℕ) → FoundUnit H → Type 0
IsCutOut kept u =
    (place : ℕ) × (others : List NalUnit) × (units_from kept place u.stream ≡ unit_of u ∷ others)

-- It is the first unit of a stream whose start code is at a place or after it; the others are those
-- after its end. Its header is the one of its bytes, and it lies within the stream (Annex B).
pub record FindsNext {H E : Type 0} (kept : List ℕ → List ℕ) (parsed : List ℕ → Result H E)
    (place : ℕ) (stream : List ℕ) (u : FoundUnit H) : Type 0 where
  pub first : units_from kept place stream ≡ unit_of u ∷ units_from kept (u.offset + u.size) stream
  pub same_stream : u.stream ≡ stream
  pub header : parsed (bytes_of u) ≡ Ok u.header
  pub ahead : place + 3 ≤ u.offset
  pub inside : u.offset + u.size ≤ length stream

-- The start code has the zero_byte before it as its first, where there is one (B.2.1).
abbrev pub start_code_offset : {H : Type 0} → FoundUnit H → ℕ
start_code_offset u =
    if nat_le 4 u.offset && slice_index u.stream (u.offset - 4) == 0 then u.offset - 4
    else u.offset - 3
