-- Where start codes are in a stream, place by place.
use Rattle.std.specs.Prelude.{◌≡◌, ◌↔◌, ℕ, ◌+◌, ◌<◌, ◌≤◌, List, ◌∷◌, Option, length, slice_index}
use Rattle.std.specs.Prelude.{MatchOption}
use Rattle.std.specs.Int.{bit_at}
use Rattle.hevc_spec.specs.Units.{units_from}

-- start_code_prefix_one_3bytes (H.265 B.2.2), 00 00 01, is at a place
abbrev pub StandsAt : List ℕ → ℕ → Type 0
StandsAt stream k =
    (k + 2 < length stream)
    × (slice_index stream k ≡ 0)
    × (slice_index stream (k + 1) ≡ 0)
    × (slice_index stream (k + 2) ≡ 1)

-- it is at no place from one up to another
abbrev pub NoneStands : List ℕ → ℕ → ℕ → Type 0
NoneStands stream from to = (k : ℕ) → from ≤ k → k < to → ¬ StandsAt stream k

-- the first place from one on at which it is, to which a decoder moves on (H.265 B.3)
abbrev pub IsFirstStart : List ℕ → ℕ → Option ℕ → Type 0
IsFirstStart stream from found =
    MatchOption found (NoneStands stream from (length stream))
    (λ k. (from ≤ k) × StandsAt stream k × NoneStands stream from k)

-- the first place from one on whose third byte is 1, as that of a start code is (H.265 B.2.2);
-- a start code is at none before it
abbrev pub EndsFirst : List ℕ → ℕ → Option ℕ → Type 0
EndsFirst stream from found = MatchOption found (NoneStands stream from (length stream))
    (λ k. (from ≤ k)
    × (k + 2 < length stream)
    × (slice_index stream (k + 2) ≡ 1)
    × NoneStands stream from k)

-- the places of a block at which two zero bytes are in a row, a bit for each
abbrev pub ArePairs : List ℕ → ℕ → Type 0
ArePairs block pairs = (k : ℕ) → (bit_at pairs k ≡ 1)
    ↔ ((k + 1 < length block) × (slice_index block k ≡ 0) × (slice_index block (k + 1) ≡ 0))

-- The first unit from a place on (H.265 B.3) has these bytes, of which any are kept,
-- and the other units come after any part of them.
abbrev pub IsFirstCut : ℕ → List ℕ → ℕ → List ℕ → Type 0
IsFirstCut from stream offset bytes = (kept : List ℕ → List ℕ) (size : ℕ) → size ≤ length bytes
    → units_from kept from stream
    ≡ record { offset = offset; bytes = kept bytes } ∷ units_from kept (offset + size) stream
