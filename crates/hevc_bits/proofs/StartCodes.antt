-- A start code at a place of a stream, seen by its three bytes and at the front of the bytes from there on.
use Rattle.std.proofs.Common.{◌≡◌, ◌≢◌, Option, None, Some, ◌≤◌, ◌+◌, ◌-◌, ℕ, length, get_or, List}
use Rattle.std.proofs.Common.{[], ◌∷◌, drop, take, Bool, true, false, refl, sym, ◌∙◌, arith, ap}
use Rattle.std.proofs.Common.{◌<◌}
use Rattle.std.proofs.lemmas.Bool.{eqb-true, and_parts}
use Rattle.std.proofs.lemmas.List.{get_or-drop, take_all}
use Rattle.std.proofs.lemmas.Simd.{length-chunk, get_or-chunk}
use Rattle.std.proofs.Math.ListN.{length-drop}
use lib.Lanes.{chunk}
use Rattle.hevc_spec.specs.Units.{begins_with_start_code}
use Rattle.hevc_spec.proofs.UnitLaws.{NoStartCode}
use Rattle.memchr.specs.Find.{Nowhere, NoneBefore, Passes, is_byte}
use Rattle.hevc_bits.specs.StartCode.{EndsFirst, StandsAt, NoneStands, IsFirstStart}

front_stands : (xs : List ℕ) → begins_with_start_code xs ≡ true → StandsAt xs 0
front_stands [] e = absurd cc
front_stands (_ ∷ []) e = absurd cc
front_stands (_ ∷ _ ∷ []) e = absurd cc
front_stands (a ∷ b ∷ c ∷ rest) e =
    let both = and_parts _ _ e in
    let two = and_parts _ _ both.0 in
    (omega arith, eqb-true a 0 two.0, eqb-true b 0 two.1, eqb-true c 1 both.1)

stands_front : (xs : List ℕ) → StandsAt xs 0 → begins_with_start_code xs ≡ true
stands_front [] h = absurd (omega (arith, h.0))
stands_front (_ ∷ []) h = absurd (omega (arith, h.0))
stands_front (_ ∷ _ ∷ []) h = absurd (omega (arith, h.0))
stands_front (a ∷ b ∷ c ∷ rest) h =
    let x : a ≡ 0 = h.1 in
    let y : b ≡ 0 = h.2 in
    let z : c ≡ 1 = h.3 in
    rw (x, y, z) refl

pub begins_at : (stream : List ℕ) (k : ℕ) → StandsAt stream k → begins_with_start_code (drop k stream) ≡ true
begins_at stream k h =
    let long = length-drop k stream in
    stands_front (drop k stream) (
      omega (arith, h.0),
      get_or-drop k stream 0 0 ∙ grind (arith, h.1),
      get_or-drop k stream 1 0 ∙ grind (arith, h.2),
      get_or-drop k stream 2 0 ∙ grind (arith, h.3),
    )

stands_at : (stream : List ℕ) (k : ℕ) → begins_with_start_code (drop k stream) ≡ true → StandsAt stream k
stands_at stream k e =
    let h = front_stands (drop k stream) e in
    let long = length-drop k stream in
    let a = sym (get_or-drop k stream 0 0) ∙ h.1 in
    let b = sym (get_or-drop k stream 1 0) ∙ h.2 in
    let c = sym (get_or-drop k stream 2 0) ∙ h.3 in
    (omega (arith, h.0), grind arith, grind arith, grind arith)

by_test : (b : Bool) → b ≢ true → b ≡ false
by_test true h = absurd (h refl)
by_test false h = refl

pub none_begins : (stream : List ℕ) (from to : ℕ) → NoneStands stream from to → NoStartCode stream from to
none_begins stream from to none k low high = by_test (begins_with_start_code (drop k stream))
    (λ e. none k low high (stands_at stream k e))

pub none_joined : (stream : List ℕ) (from between to : ℕ) → NoneStands stream from between
    → NoneStands stream between to → NoneStands stream from to
none_joined stream from between to before behind k low high stands = grind (arith, before k low, behind k, high, stands)

pub whole : (stream : List ℕ) (n : ℕ) → take (length stream - n) (drop n stream) ≡ drop n stream
whole stream n = take_all (length stream - n) (drop n stream) (omega (arith, length-drop n stream))

-- there is none where no third byte is 1
pub none_ends : (stream : List ℕ) (from count : ℕ)
    → Nowhere (Passes (is_byte 1) (drop (from + 2) stream)) 0 count → NoneStands stream from (from + count)
none_ends stream from count none k low high stands =
    let third : get_or (drop (from + 2) stream) (k - from) 0 ≡ 1 =
    get_or-drop (from + 2) stream (k - from) 0 ∙ grind (arith, stands.3, low) in
    none (k - from) (omega arith) (omega (arith, low, high)) (rw third refl)

pub none_follows : (stream : List ℕ) (from : ℕ) → from + 2 ≤ length stream
    → Nowhere (Passes (is_byte 1) (drop (from + 2) stream)) 0 (length (drop (from + 2) stream))
    → NoneStands stream from (length stream)
none_follows stream from within none k low high stands =
    none_ends stream from (length (drop (from + 2) stream)) none k low
    (omega (arith, length-drop (from + 2) stream, stands.0)) stands

pub ends_first : (stream : List ℕ) (from ahead : ℕ)
    → NoneBefore (Passes (is_byte 1) (drop (from + 2) stream)) 0 (length (drop (from + 2) stream)) ahead
    → Passes (is_byte 1) (drop (from + 2) stream) ahead → EndsFirst stream from (Some (from + ahead))
ends_first stream from ahead before here =
    let third : get_or stream (from + 2 + ahead) 0 ≡ 1 = sym (get_or-drop (from + 2) stream ahead 0)
    ∙ eqb-true _ 1 here in (
      omega arith,
      omega (arith, length-drop (from + 2) stream, before.high),
      grind (arith, third),
      none_ends stream from ahead before.before,
    )

-- ---- a block of a stream, from a place on

pub block_long : (stream : List ℕ) (at : ℕ) → at + 64 ≤ length stream → length (chunk at 64 stream) ≡ 64
block_long stream at within = length-chunk at 64 stream within

block_byte : (stream : List ℕ) (at k j : ℕ) → k < 64 → at + k ≡ j → get_or (chunk at 64 stream) k 0 ≡ get_or stream j 0
block_byte stream at k j low same = get_or-chunk at 64 stream k 0 low ∙ ap (λ (i : ℕ). get_or stream i 0) same

-- a start code of the block is one of the stream
pub of_stream : (stream : List ℕ) (at k : ℕ) → at + 64 ≤ length stream → StandsAt (chunk at 64 stream) k
    → StandsAt stream (at + k)
of_stream stream at k within h =
    let low : k + 2 < 64 = omega (arith, block_long stream at within, h.0) in (
      omega arith,
      sym (block_byte stream at k (at + k) (omega arith) refl) ∙ h.1,
      sym (block_byte stream at (k + 1) (at + k + 1) (omega arith) (omega arith)) ∙ h.2,
      sym (block_byte stream at (k + 2) (at + k + 2) (omega arith) (omega arith)) ∙ h.3,
    )

-- and one of the stream that is within the block is one of the block
of_block : (stream : List ℕ) (at k : ℕ) → at + 64 ≤ length stream → at ≤ k → k + 2 < at + 64
    → StandsAt stream k → StandsAt (chunk at 64 stream) (k - at)
of_block stream at k within low high h = (
  omega (arith, block_long stream at within),
  block_byte stream at (k - at) k (omega arith) (omega arith) ∙ h.1,
  block_byte stream at (k - at + 1) (k + 1) (omega arith) (omega arith) ∙ h.2,
  block_byte stream at (k - at + 2) (k + 2) (omega arith) (omega arith) ∙ h.3,
)

pub none_in_block : (stream : List ℕ) (at to : ℕ) → at + 64 ≤ length stream → to ≤ 62
    → NoneStands (chunk at 64 stream) 0 to → NoneStands stream at (at + to)
none_in_block stream at to within short none k low high stands =
    none (k - at) (omega arith) (omega arith) (of_block stream at k within low (omega arith) stands)

pub first_in_block : (stream : List ℕ) (at ahead : ℕ) → at + 64 ≤ length stream
    → IsFirstStart (chunk at 64 stream) 0 (Some ahead) → IsFirstStart stream at (Some (at + ahead))
first_in_block stream at ahead within h =
    let short : ahead + 2 < 64 = omega (arith, block_long stream at within, h.1.0) in
    (omega arith, of_stream stream at ahead within h.1, none_in_block stream at ahead within (omega arith) h.2)

pub none_begun : (stream : List ℕ) (from at : ℕ) → at + 64 ≤ length stream → NoneStands stream from at
    → IsFirstStart (chunk at 64 stream) 0 None → NoneStands stream from (at + 62)
none_begun stream from at within before none =
    none_joined stream from at (at + 62) before (none_in_block stream at 62 within (omega arith)
    (λ k low high. none k low (omega (arith, high, block_long stream at within))))

-- there is none at the first 63 places of a block without two zeros in a row
pub none_apart : (stream : List ℕ) (at : ℕ)
    → ((k : ℕ) → k < 63 → get_or (chunk at 64 stream) k 0 ≡ 0 → get_or (chunk at 64 stream) (k + 1) 0 ≢ 0)
    → NoneStands stream at (at + 63)
none_apart stream at none k low high stands =
    none (k - at) (omega (arith, low, high)) (block_byte stream at (k - at) k (omega arith) (omega arith)
    ∙ stands.1) (block_byte stream at (k - at + 1) (k + 1) (omega arith) (omega arith) ∙ stands.2)

-- ---- the places before one

pub none_past : (stream : List ℕ) (from at : ℕ) → NoneStands stream from at → ¬ StandsAt stream at
    → NoneStands stream from (at + 1)
none_past stream from at before none k low high stands = grind (arith, before k low, none, low, high, stands)

pub first_behind : (stream : List ℕ) (from at : ℕ) (found : Option ℕ) → from ≤ at
    → NoneStands stream from at → IsFirstStart stream at found → IsFirstStart stream from found
first_behind stream from at None le before none = none_joined stream from at (length stream) before none
first_behind stream from at (Some k) le before first =
    (omega (arith, first.0), first.1, none_joined stream from at k before first.2)
