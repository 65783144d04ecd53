-- Start codes in a block of 64 bytes, by the bits of its bytes.
use Rattle.std.proofs.Common.{◌≡◌, ◌≢◌, ◌↔◌, ℕ, ◌+◌, ◌/◌, ◌%◌, ◌^◌, ◌<◌, ◌≤◌, Bool, true, false}
use Rattle.std.proofs.Common.{cond, eqb, List, Some, length, get_or, map, refl, sym, ap, ◌∙◌, arith}
use Rattle.std.proofs.Common.{shr-shr, bit_and, w64, ⊎_elim}
use Rattle.std.specs.Int.{bit_at, trailing_zeros}
use Rattle.std.proofs.lemmas.Bool.{eqb-true, cases_lt}
use Rattle.std.proofs.lemmas.List.{get_or-map, get_or_past, length-map}
use Rattle.std.proofs.lemmas.Nat.Bits.{bit_at_and, bit_at-trailing_zeros, bit_at-lt, bit_at-zero}
use Rattle.std.proofs.lemmas.Simd.{bit_mask_l}
use lib.Bits.{and_le_l}
use lib.Lanes.{mask_l}
use Rattle.hevc_bits.specs.StartCode.{ArePairs, StandsAt, NoneStands, IsFirstStart}

-- the bits of the places where a block has a byte
abbrev pub ArePlaces : (byte : ℕ) → (block : List ℕ) → (bits : ℕ) → Type 0
ArePlaces byte block bits = (k : ℕ) → (bit_at bits k ≡ 1) ↔ ((k < 64) × (get_or block k 0 ≡ byte))

bit_is_set : (b : Bool) → cond {A = ℕ} b 1 0 ≡ 1 → b ≡ true
bit_is_set true h = refl
bit_is_set false h = absurd (omega (arith, h))

places_tell : (byte : ℕ) (block : List ℕ) (k : ℕ) → length block ≡ 64
    → get_or (map (λ x. eqb x byte) block) k false ≡ true → (k < 64) × (get_or block k 0 ≡ byte)
places_tell byte block k long h =
    ⊎_elim
    (λ low. (low, eqb-true _ byte (sym (get_or-map (λ x. eqb x byte) block k 0 false (omega (arith, long))) ∙ h)))
    (λ high. absurd
    (cc (
      h,
      get_or_past (map (λ x. eqb x byte) block) k false
          (omega (arith, length-map block (λ x. eqb x byte), long)),
    )))
    (cases_lt k 64)

eqb_same : (a b : ℕ) → a ≡ b → eqb a b ≡ true
eqb_same a b e = rw e (grind arith)

pub bit_of_places : (byte : ℕ) (block : List ℕ) (bits : ℕ) → length block ≡ 64
    → bits ≡ mask_l (map (λ x. eqb x byte) block) → ArePlaces byte block bits
bit_of_places byte block bits long made k =
    let bit : bit_at bits k ≡ cond {A = ℕ} (get_or (map (λ x. eqb x byte) block) k false) 1 0 =
    ap (λ n. bit_at n k) made ∙ bit_mask_l (map (λ x. eqb x byte) block) k in (
      λ set. places_tell byte block k long (bit_is_set _ (sym bit ∙ set)),
      λ here. bit ∙ ap
          (λ b. cond {A = ℕ} b 1 0)
          (get_or-map (λ x. eqb x byte) block k 0 false (omega (arith, long, here.0)) ∙ eqb_same _ byte here.1),
    )

both_bits : (a b k : ℕ) → (bit_at (bit_and a b) k ≡ 1) ↔ ((bit_at a k ≡ 1) × (bit_at b k ≡ 1))
both_bits a b k =
    let bit = bit_at_and a b k in
    let lt_a = bit_at-lt a k in
    let lt_b = bit_at-lt b k in
    (λ set. (omega arith, omega arith), λ two. omega (arith, two.0, two.1))

shifted : (bits by k : ℕ) → bit_at (bits / 2 ^ by) k ≡ bit_at bits (by + k)
shifted bits by k = ap (λ x. x % 2) (shr-shr bits by k)

-- two zeros in a row
abbrev pairs_of : (zeros : ℕ) → ℕ
pairs_of zeros = bit_and zeros (zeros / 2)

-- and a 1 after them
abbrev starts_of : (pairs ones : ℕ) → ℕ
starts_of pairs ones = bit_and pairs (ones / 4)

pub pairs_tell : (block : List ℕ) (zeros : ℕ) → length block ≡ 64 → ArePlaces 0 block zeros
    → ArePairs block (pairs_of zeros)
pairs_tell block zeros long places k =
    let next : 1 + k ≡ k + 1 = omega arith in (
      λ set.
          let pair = (both_bits zeros (zeros / 2) k).0 set in
          let second = (places (k + 1)).0 (ap (bit_at zeros) (sym next) ∙ sym (shifted zeros 1 k) ∙ pair.1) in
          (omega (arith, long, second.0), ((places k).0 pair.0).1, second.1),
      λ two. (both_bits zeros (zeros / 2) k).1 (
        (places k).1 (omega (arith, long, two.0), two.1),
        shifted zeros 1 k ∙ ap (bit_at zeros) next ∙ (places (k + 1)).1 (omega (arith, long, two.0), two.2),
      ),
    )

start_stands : (block : List ℕ) (pairs ones k : ℕ) → length block ≡ 64 → ArePairs block pairs
    → ArePlaces 1 block ones → StandsAt block k → bit_at (starts_of pairs ones) k ≡ 1
start_stands block pairs ones k long are_pairs places_1 h =
    let third : 2 + k ≡ k + 2 = omega arith in
    (both_bits pairs (ones / 4) k).1 (
      (are_pairs k).1 (omega (arith, h.0), h.1, h.2),
      shifted ones 2 k ∙ ap (bit_at ones) third ∙ (places_1 (k + 2)).1 (omega (arith, long, h.0), h.3),
    )

stands_start : (block : List ℕ) (pairs ones k : ℕ) → length block ≡ 64 → ArePairs block pairs
    → ArePlaces 1 block ones → bit_at (starts_of pairs ones) k ≡ 1 → StandsAt block k
stands_start block pairs ones k long are_pairs places_1 set =
    let third : k + 2 ≡ 2 + k = omega arith in
    let parts = (both_bits pairs (ones / 4) k).0 set in
    let two = (are_pairs k).0 parts.0 in
    let last = (places_1 (k + 2)).0 (ap (bit_at ones) third ∙ sym (shifted ones 2 k) ∙ parts.1) in
    (omega (arith, long, last.0), two.1, two.2, last.1)

bit_of_none : (bits k : ℕ) → bits ≡ 0 → bit_at bits k ≢ 1
bit_of_none bits k none set = omega (arith, sym set ∙ ap (λ n. bit_at n k) none ∙ bit_at-zero k)

-- a block without two zeros in a row
pub not_two : (block : List ℕ) (pairs : ℕ) → length block ≡ 64 → ArePairs block pairs → pairs ≡ 0 → (k : ℕ)
    → k < 63 → get_or block k 0 ≡ 0 → get_or block (k + 1) 0 ≢ 0
not_two block pairs long are_pairs none k low first second =
    bit_of_none pairs k none ((are_pairs k).1 (omega (arith, long, low), first, second))

pub none_in_starts : (block : List ℕ) (pairs ones : ℕ) → length block ≡ 64 → ArePairs block pairs
    → ArePlaces 1 block ones → starts_of pairs ones ≡ 0 → NoneStands block 0 (length block)
none_in_starts block pairs ones long are_pairs places_1 none k low high stands =
    bit_of_none (starts_of pairs ones) k none (start_stands block pairs ones k long are_pairs places_1 stands)

pub first_of_starts : (block : List ℕ) (pairs ones : ℕ) → length block ≡ 64 → ArePairs block pairs
    → ArePlaces 1 block ones → 0 < starts_of pairs ones → starts_of pairs ones < 2 ^ 64
    → IsFirstStart block 0 (Some (trailing_zeros w64 (starts_of pairs ones)))
first_of_starts block pairs ones long are_pairs places_1 some fits =
    let h = bit_at-trailing_zeros w64 (starts_of pairs ones) some fits in (
      omega arith,
      stands_start block pairs ones _ long are_pairs places_1 h.1,
      λ k low high stands. absurd
          (omega (arith, h.2 k high, start_stands block pairs ones k long are_pairs places_1 stands)),
    )

pub small : (pairs ones : ℕ) → starts_of pairs ones ≤ pairs
small pairs ones = and_le_l pairs (ones / 4)
