-- The bits at a place, as the reader keeps it.
use Rattle.std.proofs.Common.{◌≡◌, ℕ, zero, suc, ◌+◌, ◌*◌, ◌/◌, ◌^◌, ◌<◌, false, eqb, length, List}
use Rattle.std.proofs.Common.{refl, arith, pow_pos}
use Rattle.std.specs.List.{list_any}
use Rattle.std.specs.Prelude.{not, ◌||◌, ◌%◌}
use Rattle.std.proofs.lemmas.Nat.{mod-pow-add}
use Rattle.std.proofs.lemmas.Nat.Bits.{bit_at-lt}
use Rattle.hevc_spec.specs.Payload.{Place, bits, payload_bits, first_place, low_bits, bits_left}
use Rattle.hevc_spec.proofs.PlaceLaws.{low_bits_length}

abbrev pub place : ℕ → ℕ → ℕ → List ℕ → ℕ → Place
place unread byte run behind dropped = record {
  loaded = low_bits unread byte;
  zero_run = run;
  behind = behind;
  dropped = dropped;
}

pub bits-first_place : (bytes : List ℕ) → bits (first_place bytes) ≡ payload_bits 0 bytes
unfolding bits
bits-first_place bytes = refl

pub bits_left-place : (unread byte run : ℕ) (behind : List ℕ) (d : ℕ)
    → bits_left (place unread byte run behind d) ≡ unread + 8 * length behind
unfolding bits_left
bits_left-place unread byte run behind d = rw (low_bits_length unread byte) refl

-- a digit before a rest
not_zero : (a p r : ℕ) → 0 < p → a < 2 → (eqb a 1 || not (eqb r 0)) ≡ not (eqb (a * p + r) 0)
not_zero zero p r pos small = let e : 0 * p + r ≡ r = omega arith in rw e refl
not_zero (suc zero) p r pos small = let e : eqb (1 * p + r) 0 ≡ false = grind arith in rw e refl
not_zero (suc (suc a)) p r pos small = absurd (omega arith)

pub ones-low_bits : (n byte : ℕ) → list_any (λ b. b) (low_bits n byte) ≡ not (eqb (byte % 2 ^ n) 0)
ones-low_bits zero byte = let e : byte % 1 ≡ 0 = omega arith in rw e refl
ones-low_bits (suc n) byte =
    let k : suc n ≡ 1 + n = omega arith in
    let split : byte % 2 ^ suc n ≡ (byte / 2 ^ n % 2) * 2 ^ n + byte % 2 ^ n = rw k (mod-pow-add byte 1 n) in
    rw (split, ones-low_bits n byte) (not_zero (byte / 2 ^ n % 2) (2 ^ n) (byte % 2 ^ n) (pow_pos n) (bit_at-lt byte n))
