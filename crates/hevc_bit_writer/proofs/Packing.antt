-- Bits in bytes, eight each.
use Rattle.std.proofs.Common.{◌≡◌, ℕ, suc, ◌+◌, ◌-◌, ◌*◌, ◌%◌, ◌^◌, ◌<◌, Bool, true, false, cond}
use Rattle.std.proofs.Common.{eqb, List, [], ◌∷◌, ◌++◌, length, get_or, refl, sym, ap, ap₂, ◌∙◌}
use Rattle.std.proofs.Common.{arith, append_assoc}
use Rattle.std.specs.Prelude.{All}
use Rattle.std.specs.Int.{bit_at}
use Rattle.std.proofs.lemmas.List.{append-nil, length-append}
use Rattle.std.proofs.lemmas.Nat.Bits.{bit_at_cat_high, bit_at_lowest}
use Rattle.std.proofs.lemmas.Grind.{get_or_default_zero}
use Rattle.std.proofs.lemmas.List.Elements.{All-head, All-tail}
use Rattle.hevc_spec.specs.Bits.{number, number_after, u, IsAtFront}
use Rattle.hevc_spec.specs.Payload.{low_bits, bits_of}
use Rattle.hevc_spec.proofs.BitSteps.{spelled-bound}
use Rattle.hevc_spec.proofs.PlaceLaws.{low_bits_length}
use Rattle.hevc_bit_writer.specs.Writing.{packed}
use Rattle.hevc_bit_writer.proofs.Spellings.{number-low_bits, twice}

number-bound : (bits : List Bool) → number bits < 2 ^ length bits
number-bound bits =
    let here : IsAtFront (u (length bits)) (number bits) bits [] = record {
      front = bits;
      spelled = (refl, refl);
      parts = sym (append-nil bits);
    } in
    spelled-bound (length bits) (number bits) bits [] here

pub number_after-is : (v : ℕ) (bits : List Bool) → number_after v bits ≡ v * 2 ^ length bits + number bits
number_after-is v [] = omega arith
number_after-is v (b ∷ bits) =
    let d = cond b 1 0 in
    let n = length bits in
    let one = number_after-is (2 * v + d) bits in
    let two = number_after-is (2 * 0 + d) bits in
    let none : 2 * 0 + d ≡ d = omega arith in
    let first : number_after (2 * 0 + d) bits ≡ d * 2 ^ n + number bits =
    two ∙ ap (λ (x : ℕ). x * 2 ^ n + number bits) none in
    one ∙ twice v n d (number bits) ∙ ap (λ (x : ℕ). v * 2 ^ suc n + x) (sym first)

-- the low bits of a number that bits spell
pub low_bits-number : (v : ℕ) (bits : List Bool) → low_bits (length bits) (number_after v bits) ≡ bits
low_bits-number v [] = refl
low_bits-number v (b ∷ bits) =
    let w = 2 * v + cond b 1 0 in
    let n = length bits in
    let back : n - n ≡ 0 = omega arith in
    let top : bit_at (number_after w bits) n ≡ w % 2 = ap (λ (x : ℕ). bit_at x n) (number_after-is w bits)
    ∙ bit_at_cat_high w n (number bits) n (number-bound bits) (omega arith) ∙ ap (bit_at w) back ∙ bit_at_lowest w in
    rw (top, low_bits-number w bits) (ap (λ (x : Bool). x ∷ bits) (digit b))
  where
    digit : (b : Bool) → eqb ((2 * v + cond b 1 0) % 2) 1 ≡ b
    digit true = let e : (2 * v + 1) % 2 ≡ 1 = omega arith in rw e refl
    digit false = let e : (2 * v + 0) % 2 ≡ 0 = omega arith in rw e refl

pub bits_packed : (bits : List Bool) → length bits % 8 ≡ 0 → bits_of (packed bits) ≡ bits
bits_packed (a ∷ b ∷ c ∷ d ∷ e ∷ f ∷ g ∷ h ∷ bits) whole =
    let rest = bits_packed bits (omega arith) in
    let first = low_bits-number 0 (a ∷ b ∷ c ∷ d ∷ e ∷ f ∷ g ∷ h ∷ []) in
    ap (λ (x : List Bool). x ++ bits_of (packed bits)) first
    ∙ ap (λ (x : List Bool). a ∷ b ∷ c ∷ d ∷ e ∷ f ∷ g ∷ h ∷ x) rest
bits_packed [] whole = refl
bits_packed (a ∷ []) whole = absurd (omega arith)
bits_packed (a ∷ b ∷ []) whole = absurd (omega arith)
bits_packed (a ∷ b ∷ c ∷ []) whole = absurd (omega arith)
bits_packed (a ∷ b ∷ c ∷ d ∷ []) whole = absurd (omega arith)
bits_packed (a ∷ b ∷ c ∷ d ∷ e ∷ []) whole = absurd (omega arith)
bits_packed (a ∷ b ∷ c ∷ d ∷ e ∷ f ∷ []) whole = absurd (omega arith)
bits_packed (a ∷ b ∷ c ∷ d ∷ e ∷ f ∷ g ∷ []) whole = absurd (omega arith)

pub packed_bytes : (bytes : List ℕ) → All (λ byte. byte < 256) bytes → packed (bits_of bytes) ≡ bytes
packed_bytes [] small = refl
packed_bytes (byte ∷ bytes) small =
    ap₂ (λ (x : ℕ) (y : List ℕ). x ∷ y)
    (number-low_bits 8 byte (All-head (λ (b : ℕ). b < 256) byte bytes small))
    (packed_bytes bytes (All-tail (λ (b : ℕ). b < 256) byte bytes small))

pub bits_of-append : (xs ys : List ℕ) → bits_of (xs ++ ys) ≡ bits_of xs ++ bits_of ys
bits_of-append [] ys = refl
bits_of-append (x ∷ xs) ys = ap (λ (b : List Bool). low_bits 8 x ++ b) (bits_of-append xs ys)
    ∙ sym (append_assoc (low_bits 8 x) (bits_of xs) (bits_of ys))

pub length-bits_of : (bytes : List ℕ) → length (bits_of bytes) ≡ 8 * length bytes
length-bits_of [] = refl
length-bits_of (byte ∷ bytes) = omega (arith, length-bits_of bytes)

-- the bytes of a writer that has no bits after them
pub whole_bytes : (written : List Bool) (lent bytes : List ℕ) (filled partial : ℕ) → lent ≡ bytes
    → ((k : ℕ) → get_or lent k 0 < 256) → bits_of bytes ++ low_bits filled partial ≡ written → filled < 8
    → length written % 8 ≡ 0 → lent ≡ packed written
whole_bytes written lent bytes filled partial same small is few whole =
    let long : length written ≡ 8 * length bytes + filled =
    ap length (sym is) ∙ length-append (bits_of bytes) (low_bits filled partial)
    ∙ omega (arith, length-bits_of bytes, low_bits_length filled partial) in
    let none : filled ≡ 0 = omega (arith, long, whole) in
    let all : bits_of bytes ≡ written = sym (append-nil (bits_of bytes))
    ∙ ap (λ (x : ℕ). bits_of bytes ++ low_bits x partial) (sym none) ∙ is in
    sym (packed_bytes lent
    (λ k d inside. let e = get_or_default_zero lent k d inside in omega (arith, small k, e)))
    ∙ ap (λ (x : List ℕ). packed (bits_of x)) same ∙ ap packed all
