-- What a writer has written, bit by bit.
use Rattle.std.proofs.Common.{◌≡◌, ℕ, zero, suc, ◌+◌, ◌-◌, ◌*◌, ◌/◌, ◌%◌, ◌^◌, ◌<◌, ◌≤◌, Bool, true}
use Rattle.std.proofs.Common.{false, eqb, List, [], ◌∷◌, ◌++◌, length, take, refl, sym, ap, ◌∙◌}
use Rattle.std.proofs.Common.{arith, append_assoc}
use Rattle.std.specs.Prelude.{replicate, bit_and, Result, Ok, Err, OnErr}
use Rattle.std.specs.Int.{bit_at}
use Rattle.std.proofs.lemmas.List.{append-nil, length-append}
use Rattle.std.proofs.lemmas.Nat.{shr-shr, one_shl}
use Rattle.std.proofs.lemmas.Nat.Bits.{shr_and_one, bit_at-zero, bit_at_lowest, bit_at-pow_same}
use Rattle.std.proofs.Math.Nat.{mod_self}
use Rattle.std.proofs.Math.Seq.{take-append_seam}
use mir.Val.{bool_byte}
use Rattle.hevc_spec.specs.Payload.{low_bits, bits_of}
use Rattle.hevc_spec.proofs.LowBits.{low_bits-add, low_bits-mod}
use Rattle.hevc_spec.proofs.PlaceLaws.{low_bits_length}
use Rattle.hevc_bit_writer.specs.Writing.{GrewByFirst, trailing_bits}
use Rattle.hevc_bit_writer.proofs.Packing.{bits_of-append, length-bits_of}

-- ---- one bit

one_more : (filled partial : ℕ) (flag : Bool)
    → low_bits (filled + 1) (2 * partial + bool_byte flag) ≡ low_bits filled partial ++ flag ∷ []
one_more filled partial true =
    let half : (2 * partial + 1) / 2 ≡ partial = omega arith in
    let odd : (2 * partial + 1) / 1 % 2 ≡ 1 = omega arith in
    low_bits-add filled 1 (2 * partial + 1) ∙ rw (half, odd) refl
one_more filled partial false =
    let half : (2 * partial + 0) / 2 ≡ partial = omega arith in
    let even : (2 * partial + 0) / 1 % 2 ≡ 0 = omega arith in
    low_bits-add filled 1 (2 * partial + 0) ∙ rw (half, even) refl

-- a bit that fills no byte
pub pushed_within : (bytes : List ℕ) (filled partial : ℕ) (flag : Bool)
    → bits_of bytes ++ low_bits (filled + 1) (2 * partial + bool_byte flag) ≡ bits_of bytes
    ++ low_bits filled partial ++ flag ∷ []
pushed_within bytes filled partial flag =
    ap (λ (x : List Bool). bits_of bytes ++ x) (one_more filled partial flag)
    ∙ sym (append_assoc (bits_of bytes) (low_bits filled partial) (flag ∷ []))

-- a bit that fills a byte
pub pushed_whole : (bytes : List ℕ) (filled partial : ℕ) (flag : Bool) → filled ≡ 7
    → bits_of (bytes ++ (2 * partial + bool_byte flag) ∷ []) ++ [] ≡ bits_of bytes
    ++ low_bits filled partial ++ flag ∷ []
pushed_whole bytes filled partial flag last =
    let byte = 2 * partial + bool_byte flag in
    let eight : 8 ≡ filled + 1 = omega arith in
    append-nil (bits_of (bytes ++ byte ∷ [])) ∙ bits_of-append bytes (byte ∷ [])
    ∙ ap (λ (x : List Bool). bits_of bytes ++ x) (append-nil (low_bits 8 byte) ∙ ap (λ (x : ℕ). low_bits x byte) eight)
    ∙ pushed_within bytes filled partial flag

-- ---- so many low bits

-- one more of the bits of a number
pub next_bit : (count value place : ℕ) → place < count
    → low_bits (count - (place + 1)) (value / 2 ^ (place + 1))
    ++ eqb (bit_at value place) 1 ∷ [] ≡ low_bits (count - place) (value / 2 ^ place)
next_bit count value place lt =
    let n = count - (place + 1) in
    let c = value / 2 ^ place in
    let long : count - place ≡ n + 1 = omega arith in
    let bit : low_bits 1 c ≡ eqb (bit_at value place) 1 ∷ [] = ap (λ (x : ℕ). eqb x 1 ∷ []) (bit_at_lowest c) in
    ap (λ (x : ℕ). low_bits n x ++ eqb (bit_at value place) 1 ∷ []) (sym (shr-shr value place 1))
    ∙ ap (λ (x : List Bool). low_bits n (c / 2 ^ 1) ++ x) (sym bit) ∙ sym (low_bits-add n 1 c)
    ∙ ap (λ (x : ℕ). low_bits x c) (sym long)

-- one turn of a writer of them
pub one_on : (old before new : List Bool) (count value place : ℕ) → 0 < place → place ≤ count
    → before ≡ old ++ low_bits (count - place) (value / 2 ^ place)
    → new ≡ before ++ eqb (bit_and (value / 2 ^ (place - 1)) 1) 1 ∷ []
    → new ≡ old ++ low_bits (count - (place - 1)) (value / 2 ^ (place - 1))
one_on old before new count value place some le so_far e =
    let p = place - 1 in
    let k : place ≡ p + 1 = omega arith in
    let bit : eqb (bit_and (value / 2 ^ p) 1) 1 ∷ [] ≡ eqb (bit_at value p) 1 ∷ [] =
    ap (λ (x : ℕ). eqb x 1 ∷ []) (shr_and_one value p) in
    let here : before ≡ old ++ low_bits (count - (p + 1)) (value / 2 ^ (p + 1)) =
    so_far ∙ ap (λ (x : ℕ). old ++ low_bits (count - x) (value / 2 ^ x)) k in
    e ∙ ap (λ (x : List Bool). x ++ eqb (bit_and (value / 2 ^ p) 1) 1 ∷ []) here
    ∙ ap (λ (x : List Bool). (old ++ low_bits (count - (p + 1)) (value / 2 ^ (p + 1))) ++ x) bit
    ∙ append_assoc old (low_bits (count - (p + 1)) (value / 2 ^ (p + 1))) (eqb (bit_at value p) 1 ∷ [])
    ∙ ap (λ (x : List Bool). old ++ x) (next_bit count value p (omega arith))

-- the first ones of the bits of a number
pub first_bits : (count value place : ℕ) → place ≤ count
    → take (count - place) (low_bits count value) ≡ low_bits (count - place) (value / 2 ^ place)
first_bits count value place le =
    let n = count - place in
    let c = value / 2 ^ place in
    let whole : count ≡ n + place = omega arith in
    let split : low_bits count value ≡ low_bits n c ++ low_bits place value =
    ap (λ (x : ℕ). low_bits x value) whole ∙ low_bits-add n place value in
    ap (take n) split ∙ ap (λ (x : ℕ). take x (low_bits n c ++ low_bits place value))
    (sym (low_bits_length n c)) ∙ take-append_seam (low_bits n c) (low_bits place value)

-- ---- a one and zeros

zeros_below : (m : ℕ) → low_bits m 0 ≡ replicate m false
zeros_below zero = refl
zeros_below (suc m) = rw (bit_at-zero m) (ap (λ (x : List Bool). false ∷ x) (zeros_below m))

pub one_and_zeros : (m : ℕ) → low_bits (m + 1) (1 * 2 ^ m) ≡ true ∷ replicate m false
one_and_zeros m =
    let one : m + 1 ≡ suc m = omega arith in
    let same : 1 * 2 ^ m ≡ 2 ^ m = omega arith in
    let below : low_bits m (2 ^ m) ≡ low_bits m 0 = sym (low_bits-mod m m (2 ^ m) (omega arith))
    ∙ ap (low_bits m) (mod_self (2 ^ m)) in
    rw (one, same, bit_at-pow_same m) (ap (λ (x : List Bool). true ∷ x) (below ∙ zeros_below m))

-- how many bits come after the last whole byte
pub left_over : (written : List Bool) (bytes : List ℕ) (filled partial : ℕ)
    → bits_of bytes ++ low_bits filled partial ≡ written → filled < 8 → length written % 8 ≡ filled
left_over written bytes filled partial is few =
    let long : length written ≡ 8 * length bytes + filled =
    ap length (sym is) ∙ length-append (bits_of bytes) (low_bits filled partial)
    ∙ omega (arith, length-bits_of bytes, low_bits_length filled partial) in
    omega (arith, long)

-- what ends the bits of a writer
pub trailing_written : (written : List Bool) (bytes : List ℕ) (filled partial : ℕ)
    → bits_of bytes ++ low_bits filled partial ≡ written → filled < 8
    → low_bits (7 - filled + 1) ((1 * 2 ^ (7 - filled)) % 2 ^ 64) ≡ trailing_bits (length written)
trailing_written written bytes filled partial is few =
    let m = 7 - filled in
    let fits : (1 * 2 ^ m) % 2 ^ 64 ≡ 2 ^ m = one_shl m 64 (omega arith) in
    let same : 2 ^ m ≡ 1 * 2 ^ m = omega arith in
    let left = left_over written bytes filled partial is few in
    ap (low_bits (m + 1)) (fits ∙ same) ∙ one_and_zeros m ∙ ap (λ (x : ℕ). true ∷ replicate (7 - x) false) (sym left)

-- ---- refusals

pub on_err : {T E : Type 0} (r : Result T E) {P : Type 0} → P → OnErr r P
on_err (Ok x) p = tt
on_err (Err e) p = p

-- so many first bits were written
pub grew_to : (old new : List Bool) (count value place : ℕ) → place ≤ count
    → new ≡ old ++ low_bits (count - place) (value / 2 ^ place) → GrewByFirst old new (low_bits count value)
grew_to old new count value place le e =
    (count - place, e ∙ ap (λ (x : List Bool). old ++ x) (sym (first_bits count value place le)))
