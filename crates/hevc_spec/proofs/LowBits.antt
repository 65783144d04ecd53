-- The low bits of a number, and what they spell.
use Rattle.std.proofs.Common.{◌≡◌, ℕ, zero, suc, ◌+◌, ◌-◌, ◌*◌, ◌/◌, ◌%◌, ◌^◌, ◌<◌, ◌≤◌, Bool, true}
use Rattle.std.proofs.Common.{false, cond, eqb, List, [], ◌∷◌, ◌++◌, length, drop, refl, ap, sym}
use Rattle.std.proofs.Common.{◌∙◌, arith, pow_pos, append_assoc, subst}
use Rattle.std.specs.Prelude.{nat_le}
use Rattle.std.specs.Int.{bit_at}
use Rattle.std.proofs.lemmas.Nat.{mod-pow-add, shr-shr, shr_split, field_of, shr_below, le-div, div_below}
use Rattle.std.proofs.lemmas.Nat.Bits.{bit_at-lt, bit_at_cat_low, bit_at_above}
use Rattle.std.proofs.lemmas.Grind.{pow_more}
use Rattle.std.proofs.Math.Nat.{mul_assoc}
use Rattle.std.proofs.Math.Pow.{pow_mono}
use Rattle.std.proofs.Math.Seq.{drop-append_seam}
use Rattle.hevc_spec.specs.Payload.{low_bits}
use Rattle.hevc_spec.specs.Bits.{found, ended, bits_after, golomb_at, ue_at, less_one, in_range}
use Rattle.hevc_spec.proofs.BitSteps.{bits_after-zero, bits_after-nil, bits_after-cons}
use Rattle.hevc_spec.proofs.BitSteps.{golomb_after, golomb_after-zero, golomb_after-one}
use Rattle.hevc_spec.proofs.BitSteps.{golomb_after-more}
use Rattle.hevc_spec.proofs.PlaceLaws.{low_bits_length}

pub bit_at-mod : (m c i : ℕ) → i < m → bit_at (c % 2 ^ m) i ≡ bit_at c i
bit_at-mod m c i lt = sym (bit_at_cat_low (c / 2 ^ m) m (c % 2 ^ m) i lt) ∙ ap (λ (x : ℕ). bit_at x i) (shr_split c m)

pub low_bits-mod : (n m c : ℕ) → n ≤ m → low_bits n (c % 2 ^ m) ≡ low_bits n c
low_bits-mod zero m c le = refl
low_bits-mod (suc n) m c le = let lt : n < m =
    omega arith in rw (bit_at-mod m c n lt, low_bits-mod n m c (omega arith)) refl

-- the bits above and below a place
pub low_bits-add : (n m c : ℕ) → low_bits (n + m) c ≡ low_bits n (c / 2 ^ m) ++ low_bits m c
low_bits-add zero m c = let e : 0 + m ≡ m = omega arith in rw e refl
low_bits-add (suc n) m c =
    let e : suc n + m ≡ suc (n + m) = omega arith in
    let k : n + m ≡ m + n = omega arith in
    let top : bit_at (c / 2 ^ m) n ≡ bit_at c (n + m) = rw k (ap (λ (x : ℕ). x % 2) (shr-shr c m n)) in
    rw (e, top, low_bits-add n m c) refl

digit : (x : ℕ) → x < 2 → cond (eqb x 1) 1 0 ≡ x
digit zero h = refl
digit (suc zero) h = refl
digit (suc (suc x)) h = absurd (omega arith)

twice : (v n : ℕ) (a r : ℕ) → (2 * v + a) * 2 ^ n + r ≡ v * 2 ^ suc n + (a * 2 ^ n + r)
twice v n a r =
    let k : suc n ≡ n + 1 = omega arith in
    let e : 2 ^ suc n ≡ 2 ^ n * 2 = rw k (pow_more 2 n) in
    let p : v * (2 ^ n * 2) ≡ v * 2 ^ n * 2 = sym (mul_assoc v (2 ^ n) 2) in
    rw e (omega (arith, p))

spells_all : (v n d : ℕ) (rest : List Bool) → bits_after v n (low_bits n d ++ rest) ≡ found (v * 2 ^ n + d % 2 ^ n) rest
spells_all v zero d rest = let e : v * 1 + d % 1 ≡ v = omega arith in rw e (bits_after-zero v rest)
spells_all v (suc n) d rest =
    let k : suc n ≡ 1 + n = omega arith in
    let split : d % 2 ^ suc n ≡ bit_at d n * 2 ^ n + d % 2 ^ n = rw k (mod-pow-add d 1 n) in
    let one = bits_after-cons v n (eqb (bit_at d n) 1) (low_bits n d ++ rest) in
    let next : bits_after (2 * v + bit_at d n) n (low_bits n d ++ rest) ≡ found
    ((2 * v + bit_at d n) * 2 ^ n + d % 2 ^ n) rest = spells_all (2 * v + bit_at d n) n d rest in
    let same : 2 * v + cond (eqb (bit_at d n) 1) 1 0 ≡ 2 * v + bit_at d n =
    ap (λ (x : ℕ). 2 * v + x) (digit (bit_at d n) (bit_at-lt d n)) in
    one ∙ ap (λ (x : ℕ). bits_after x n (low_bits n d ++ rest)) same ∙ next
    ∙ ap (λ (x : ℕ). found x rest) (twice v n (bit_at d n) (d % 2 ^ n) ∙ ap (λ (x : ℕ). v * 2 ^ suc n + x) (sym split))

-- the first bits of a number's low ones
pub spells : (v n left c : ℕ) (rest : List Bool) → n ≤ left
    → bits_after v n (low_bits left c ++ rest) ≡ found (v * 2 ^ n + (c / 2 ^ (left - n)) % 2 ^ n)
    (low_bits (left - n) c ++ rest)
spells v n left c rest le =
    let m = left - n in
    let e : left ≡ n + m = omega arith in
    let split : low_bits left c ++ rest ≡ low_bits n (c / 2 ^ m) ++ (low_bits m c ++ rest) =
    ap (λ (x : ℕ). low_bits x c ++ rest) e ∙ ap (λ (x : List Bool). x ++ rest) (low_bits-add n m c)
    ∙ append_assoc (low_bits n (c / 2 ^ m)) (low_bits m c) rest in
    ap (bits_after v n) split ∙ spells_all v n (c / 2 ^ m) (low_bits m c ++ rest)

pub drop-low_bits : (n left c : ℕ) (rest : List Bool) → n ≤ left
    → drop n (low_bits left c ++ rest) ≡ low_bits (left - n) c ++ rest
drop-low_bits n left c rest le =
    let m = left - n in
    let e : left ≡ n + m = omega arith in
    let split : low_bits left c ++ rest ≡ low_bits n (c / 2 ^ m) ++ (low_bits m c ++ rest) =
    ap (λ (x : ℕ). low_bits x c ++ rest) e ∙ ap (λ (x : List Bool). x ++ rest) (low_bits-add n m c)
    ∙ append_assoc (low_bits n (c / 2 ^ m)) (low_bits m c) rest in
    let front : drop (length (low_bits n (c / 2 ^ m))) (low_bits n (c / 2 ^ m) ++ (low_bits m c ++ rest))
    ≡ low_bits m c ++ rest = drop-append_seam (low_bits n (c / 2 ^ m)) (low_bits m c ++ rest) in
    ap (drop n) split ∙ ap (λ (x : ℕ). drop x (low_bits n (c / 2 ^ m) ++ (low_bits m c ++ rest)))
    (sym (low_bits_length n (c / 2 ^ m))) ∙ front

pub bits_after-ended : (front n : ℕ) (bits : List Bool) → length bits < n → bits_after front n bits ≡ ended
unfolding bits_after
bits_after-ended front n bits few = let e : nat_le n (length bits) ≡ false = grind arith in rw e refl

-- one bit that was found
pub one_found : (v : ℕ) (bits rest : List Bool) → bits_after 0 1 bits ≡ found (0 * 2 ^ 1 + v) rest
    → bits ≡ eqb v 1 ∷ rest
one_found v [] rest e = absurd (cc (e, bits_after-nil 0 0))
one_found v (b ∷ bits) rest e =
    by_bit b (sym (bits_after-zero (2 * 0 + cond b 1 0) bits) ∙ sym (bits_after-cons 0 0 b bits) ∙ e)
  where
    by_bit : (b : Bool) → found (2 * 0 + cond b 1 0) bits ≡ found (0 * 2 ^ 1 + v) rest → b ∷ bits ≡ eqb v 1 ∷ rest
    by_bit true h =
        let value : 1 ≡ 0 * 2 ^ 1 + v = cc in
        let same : bits ≡ rest = cc in
        let one : v ≡ 1 = omega arith in
        rw (one, same) refl
    by_bit false h =
        let value : 0 ≡ 0 * 2 ^ 1 + v = cc in
        let same : bits ≡ rest = cc in
        let none : v ≡ 0 = omega arith in
        rw (none, same) refl

-- ---- Exp-Golomb numbers

-- zeros before the highest one
golomb_zeros : (z k m w : ℕ) (rest : List Bool) → w < 2 ^ m
    → golomb_after k (low_bits (z + m) w ++ rest) ≡ golomb_after (k + z) (low_bits m w ++ rest)
golomb_zeros zero k m w rest small =
    let e : 0 + m ≡ m = omega arith in
    let f : k + 0 ≡ k = omega arith in
    rw (e, f) refl
golomb_zeros (suc z) k m w rest small =
    let e : suc z + m ≡ suc (z + m) = omega arith in
    let f : k + suc z ≡ suc k + z = omega arith in
    let none : bit_at w (z + m) ≡ 0 = bit_at_above w m (z + m) small (omega arith) in
    rw (e, f, none) (golomb_after-more k (low_bits (z + m) w ++ rest) ∙ golomb_zeros z (suc k) m w rest small)

in_bounds : (v : ℕ) → v ≤ 2147483647 → in_range 0 2147483647 v ≡ true
in_bounds v small = grind arith

top_one : (m w : ℕ) → 2 ^ m ≤ w → w < 2 ^ suc m → w / 2 ^ m ≡ 1
top_one m w big small =
    let k : suc m ≡ m + 1 = omega arith in
    let e : 2 ^ suc m ≡ 2 ^ m * 2 = rw k (pow_more 2 m) in
    let low = le-div 1 w (2 ^ m) (pow_pos m) (omega (arith, big)) in
    let high = div_below w (2 ^ m) 2 (pow_pos m) (omega (arith, small, e)) in
    omega (arith, low, high)

golomb_one : (k m w : ℕ) (rest : List Bool) → 2 ^ m ≤ w → w < 2 ^ suc m → k ≤ 31
    → golomb_after k (low_bits (suc m) w ++ rest) ≡ less_one (bits_after 1 k (low_bits m w ++ rest))
golomb_one k m w rest big small few =
    let one : bit_at w m ≡ 1 = ap (λ (x : ℕ). x % 2) (top_one m w big small) in
    rw one (golomb_after-one k (low_bits m w ++ rest) few)

found_in_bounds : (v : ℕ) (rest : List Bool) (bits : List Bool) → v ≤ 2147483647
    → golomb_at bits ≡ found v rest → ue_at bits ≡ found v rest
unfolding ue_at
found_in_bounds v rest bits small e = rw (e, in_bounds v small) refl

-- an Exp-Golomb number of so many zeros, whose bits are all among a number's low ones
pub golomb-low_bits : (zeros behind left c : ℕ) (rest : List Bool) → left ≡ (2 * zeros + 1) + behind
    → 2 ^ (zeros + behind) ≤ c % 2 ^ left → c % 2 ^ left < 2 ^ suc (zeros + behind) → zeros ≤ 30
    → ue_at (low_bits left c ++ rest) ≡ found ((c / 2 ^ behind) % 2 ^ (2 * zeros + 1) - 1) (low_bits behind c ++ rest)
golomb-low_bits z r l c rest long big small few =
    let w = c % 2 ^ l in
    let m = z + r in
    let d = (c / 2 ^ r) % 2 ^ (2 * z + 1) in
    let all : low_bits l w ≡ low_bits l c = low_bits-mod l l c (omega arith) in
    let e : l ≡ z + suc m = omega arith in
    let same : low_bits l c ++ rest ≡ low_bits (z + suc m) w ++ rest =
    ap (λ (x : List Bool). x ++ rest) (sym all ∙ ap (λ (x : ℕ). low_bits x w) e) in
    let zeros = golomb_zeros z 0 (suc m) w rest small in
    let one = golomb_one (0 + z) m w rest big small (omega arith) in
    let k : 0 + z ≡ z = omega arith in
    let back : m - z ≡ r = omega arith in
    let value : w / 2 ^ r ≡ d = rw long (field_of c (2 * z + 1) r) in
    let behind : low_bits r w ≡ low_bits r c = low_bits-mod r l c (omega arith) in
    let read : bits_after 1 (0 + z) (low_bits m w ++ rest) ≡ found (1 * 2 ^ z + d % 2 ^ z)
    (low_bits r c ++ rest) = rw k (spells 1 z m w rest (omega arith) ∙ rw (back, value, behind) refl) in
    let turned : r + z ≡ m = omega arith in
    let half : d / 2 ^ z ≡ 1 = ap (λ (x : ℕ). x / 2 ^ z) (sym value) ∙ shr-shr w r z
    ∙ ap (λ (x : ℕ). w / 2 ^ x) turned ∙ top_one m w big small in
    let whole = shr_split d z in
    let sum : 1 * 2 ^ z + d % 2 ^ z ≡ d = ap (λ (x : ℕ). x * 2 ^ z + d % 2 ^ z) (sym half) ∙ whole in
    let regroup : suc m ≡ suc z + r = omega arith in
    let small_too : w < 2 ^ (suc z + r) = subst (λ (x : ℕ). w < 2 ^ x) regroup small in
    let below : d < 2 ^ suc z = subst (λ (x : ℕ). x < 2 ^ suc z) value (shr_below w (suc z) r small_too) in
    let most : 2 ^ suc z ≤ 2 ^ 31 = pow_mono {i = suc z} {j = 31} (omega arith) in
    found_in_bounds (d - 1) (low_bits r c ++ rest) (low_bits l c ++ rest) (omega arith)
    (ap golomb_at same ∙ sym (golomb_after-zero (low_bits (z + suc m) w ++ rest)) ∙ zeros ∙ one
    ∙ ap less_one read ∙ ap (λ (x : ℕ). found (x - 1) (low_bits r c ++ rest)) sum)

-- the number that its one and the bits after that spell
pub golomb_value : (zeros behind left c : ℕ) → left ≡ (2 * zeros + 1) + behind
    → 2 ^ (zeros + behind) ≤ c % 2 ^ left → c % 2 ^ left < 2 ^ suc (zeros + behind) → zeros ≤ 30
    → (1 ≤ (c / 2 ^ behind) % 2 ^ (2 * zeros + 1)) × ((c / 2 ^ behind) % 2 ^ (2 * zeros + 1) < 2 ^ 31)
golomb_value z r l c long big small few =
    let w = c % 2 ^ l in
    let d = (c / 2 ^ r) % 2 ^ (2 * z + 1) in
    let value : w / 2 ^ r ≡ d = rw long (field_of c (2 * z + 1) r) in
    let least : 2 ^ r ≤ 2 ^ (z + r) = pow_mono {i = r} {j = z + r} (omega arith) in
    let one : 1 ≤ w / 2 ^ r = le-div 1 w (2 ^ r) (pow_pos r) (omega (arith, least, big)) in
    let regroup : suc (z + r) ≡ suc z + r = omega arith in
    let small_too : w < 2 ^ (suc z + r) = subst (λ (x : ℕ). w < 2 ^ x) regroup small in
    let below : w / 2 ^ r < 2 ^ suc z = shr_below w (suc z) r small_too in
    let most : 2 ^ suc z ≤ 2 ^ 31 = pow_mono {i = suc z} {j = 31} (omega arith) in
    (omega (arith, one, value), omega (arith, below, value, most))
