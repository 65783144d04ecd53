-- Order counts of members.
use Rattle.std.proofs.Common.{◌≡◌, ℕ, ℤ, pos, ◌*◌, ◌%◌, ◌^◌, ◌<◌, ◌≤◌, Bool, true, false, ◌&&◌, sym, ap, ◌∙◌, arith}
use Rattle.std.specs.Int.{int_rem_euclid}
use Rattle.std.specs.Ordering.{int_eq}
use Rattle.std.proofs.Math.Nat.{mul-le-mul, mod-eq_of_lt}
use Rattle.hevc_walk_inputs.specs.Headers.{told_cycle}
use Rattle.hevc_walk.specs.Meanings.{Slice}
use Rattle.hevc_walk.specs.Pictures.{Head}
use Rattle.hevc_walk.specs.Buffer.{Entry, is_reference}
use Rattle.hevc_walk.specs.ReferenceSets.{is_named, long_term_count}

pub product_below : (c m : ℕ) → c < 2 ^ 64 → m ≤ 65536 → c * m < 1208925819614629174706177
product_below c m h k = let l : c * m ≤ 18446744073709551615 * 65536 =
    mul-le-mul {n₁ = c} {m₁ = m} {n₂ = 18446744073709551615} {m₂ = 65536} (omega arith) k in omega (arith, l)

rest_twice : (n m : ℕ) → 0 < m → n % m % m ≡ n % m
rest_twice n m h = mod-eq_of_lt (omega arith)

-- a member by its whole count
pub whole_named : (p : Head) (first : Slice) (e : Entry) (order_count modulus : ℤ) (m cycle lsb : ℕ)
    (wanted : ℤ) (is_present : Bool) → order_count ≡ p.order_count → pos m ≡ pos first.max_pic_order_cnt_lsb
    → wanted ≡ long_term_count order_count m cycle lsb → is_present ≡ true
    → (is_reference e.mark && int_eq e.order_count wanted)
    ≡ (is_reference e.mark && is_named p first lsb (told_cycle is_present cycle) e.order_count)
whole_named p first e order_count modulus m cycle lsb wanted is_present is_count is_m is present =
    let same : m ≡ first.max_pic_order_cnt_lsb = cc in
    ap (λ (x : ℤ). is_reference e.mark && int_eq e.order_count x) is
    ∙ ap (λ (x : ℤ). is_reference e.mark && int_eq e.order_count (long_term_count x m cycle lsb)) is_count
    ∙ ap (λ x. is_reference e.mark && int_eq e.order_count (long_term_count p.order_count x cycle lsb)) same
    ∙ ap (λ b. is_reference e.mark && is_named p first lsb (told_cycle b cycle) e.order_count) (sym present)

-- a member by its low bits
pub bits_named : (p : Head) (first : Slice) (e : Entry) (modulus wanted : ℤ) (m cycle lsb : ℕ)
    (is_present : Bool) → modulus ≡ pos m → pos m ≡ pos first.max_pic_order_cnt_lsb → 0 < m
    → wanted ≡ pos (lsb % m) → is_present ≡ false
    → (is_reference e.mark && int_eq (int_rem_euclid e.order_count modulus) (int_rem_euclid wanted modulus))
    ≡ (is_reference e.mark && is_named p first lsb (told_cycle is_present cycle) e.order_count)
bits_named p first e modulus wanted m cycle lsb is_present is_modulus is_m some is present =
    let same : m ≡ first.max_pic_order_cnt_lsb = cc in
    ap (λ (x : ℤ). is_reference e.mark && int_eq (int_rem_euclid e.order_count modulus) (int_rem_euclid x modulus)) is
    ∙ ap (λ (x : ℤ). is_reference e.mark && int_eq (int_rem_euclid e.order_count x)
    (int_rem_euclid (pos (lsb % m)) x)) is_modulus
    ∙ ap (λ x. is_reference e.mark && int_eq (int_rem_euclid e.order_count (pos m)) (pos x)) (rest_twice lsb m some)
    ∙ ap (λ x. is_reference e.mark && int_eq (int_rem_euclid e.order_count (pos x)) (pos (lsb % x))) same
    ∙ ap (λ b. is_reference e.mark && is_named p first lsb (told_cycle b cycle) e.order_count) (sym present)
