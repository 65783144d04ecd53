-- The digits of a number, two and four at a time.
use Rattle.std.proofs.Common.{◌≡◌, ℕ, zero, suc, ◌+◌, ◌-◌, ◌*◌, ◌/◌, ◌%◌, ◌^◌, ◌<◌, ◌≤◌, Bool, true}
use Rattle.std.proofs.Common.{◌&&◌, eqb, eqb-true, eq-zero-or-pos, inl, inr, List, [], ◌∷◌, ◌++◌}
use Rattle.std.proofs.Common.{get_or, decimal, append_assoc, arith, refl, subst, ap, ap₂, ◌∙◌}
use Rattle.std.proofs.lemmas.Bool.{and_parts}
use Rattle.std.proofs.lemmas.Fmt.{decimal_digit, decimal_step}
use Rattle.hevc_report.specs.declared.report.number.TheConstants.{PAIRS}
use Rattle.hevc_report.specs.Digits.{four_digits, two_digits}

abbrev from_table : ℕ → List ℕ
from_table n = get_or PAIRS (n * 2) 0 ∷ get_or PAIRS (n * 2 + 1) 0 ∷ []

abbrev is_pair : ℕ → Bool
is_pair n = eqb (get_or PAIRS (n * 2) 0) (48 + n / 10) && eqb (get_or PAIRS (n * 2 + 1) 0) (48 + n % 10)

-- so it is for each number below this one
abbrev are_pairs : ℕ → Bool
are_pairs zero = true
are_pairs (suc n) = is_pair n && are_pairs n

pair_is : (n : ℕ) → is_pair n ≡ true → from_table n ≡ two_digits n
pair_is n is =
    let parts =
    and_parts (eqb (get_or PAIRS (n * 2) 0) (48 + n / 10)) (eqb (get_or PAIRS (n * 2 + 1) 0) (48 + n % 10)) is in
    ap₂ (λ first second. first ∷ second ∷ []) (eqb-true _ _ parts.0) (eqb-true _ _ parts.1)

pairs_are : (n number : ℕ) → are_pairs n ≡ true → number < n → from_table number ≡ two_digits number
pairs_are zero number are below = absurd (omega arith)
pairs_are (suc n) number are below =
    let parts = and_parts (is_pair n) (are_pairs n) are in
    elim (eq-zero-or-pos (n - number)) [
      | inl last ↦
          let same : n ≡ number = omega (arith, last, below) in
          subst (λ m. from_table m ≡ two_digits m) same (pair_is n parts.0)
      | inr earlier ↦ pairs_are n number parts.1 (omega (arith, earlier))
    ]

-- the table has the two digits of each number
pub table_has : (number : ℕ) → number < 100
    → get_or PAIRS (number * 2) 0 ∷ get_or PAIRS (number * 2 + 1) 0 ∷ [] ≡ two_digits number
table_has number below = pairs_are 100 number refl below

-- a number of two digits
pub of_two : (n : ℕ) → 10 ≤ n → n < 100 → decimal n ≡ two_digits n
of_two n low high = rw (decimal_step n low (omega arith), decimal_digit (n / 10) (omega arith))

-- the last two digits come after the others
last_two : (n : ℕ) → 100 ≤ n → n < 2 ^ 64 → decimal n ≡ decimal (n / 100) ++ two_digits (n % 100)
last_two n low high =
    let front : n / 10 / 10 ≡ n / 100 = omega arith in
    let tens : n / 10 % 10 ≡ n % 100 / 10 = omega arith in
    let ones : n % 10 ≡ n % 100 % 10 = omega arith in
    rw (
      decimal_step n (omega arith) high,
      decimal_step (n / 10) (omega arith) (omega arith),
      append_assoc,
      front,
      tens,
      ← ones,
    )

-- a number of three digits
pub of_three : (n : ℕ) → 100 ≤ n → n < 1000 → decimal n ≡ (48 + n / 100) ∷ two_digits (n % 100)
of_three n low high = rw (last_two n low (omega arith), decimal_digit (n / 100) (omega arith))

-- a number of four digits
pub of_four : (n : ℕ) → 1000 ≤ n → n < 10000 → decimal n ≡ four_digits n
of_four n low high =
    last_two n (omega arith) (omega arith)
    ∙ ap (λ l. l ++ two_digits (n % 100)) (of_two (n / 100) (omega arith) (omega arith))

-- the last four digits come after the others
last_four : (n : ℕ) → 10000 ≤ n → n < 2 ^ 64 → decimal n ≡ decimal (n / 10000) ++ four_digits (n % 10000)
last_four n low high =
    let front : n / 100 / 100 ≡ n / 10000 = omega arith in
    let middle : n / 100 % 100 ≡ n % 10000 / 100 = omega arith in
    let last : n % 10000 % 100 ≡ n % 100 = omega arith in
    rw (
      last_two n (omega arith) high,
      last_two (n / 100) (omega arith) (omega arith),
      append_assoc,
      front,
      middle,
      last,
    )

-- a number of five digits
pub of_five : (n : ℕ) → 10000 ≤ n → n < 100000 → decimal n ≡ (48 + n / 10000) ∷ four_digits (n % 10000)
of_five n low high = rw (last_four n low (omega arith), decimal_digit (n / 10000) (omega arith))

-- a number of six digits
pub of_six : (n : ℕ) → 100000 ≤ n → n < 1000000 → decimal n ≡ two_digits (n / 10000) ++ four_digits (n % 10000)
of_six n low high =
    last_four n (omega arith) (omega arith)
    ∙ ap (λ l. l ++ four_digits (n % 10000)) (of_two (n / 10000) (omega arith) (omega arith))
