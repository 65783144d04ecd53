-- How many bits reading takes, exactly.
use Rattle.std.proofs.Common.{◌≡◌, ℕ, suc, ◌+◌, ◌*◌, ◌^◌, ◌≤◌, ◌<◌, min, Bool, true, false, List}
use Rattle.std.proofs.Common.{[], ◌∷◌, ◌++◌, length, refl, ap, ◌∙◌, arith}
use Rattle.std.specs.Prelude.{if◌then◌else◌}
use Rattle.std.proofs.lemmas.List.{length-append, length-replicate}
use Rattle.std.proofs.Math.Nat.{pow-suc, mul_assoc, mul_comm, mul-le-mul_right}
use Rattle.hevc_spec.specs.declared.Row.{Row}
use Rattle.hevc_spec.specs.Bits.{Form, u, ue, IsExpGolomb, IsSpelled, Found, found, out_of_bounds}
use Rattle.hevc_spec.specs.Bits.{ended, form_at, within, in_range, number_after}
use Rattle.hevc_spec.specs.Rows.{flag_row, bits_row, ue_row}
use Rattle.hevc_spec.specs.Table.{Table, done, element, part, Reading, gives, refuses, read, reading_then, line_found}
use Rattle.hevc_reading_laws.proofs.FormLaws.{form_front}
use Rattle.hevc_slice_parts.proofs.Logarithms.{some_powers}
use Rattle.hevc_tables.specs.MathFunctions.{ceil_log2}
use Rattle.hevc_v4l2.specs.LongTerm.{ue_bits}

-- so many bits were taken, of which this holds together with what was given
pub record Took {A : Type 0} (P : A → ℕ → Type 0) (x : A) (bits rest : List Bool) : Type 0 where
  pub count : ℕ
  pub all : length bits ≡ count + length rest
  pub so : P x count

pub record Costs {A : Type 0} (P : A → ℕ → Type 0) (t : Table A) : Type 0 where
  pub cost : (bits : List Bool) (x : A) (rest : List Bool) → read t bits ≡ gives x rest → Took P x bits rest

gives_then : {A B : Type 0} (m : Reading A) (k : A → List Bool → Reading B) (r : B) (rest : List Bool)
    → reading_then m k ≡ gives r rest
    → (x : A) × (mid : List Bool) × (m ≡ gives x mid) × (k x mid ≡ gives r rest)
gives_then (gives x mid) k r rest e = (x, mid, refl, e)
gives_then (refuses f mid) k r rest e = absurd cc

done_took : {A : Type 0} (P : A → ℕ → Type 0) (x : A) → P x 0
    → (bits : List Bool) (y : A) (rest : List Bool) → read (done x) bits ≡ gives y rest → Took P y bits rest
done_took P x p bits y rest e =
    let same : x ≡ y = cc in
    let at : bits ≡ rest = cc in
    record { count = 0; all = rw at (omega arith); so = rw (← same) p }

pub costs_done : {A : Type 0} {P : A → ℕ → Type 0} {x : A} → P x 0 → Costs P (done x)
costs_done {P = P} {x = x} p = record { cost = done_took P x p }

part_took : {A B : Type 0} (P : A → ℕ → Type 0) (Q : B → ℕ → Type 0) (t : Table A) (k : A → Table B) → Costs P t
    → ((x : A) (n : ℕ) → P x n → Costs (λ y m. Q y (n + m)) (k x))
    → (bits : List Bool) (y : B) (rest : List Bool) → read (part t k) bits ≡ gives y rest → Took Q y bits rest
part_took P Q t k first others bits y rest e =
    let m = gives_then (read t bits) (λ x mid. read (k x) mid) y rest e in
    let one = first.cost bits m.0 m.1 m.2 in
    let two = (others m.0 one.count one.so).cost m.1 y rest m.3 in
    record { count = one.count + two.count; all = omega (arith, one.all, two.all); so = two.so }

pub costs_part : {A B : Type 0} {P : A → ℕ → Type 0} {Q : B → ℕ → Type 0} {t : Table A} {k : A → Table B} → Costs P t
    → ((x : A) (n : ℕ) → P x n → Costs (λ y m. Q y (n + m)) (k x)) → Costs Q (part t k)
costs_part {P = P} {Q = Q} {t = t} {k = k} first others = record { cost = part_took P Q t k first others }

pub costs_so : {A : Type 0} {P : A → ℕ → Type 0} (Q : A → ℕ → Type 0) {t : Table A}
    → ((x : A) (n : ℕ) → P x n → Q x n) → Costs P t → Costs Q t
costs_so Q so h = record {
  cost = λ bits x rest e. let one = h.cost bits x rest e in record {
    count = one.count;
    all = one.all;
    so = so x one.count one.so;
  };
}

-- ---- elements

joined_size : (bits front mid rest : List Bool) → bits ≡ front ++ mid → mid ≡ rest
    → length bits ≡ length front + length rest
joined_size bits front mid rest parts at = rw (parts, length-append, at) refl

module _ {A : Type 0} (P : A → ℕ → Type 0) (row : Row) (form : Form) (allowed : ℕ → Bool) (value : ℕ → A)
    (holds : (v : ℕ) (front : List Bool) → allowed v ≡ true → IsSpelled form v front → P (value v) (length front)) where
  line_took : (bits : List Bool) (x : A) (rest : List Bool) (f : Found) → form_at form bits ≡ f
      → line_found row value bits (within allowed f) ≡ gives x rest → Took P x bits rest
  line_took bits x rest out_of_bounds e h = absurd cc
  line_took bits x rest ended e h = absurd cc
  line_took bits x rest (found v mid) e h = by_test (allowed v) refl h
    where
      by_test : (b : Bool) → allowed v ≡ b
          → line_found row value bits (if b then found v mid else out_of_bounds) ≡ gives x rest → Took P x bits rest
      by_test false t g = absurd cc
      by_test true t g =
          let same : value v ≡ x = cc in
          let at : mid ≡ rest = cc in
          let f = form_front form bits v mid e in
          record {
            count = length f.front;
            all = joined_size bits f.front mid rest f.parts at;
            so = rw (← same) (holds v f.front t f.spelled);
          }

  pub costs_element : Costs P (element row form allowed value)
  costs_element = record { cost = λ bits x rest e. line_took bits x rest (form_at form bits) refl e }

number_least : (n : ℕ) (bits : List Bool) → n * 2 ^ length bits ≤ number_after n bits
number_least n [] = omega arith
number_least n (b ∷ bits) =
    let h = number_least (2 * n + (if b then 1 else 0)) bits in
    let e : 2 ^ suc (length bits) ≡ 2 ^ length bits * 2 = pow-suc 2 (length bits) in
    let least : n * 2 ≤ 2 * n + (if b then 1 else 0) = at_least b in
    let step = mul-le-mul_right (2 ^ length bits) least in
    let regrouped : n * 2 * 2 ^ length bits ≡ n * (2 ^ length bits * 2) = mul_assoc n 2 (2 ^ length bits)
    ∙ ap (λ (x : ℕ). n * x) (mul_comm 2 (2 ^ length bits)) in
    rw e (omega (arith, h, step, regrouped))
  where
    at_least : (b : Bool) → n * 2 ≤ 2 * n + (if b then 1 else 0)
    at_least true = omega arith
    at_least false = omega arith

number_most : (n : ℕ) (bits : List Bool) → number_after n bits < (n + 1) * 2 ^ length bits
number_most n [] = omega arith
number_most n (b ∷ bits) =
    let h = number_most (2 * n + (if b then 1 else 0)) bits in
    let e : 2 ^ suc (length bits) ≡ 2 ^ length bits * 2 = pow-suc 2 (length bits) in
    let most : 2 * n + (if b then 1 else 0) + 1 ≤ (n + 1) * 2 = at_most b in
    let step = mul-le-mul_right (2 ^ length bits) most in
    let regrouped : (n + 1) * 2 * 2 ^ length bits ≡ (n + 1) * (2 ^ length bits * 2) =
    mul_assoc (n + 1) 2 (2 ^ length bits) ∙ ap (λ (x : ℕ). (n + 1) * x) (mul_comm 2 (2 ^ length bits)) in
    rw e (omega (arith, h, step, regrouped))
  where
    at_most : (b : Bool) → 2 * n + (if b then 1 else 0) + 1 ≤ (n + 1) * 2
    at_most true = omega arith
    at_most false = omega arith

golomb_size : (v : ℕ) (front : List Bool) → IsExpGolomb v front → v ≤ 2147483647 → length front ≡ ue_bits v
golomb_size v front s few =
    let n = length s.rest in
    let long : length front ≡ n + suc n =
    rw (s.parts, length-append) (ap (λ (k : ℕ). k + suc n) (length-replicate n false)) in
    let least : 2 ^ n ≤ v + 1 = omega (arith, number_least 1 s.rest, s.value_is) in
    let most : v + 1 < 2 * 2 ^ n = omega (arith, number_most 1 s.rest, s.value_is) in
    let small : min v 2147483647 ≡ v = omega arith in
    let log : ceil_log2 (v + 2) ≡ n + 1 =
    some_powers (v + 2) n (omega (arith, least)) (omega (arith, most)) (omega (arith, s.short)) in
    rw (long, small, log) (omega arith)

-- ---- rows

pub costs_ue : (r : Row) (min max : ℕ) → max ≤ 2147483647
    → Costs (λ v n. (v ≤ max) × (n ≡ ue_bits v)) (ue_row r min max)
unfolding ue_row
costs_ue r min max few =
    costs_element (λ v n. (v ≤ max) × (n ≡ ue_bits v)) r ue (in_range min max) (λ v. v)
    (λ v front ok s. let le : v ≤ max = grind (arith, ok) in (le, golomb_size v front s (omega (arith, le, few))))

pub costs_bits : (r : Row) (k min max : ℕ) → Costs (λ (v : ℕ) n. n ≡ k) (bits_row r k min max)
unfolding bits_row
costs_bits r k min max = costs_element (λ (v : ℕ) n. n ≡ k) r (u k) (in_range min max) (λ v. v) (λ v front ok s. s.0)

pub costs_flag : (r : Row) → Costs (λ (b : Bool) n. n ≡ 1) (flag_row r)
unfolding flag_row
costs_flag r = costs_element (λ (b : Bool) n. n ≡ 1) r (u 1) (λ _. true) _ (λ v front ok s. s.0)
