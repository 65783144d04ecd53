-- The rows of a table, filled in.
use Rattle.std.proofs.Common.{◌≡◌, ℕ, zero, suc, ◌+◌, ◌*◌, ◌/◌, ◌%◌, ◌^◌, ◌<◌, Bool, true, false}
use Rattle.std.proofs.Common.{eqb, List, [], ◌∷◌, ◌++◌, refl, sym, ap, subst, ◌∙◌, arith, pow_pos}
use Rattle.std.specs.Prelude.{ℤ, pos, neg_ℤ, if◌then◌else◌, replicate, None}
use Rattle.std.specs.Int.{bit_at}
use Rattle.std.proofs.lemmas.List.{append-nil}
use Rattle.std.proofs.lemmas.Bool.{eqb-true, eqb-false}
use Rattle.std.proofs.lemmas.Nat.Bits.{bit_at_above}
use Rattle.hevc_spec.specs.declared.Row.{Row}
use Rattle.hevc_spec.specs.Bits.{u, ue, se, skip, check, signed, in_range, in_signed_range}
use Rattle.hevc_spec.specs.Payload.{low_bits}
use Rattle.hevc_spec.specs.Table.{Table, element}
use Rattle.hevc_spec.specs.Rows.{flag_row, zero_row, bits_row, ue_row, se_row, check_row, skip_row, when, either}
use Rattle.hevc_bit_writer.specs.Writing.{CanSpell, spelled, code_number}
use Rattle.hevc_write_elements.specs.Choices.{is_chosen, is_value, skipped, chosen_value}
use Rattle.hevc_write_elements.specs.Filling.{EachFilling, WritesFlag, WritesUe, WritesSe, WritesBits, WritesZeros}
use Rattle.hevc_write_elements.proofs.Counting.{as_many, none_more, zero_counts_none, skipped_counts_none}
use Rattle.hevc_write_elements.proofs.Fillings.{done_filled, element_filled}

-- the other way round from hevc_bit_writer's signed_back
code_back : (v : ℕ) → code_number (signed v) ≡ v
code_back v = by_parity (eqb (v % 2) 1) refl
  where
    by_parity : (t : Bool) → eqb (v % 2) 1 ≡ t → code_number (if t then pos (v / 2 + 1) else neg_ℤ (pos (v / 2))) ≡ v
    by_parity true e = let odd : v % 2 ≡ 1 = eqb-true (v % 2) 1 e in omega arith
    by_parity false e = let even : v % 2 ≡ 0 = grind (arith, eqb-false (v % 2) 1 e) in by_half (v / 2) (omega arith)
      where
        by_half : (h : ℕ) → v ≡ 2 * h → code_number (neg_ℤ (pos h)) ≡ v
        by_half zero d = omega arith
        by_half (suc h) d = omega arith

-- a number is itself
eqb-same : (v : ℕ) → eqb v v ≡ true
eqb-same v = grind arith

-- the bits of 0 are zeros
pub zeros_low : (n : ℕ) → low_bits n 0 ≡ replicate n false
zeros_low zero = refl
zeros_low (suc n) =
    let none : bit_at 0 n ≡ 0 = bit_at_above 0 n n (pow_pos n) (omega arith) in
    rw none (ap (λ (x : List Bool). false ∷ x) (zeros_low n))

-- a row whose values are kept
abbrev pub IsKept : Row → Type 0
IsKept r = chosen_value r ≡ None

-- any value of a row that is kept may be written
any_chosen : (r : Row) (v : ℕ) → IsKept r → is_value (chosen_value r) v ≡ true
any_chosen r v kept = rw kept refl

-- ---- each row, where its element is some value and what was written is another's

module _ (r : Row) {w old new : List Bool} where
  -- a flag
  pub flag_written : IsKept r → {value : Bool} {Q : Bool → List Bool → Type 0} → WritesFlag value old new
      → ((v : Bool) (all : List Bool) → (v ≡ value → w ≡ old → all ≡ new) → Q v all) → EachFilling (flag_row r) w Q
  unfolding flag_row is_chosen
  flag_written kept {value = value} {Q = Q} writes h = element_filled r (u 1) (λ _. true) (λ v. eqb v 1) w Q
      (λ v a s. (v, refl, a, s, any_chosen r v kept, by_value v s, as_many r v))
    where
      same : (b : Bool) → b ≡ value → w ≡ old → w ++ b ∷ [] ≡ new
      same b is at = rw (is, at) (sym writes)

      by_value : (v : ℕ) → v < 2 ^ 1 → Q (eqb v 1) (w ++ spelled (u 1) v)
      by_value zero s = h false _ (same false)
      by_value (suc zero) s = h true _ (same true)
      by_value (suc (suc v)) s = absurd (omega arith)

  -- a flag that must not be set
  pub zero_written : IsKept r → {Q : Bool → List Bool → Type 0} → WritesFlag false old new
      → ((all : List Bool) → (w ≡ old → all ≡ new) → Q false all) → EachFilling (zero_row r) w Q
  unfolding zero_row is_chosen
  zero_written kept {Q = Q} writes h = element_filled r (u 1) (λ v. eqb v 0) (λ v. eqb v 1) w Q (λ v a s. (
    v,
    refl,
    a,
    s,
    any_chosen r v kept,
    let e : v ≡ 0 = eqb-true v 0 a in
        subst (λ (k : ℕ). Q (eqb k 1) (w ++ spelled (u 1) k)) (sym e) (h (w ++ false ∷ []) (λ at. rw at (sym writes))),
    as_many r v,
  ))

  -- a number of n bits
  pub bits_written : IsKept r → (n min max : ℕ) {value : ℕ} {Q : ℕ → List Bool → Type 0} → WritesBits n value old new
      → ((v : ℕ) → in_range min max v ≡ true → (all : List Bool) → (v ≡ value → w ≡ old → all ≡ new)
      → Q v all) → EachFilling (bits_row r n min max) w Q
  unfolding bits_row is_chosen
  bits_written kept n min max {Q = Q} writes h = element_filled r (u n) (in_range min max) (λ v. v) w Q
      (λ v a s. (v, refl, a, s, any_chosen r v kept, h v a _ (λ is at. rw (is, at) (sym writes)), as_many r v))

  -- a number of which some values are allowed
  pub number_written : IsKept r → (n : ℕ) (allowed : ℕ → Bool) {value : ℕ} {Q : ℕ → List Bool → Type 0}
      → WritesBits n value old new
      → ((v : ℕ) (all : List Bool) → (v ≡ value → w ≡ old → all ≡ new) → Q v all)
      → EachFilling (element r (u n) allowed (λ v. v)) w Q
  unfolding is_chosen
  number_written kept n allowed {Q = Q} writes h = element_filled r (u n) allowed (λ v. v) w Q
      (λ v a s. (v, refl, a, s, any_chosen r v kept, h v _ (λ is at. rw (is, at) (sym writes)), as_many r v))

  -- an Exp-Golomb number
  pub ue_written : IsKept r → (min max : ℕ) {value : ℕ} {Q : ℕ → List Bool → Type 0} → WritesUe value old new
      → ((v : ℕ) → in_range min max v ≡ true → (all : List Bool) → (v ≡ value → w ≡ old → all ≡ new)
      → Q v all) → EachFilling (ue_row r min max) w Q
  unfolding ue_row is_chosen
  ue_written kept min max {value = value} {Q = Q} writes h = element_filled r ue (in_range min max)
      (λ v. v) w Q (λ v a s. (
        v,
        refl,
        a,
        s,
        any_chosen r v kept,
        h v a _ (λ is at. ap (λ (k : ℕ). w ++ spelled ue k) is
            ∙ ap (λ (b : List Bool). b ++ spelled ue value) at ∙ sym (writes (subst (CanSpell ue) is s))),
        as_many r v,
      ))

  -- a signed one
  pub se_written : IsKept r → (min max : ℤ) {value : ℤ} {Q : ℤ → List Bool → Type 0} → WritesSe value old new
      → ((z : ℤ) → (all : List Bool) → (z ≡ value → w ≡ old → all ≡ new) → Q z all) → EachFilling (se_row r min max) w Q
  unfolding se_row is_chosen
  se_written kept min max {value = value} {Q = Q} writes h =
      element_filled r se (in_signed_range min max) signed w Q (λ v a s. (
        v,
        refl,
        a,
        s,
        any_chosen r v kept,
        h (signed v) _ (λ is at.
            let code : v ≡ code_number value = sym (code_back v) ∙ ap code_number is in
            ap (λ (k : ℕ). w ++ spelled se k) code
            ∙ ap (λ (b : List Bool). b ++ spelled se (code_number value)) at
            ∙ sym (writes (subst (CanSpell se) code s))),
        as_many r v,
      ))

  -- zeros that are not kept
  pub zeros_written : (n : ℕ) {Q : ℕ → List Bool → Type 0} → skipped r n ≡ 0 → WritesZeros n old new
      → ((all : List Bool) → (w ≡ old → all ≡ new) → Q 0 all) → EachFilling (skip_row r n) w Q
  unfolding skip_row is_chosen
  zeros_written n {Q = Q} none writes h = element_filled r (skip n) (λ _. true) (λ _. 0) w Q (λ v a s. (
    0,
    refl,
    refl,
    pow_pos n,
    rw none refl,
    h _ (λ at. rw (zeros_low n, at) (sym writes)),
    none_more r 0 v (zero_counts_none r),
  ))

  -- a number that is not kept
  pub skip_written : (n : ℕ) {Q : ℕ → List Bool → Type 0} → skipped r n < 2 ^ n
      → WritesBits n (skipped r n) old new → ((all : List Bool) → (w ≡ old → all ≡ new) → Q 0 all)
      → EachFilling (skip_row r n) w Q
  unfolding skip_row is_chosen
  skip_written n {Q = Q} fits writes h = element_filled r (skip n) (λ _. true) (λ _. 0) w Q (λ v a s. (
    skipped r n,
    refl,
    refl,
    fits,
    eqb-same (skipped r n),
    h _ (λ at. rw at (sym writes)),
    none_more r (skipped r n) v (skipped_counts_none r n),
  ))

-- a condition
pub check_held : (r : Row) (holds : Bool) {w : List Bool} {Q : ℕ → List Bool → Type 0}
    → (holds ≡ true → Q 0 w) → EachFilling (check_row r holds) w Q
unfolding check_row is_chosen
check_held r holds {w = w} {Q = Q} h = element_filled r check (λ _. holds) (λ v. v) w Q (λ v a s. (
  v,
  refl,
  a,
  s,
  refl,
  subst (λ (k : ℕ). Q k (w ++ [])) (sym s) (subst (λ (all : List Bool). Q 0 all) (sym (append-nil w)) (h a)),
  as_many r v,
))

-- ---- rows that are present only under a condition

-- a part under a condition is filled, or is absent
pub when_filled : {A : Type 0} {t : Table A} {w : List Bool} {Q : A → List Bool
    → Type 0} {c : Bool} {absent : A} → (c ≡ true → EachFilling t w Q) → (c ≡ false → Q absent w)
    → EachFilling (when c absent t) w Q
unfolding when
when_filled {c = true} there not_there = there refl
when_filled {c = false} there not_there = done_filled (not_there refl)

-- one of two parts is filled
pub either_filled : {A : Type 0} {t s : Table A} {w : List Bool} {Q : A → List Bool → Type 0} {c : Bool}
    → (c ≡ true → EachFilling t w Q) → (c ≡ false → EachFilling s w Q) → EachFilling (either c t s) w Q
unfolding either
either_filled {c = true} first second = first refl
either_filled {c = false} first second = second refl
