-- The computed order count is the nearest congruent one, and no other is.
use Rattle.std.proofs.Common.{◌≡◌, ℕ, ◌<◌, Bool, true, false, cond, ℤ, zero, suc, pos, negsuc, ◌+ℤ◌}
use Rattle.std.proofs.Common.{◌-ℤ◌, ◌*ℤ◌, ◌≤ℤ◌, ◌<ℤ◌, neg_ℤ, refl, sym, ◌∙◌, ap, subst, arith}
use Rattle.std.proofs.Common.{int_le}
use Rattle.std.specs.Int.{int_rem_euclid, int_div_euclid}
use Rattle.std.proofs.lemmas.Int.{ints}
use Rattle.std.proofs.Math.IntN.{pred_ℤ-*ℤ, suc_ℤ-*ℤ, suc_ℤ, -ℤ_one}
use Rattle.hevc_walk.specs.OrderCounts.{nearest, centred_difference, IsNearest}

quotient_is : (a : ℤ) (k : ℕ) → 0 < k → a ≡ ((int_div_euclid a (pos k) *ℤ pos k) +ℤ int_rem_euclid a (pos k))
quotient_is (pos a) k h = omega (arith, ints)
quotient_is (negsuc a) k h = omega (arith, ints)

rest_small : (a : ℤ) (k : ℕ) → 0 < k → (pos 0 ≤ℤ int_rem_euclid a (pos k)) × (int_rem_euclid a (pos k) <ℤ pos k)
rest_small (pos a) k h = omega (arith, ints)
rest_small (negsuc a) k h = omega (arith, ints)

cycles_same : (q : ℤ) (m : ℕ) → (neg_ℤ q *ℤ pos m) ≡ neg_ℤ (q *ℤ pos m)
cycles_same (pos zero) m = omega (arith, ints)
cycles_same (pos (suc n)) m = omega (arith, ints)
cycles_same (negsuc n) m = omega (arith, ints)

cycles_less : (q : ℤ) (m : ℕ) → ((neg_ℤ q -ℤ pos 1) *ℤ pos m) ≡ (neg_ℤ (q *ℤ pos m) -ℤ pos m)
cycles_less q m = ap (λ (z : ℤ). z *ℤ pos m) (-ℤ_one (neg_ℤ q)) ∙ pred_ℤ-*ℤ (neg_ℤ q) (pos m)
    ∙ ap (λ (z : ℤ). z -ℤ pos m) (cycles_same q m)

high_case : (m : ℕ) (c l p d : ℤ) → (l -ℤ c) ≡ (p +ℤ d) → (c +ℤ (d -ℤ pos m)) ≡ (l +ℤ (neg_ℤ p -ℤ pos m))
high_case m c l p d is = omega (arith, ints)

low_case : (c l p d : ℤ) → (l -ℤ c) ≡ (p +ℤ d) → (c +ℤ d) ≡ (l +ℤ neg_ℤ p)
low_case c l p d is = omega (arith, ints)

by_parts : (modulus : ℕ) (c : ℤ) (low : ℕ) (q d : ℤ) → (pos low -ℤ c) ≡ ((q *ℤ pos modulus) +ℤ d)
    → pos 0 ≤ℤ d → d <ℤ pos modulus → IsNearest modulus c low (c +ℤ centred_difference modulus d)
by_parts modulus c low q d is least most = by_test (int_le (d +ℤ d) (pos modulus)) refl
  where
    high_above : int_le (d +ℤ d) (pos modulus) ≡ false
        → (c +ℤ c) <ℤ ((c +ℤ (d -ℤ pos modulus)) +ℤ (c +ℤ (d -ℤ pos modulus)) +ℤ pos modulus)
    high_above h = omega (arith, ints)

    high_most : (((c +ℤ (d -ℤ pos modulus)) +ℤ (c +ℤ (d -ℤ pos modulus)))) ≤ℤ (c +ℤ c +ℤ pos modulus)
    high_most = omega (arith, ints)

    low_above : (c +ℤ c) <ℤ ((c +ℤ d) +ℤ (c +ℤ d) +ℤ pos modulus)
    low_above = omega (arith, ints)

    low_most : int_le (d +ℤ d) (pos modulus) ≡ true → ((c +ℤ d) +ℤ (c +ℤ d)) ≤ℤ (c +ℤ c +ℤ pos modulus)
    low_most h = omega (arith, ints)

    by_test : (b : Bool) → int_le (d +ℤ d) (pos modulus) ≡ b
        → IsNearest modulus c low (c +ℤ cond b d (d -ℤ pos modulus))
    by_test true h = record {
      cycles = neg_ℤ q;
      congruent = low_case c (pos low) (q *ℤ pos modulus) d is
          ∙ ap (λ (z : ℤ). pos low +ℤ z) (sym (cycles_same q modulus));
      above = low_above;
      at_most = low_most h;
    }
    by_test false h = record {
      cycles = neg_ℤ q -ℤ pos 1;
      congruent = high_case modulus c (pos low) (q *ℤ pos modulus) d is
          ∙ ap (λ (z : ℤ). pos low +ℤ z) (sym (cycles_less q modulus));
      above = high_above h;
      at_most = high_most;
    }

pub nearest_is : (modulus : ℕ) (c : ℤ) (low : ℕ) → 0 < modulus → IsNearest modulus c low (nearest modulus c low)
unfolding nearest
nearest_is modulus c low h =
    let r = rest_small (pos low -ℤ c) modulus h in
    by_parts modulus c low (int_div_euclid (pos low -ℤ c) (pos modulus))
    (int_rem_euclid (pos low -ℤ c) (pos modulus)) (quotient_is (pos low -ℤ c) modulus h) r.0 r.1

next_is : (z : ℤ) → suc_ℤ z ≡ (z +ℤ pos 1)
next_is (pos n) = omega (arith, ints)
next_is (negsuc zero) = refl
next_is (negsuc (suc n)) = omega (arith, ints)

more_by_one : (a : ℤ) (n : ℕ) → (a +ℤ pos (suc n)) ≡ suc_ℤ (a +ℤ pos n)
more_by_one a n = let s = next_is (a +ℤ pos n) in omega (arith, ints, s)

-- more cycles make a number that is greater by the modulus at least
far : (a : ℤ) (m n : ℕ) → ((a *ℤ pos m) +ℤ pos m) ≤ℤ ((a +ℤ pos (suc n)) *ℤ pos m)
far a m zero = let e = suc_ℤ-*ℤ a (pos m) in let t = ap (λ (z : ℤ). z *ℤ pos m) (next_is a) in omega (arith, ints, e, t)
far a m (suc n) = let h = far a m n in let e = suc_ℤ-*ℤ (a +ℤ pos (suc n)) (pos m) in let t =
    ap (λ (z : ℤ). z *ℤ pos m) (more_by_one a (suc n)) in omega (arith, ints, h, e, t)

too_far : (m : ℕ) (e l p q x y : ℤ) → x ≡ (l +ℤ p) → y ≡ (l +ℤ q) → (p +ℤ pos m) ≤ℤ q
    → (e +ℤ e) <ℤ (x +ℤ x +ℤ pos m) → (y +ℤ y) ≤ℤ (e +ℤ e +ℤ pos m) → ⊥
too_far m e l p q x y x_is y_is h above at_most = omega (arith, ints)

pub nearest_unique : (modulus : ℕ) (c : ℤ) (low : ℕ) (x y : ℤ) → IsNearest modulus c low x
    → IsNearest modulus c low y → x ≡ y
nearest_unique modulus c low x y f g = by_difference (g.cycles -ℤ f.cycles) apart
  where
    apart : g.cycles ≡ (f.cycles +ℤ (g.cycles -ℤ f.cycles))
    apart = omega (arith, ints)

    back : (n : ℕ) (a b : ℤ) → b ≡ (a +ℤ negsuc n) → a ≡ (b +ℤ pos (suc n))
    back n a b is = omega (arith, ints)

    same : (a b : ℤ) → b ≡ (a +ℤ pos zero) → a ≡ b
    same a b is = omega (arith, ints)

    apart_by : (a b : ℤ) (n : ℕ) → b ≡ (a +ℤ pos (suc n)) → ((a *ℤ pos modulus) +ℤ pos modulus) ≤ℤ (b *ℤ pos modulus)
    apart_by a b n is = subst (λ (z : ℤ). ((a *ℤ pos modulus) +ℤ pos modulus) ≤ℤ (z *ℤ pos modulus))
        (sym is) (far a modulus n)

    by_difference : (z : ℤ) → g.cycles ≡ (f.cycles +ℤ z) → x ≡ y
    by_difference (pos zero) is =
        f.congruent ∙ ap (λ (a : ℤ). pos low +ℤ (a *ℤ pos modulus)) (same f.cycles g.cycles is) ∙ sym g.congruent
    by_difference (pos (suc n)) is =
        absurd (too_far modulus c (pos low) (f.cycles *ℤ pos modulus)
        (g.cycles *ℤ pos modulus) x y f.congruent g.congruent (apart_by f.cycles g.cycles n is) f.above g.at_most)
    by_difference (negsuc n) is =
        absurd (too_far modulus c (pos low) (g.cycles *ℤ pos modulus)
        (f.cycles *ℤ pos modulus) y x g.congruent f.congruent
        (apart_by g.cycles f.cycles n (back n f.cycles g.cycles is)) g.above f.at_most)
