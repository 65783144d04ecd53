use Rattle.std.proofs.Common.{◌≡◌, ℕ, pos, ℤ, ◌+ℤ◌, ◌-ℤ◌, FitsSigned, w32, w64, ap, ◌∙◌, arith}
use Rattle.std.specs.Int.{int_rem_euclid}
use Rattle.std.proofs.lemmas.Int.{ints, to_z-of_z}
use Rattle.hevc_walk.specs.OrderCounts.{centred_difference, nearest}
use Rattle.hevc_pictures.proofs.order_count.nearest.Goals as goal

nearest_by : (m n : ℕ) (earlier lsb modulus d r sum : ℤ) → modulus ≡ pos m → lsb ≡ pos n
    → d ≡ int_rem_euclid (lsb -ℤ earlier) modulus → r ≡ centred_difference m d → sum ≡ earlier +ℤ r
    → sum ≡ nearest m earlier n
unfolding nearest
nearest_by m n earlier lsb modulus d r sum is_m is_n is_d is_r is_sum =
    is_sum
    ∙ ap (λ (x : ℤ). earlier +ℤ x) is_r
    ∙ ap (λ (x : ℤ). earlier +ℤ centred_difference m x) is_d
    ∙ ap (λ (x : ℤ). earlier +ℤ centred_difference m (int_rem_euclid (x -ℤ earlier) modulus)) is_n
    ∙ ap (λ (x : ℤ). earlier +ℤ centred_difference m (int_rem_euclid (pos n -ℤ earlier) x)) is_m

pub returns-clause-value : goal.returns-clause-value
returns-clause-value c m n is_m is_n =
    let earlier : FitsSigned w32 c.args.earlier = c.ranges.earlier in
    let lsb : FitsSigned w32 c.args.lsb = c.ranges.lsb in
    let modulus : FitsSigned w32 c.args.modulus = c.ranges.modulus in
    let d : FitsSigned w64 c.difference.result = record { sfits = c.difference.type_inv } in
    let is_d = simp to_z-of_z at c.difference.ensures.value in
    let is_r = simp to_z-of_z at (c.centred_difference.ensures.value m (to_z-of_z w32 c.args.modulus modulus ∙ is_m)) in
    nearest_by m n c.args.earlier c.args.lsb c.args.modulus c.difference.result c.centred_difference.result
    _ is_m is_n is_d is_r (omega (arith, ints))
