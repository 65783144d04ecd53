use Rattle.std.proofs.Common.{ℤ, FitsSigned, w32, w64, ap, ◌∙◌, sym, arith}
use Rattle.std.proofs.lemmas.Int.{ints, to_z-of_z}
use Rattle.hevc_walk.specs.OrderCounts.{nearest, count_behind}
use Rattle.hevc_pictures.proofs.order_count.count_behind.Goals as goal

pub returns-in-Some-clause-value : goal.returns-in-Some-clause-value
returns-in-Some-clause-value c m n is_m is_n =
    let lsb : FitsSigned w32 c.args.lsb = c.ranges.lsb in
    let modulus : FitsSigned w32 c.args.modulus = c.ranges.modulus in
    let r : FitsSigned w64 c.nearest.result = record { sfits = c.nearest.type_inv } in
    to_z-of_z w64 c.nearest.result r
    ∙ c.nearest.ensures.value m n (to_z-of_z w32 c.args.modulus modulus ∙ is_m) (to_z-of_z w32 c.args.lsb lsb ∙ is_n)
    ∙ ap (λ (x : ℤ). nearest m x n) (omega (arith, ints)) ∙ ap (λ x. count_behind m x n) (sym c.in-Some.is)
