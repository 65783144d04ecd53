use Rattle.std.proofs.Common.{◌≡◌, ℕ, ℤ, pos, ◌+ℤ◌, ◌-ℤ◌, w32, ◌*◌, ap, ◌∙◌, arith}
use Rattle.std.specs.Int.{int_rem_euclid}
use Rattle.std.proofs.lemmas.Int.{ints, to_z-of_z}
use Rattle.hevc_walk.specs.ReferenceSets.{long_term_count}
use Rattle.hevc_refs.proofs.long_term.whole_count.Goals as goal

whole_by : (order_count : ℤ) (m cycle lsb : ℕ) (sum cycles low : ℤ)
    → sum ≡ order_count -ℤ cycles -ℤ low +ℤ pos lsb → cycles ≡ pos (cycle * m)
    → low ≡ int_rem_euclid order_count (pos m)
    → sum ≡ long_term_count order_count m cycle lsb
whole_by order_count m cycle lsb sum cycles low is is_cycles is_low =
    is
    ∙ ap (λ (x : ℤ). order_count -ℤ x -ℤ low +ℤ pos lsb) is_cycles
    ∙ ap (λ (x : ℤ). order_count -ℤ pos (cycle * m) -ℤ x +ℤ pos lsb) is_low

pub returns : goal.returns
returns c m is =
    let modulus = to_z-of_z w32 c.args.modulus c.ranges.modulus ∙ is in
    let count = to_z-of_z w32 c.args.order_count c.ranges.order_count in
    whole_by c.args.order_count m c.args.cycle c.args.lsb _ c.cycles.result c.low_bits.result
    (omega (arith, ints)) (c.cycles.ensures.value m modulus) (c.low_bits.ensures.value m modulus
    ∙ ap (λ (x : ℤ). int_rem_euclid x (pos m)) count)
