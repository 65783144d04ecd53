use Rattle.std.proofs.Common.{◌≡◌, ℕ, suc, ◌+◌, ◌-◌, ◌*◌, ◌/◌, ◌%◌, ◌^◌, ◌<◌, ◌≤◌, arith, subst}
use Rattle.hevc_spec.proofs.LowBits.{golomb_value}
use Rattle.hevc_bits.specs.declared.word.Word.{Word}
use Rattle.hevc_bits.specs.Cached.{IsFilled, Takes, TakesGolomb}
use Rattle.hevc_bits.proofs.WordBits.{taken_golomb}
use Rattle.hevc_bits.proofs.word.Word.take_golomb.Goals as goal

-- what the count of zeros tells of the number
record IsNumber (zeros value : ℕ) (w new : Word) : Type 0 where
  pub least : 1 ≤ value
  pub most : value < 2 ^ 31
  pub takes : TakesGolomb (value - 1) w new

is_number : (zeros value : ℕ) (w new : Word) → IsFilled w → zeros ≤ 30 → 2 * zeros + 1 ≤ w.left
    → (zeros < w.left → 2 ^ (w.left - 1 - zeros) ≤ w.cache % 2 ^ w.left)
    → (zeros < w.left → w.cache % 2 ^ w.left < 2 ^ (w.left - zeros))
    → Takes (2 * zeros + 1) value w new
    → value ≡ (w.cache / 2 ^ (w.left - (2 * zeros + 1))) % 2 ^ (2 * zeros + 1) → IsNumber zeros value w new
is_number zeros value w new f few held least most t is =
    let behind = w.left - (2 * zeros + 1) in
    let long : w.left ≡ (2 * zeros + 1) + behind = omega arith in
    let a : w.left - 1 - zeros ≡ zeros + behind = omega arith in
    let b : w.left - zeros ≡ suc (zeros + behind) = omega arith in
    let big : 2 ^ (zeros + behind) ≤ w.cache % 2 ^ w.left =
    subst (λ (x : ℕ). 2 ^ x ≤ w.cache % 2 ^ w.left) a (least (omega arith)) in
    let small : w.cache % 2 ^ w.left < 2 ^ suc (zeros + behind) =
    subst (λ (x : ℕ). w.cache % 2 ^ w.left < 2 ^ x) b (most (omega arith)) in
    let v = golomb_value zeros behind w.left w.cache long big small few in
    record {
      least = omega (arith, v.0, is);
      most = omega (arith, v.1, is);
      takes = taken_golomb zeros behind value w new f long big small few t is;
    }

pub overflow_sub-result : goal.overflow_sub-result
overflow_sub-result c =
    (is_number c.zeros-zeros.result c.take.result c.args.self.now c.take.new.self c.requires
    c.if-zeros-gt30.false c.if-zeros-self.false c.zeros-zeros.ensures.least c.zeros-zeros.ensures.most
    c.take.ensures.takes c.take.ensures.number).least

pub overflow_cast-result : goal.overflow_cast-result
overflow_cast-result c =
    let k = is_number c.zeros-zeros.result c.take.result c.args.self.now c.take.new.self c.requires
    c.if-zeros-gt30.false c.if-zeros-self.false c.zeros-zeros.ensures.least c.zeros-zeros.ensures.most
    c.take.ensures.takes c.take.ensures.number in
    omega (arith, k.most)

pub returns : goal.returns
returns c = (is_number c.zeros-zeros.result c.take.result c.args.self.now c.take.new.self c.requires
    c.if-zeros-gt30.false c.if-zeros-self.false c.zeros-zeros.ensures.least c.zeros-zeros.ensures.most
    c.take.ensures.takes c.take.ensures.number).takes
