use Rattle.std.proofs.Common.{◌≡◌, ℕ, ℤ, pos, ◌+ℤ◌, ◌&&◌, to_z, of_z, w32, ap, ◌∙◌, arith}
use Rattle.std.specs.Prelude.{Option}
use Rattle.std.specs.Int.{int_rem_euclid}
use Rattle.std.specs.Ordering.{int_eq}
use Rattle.std.proofs.lemmas.Int.{ints, to_z-of_z}
use Rattle.hevc_walk.specs.Buffer.{Buffer, is_reference}
use Rattle.hevc_walk.specs.ReferenceSets.{first_number, is_congruent}
use Rattle.hevc_pictures.proofs.Powers.{power_most}
use Rattle.hevc_dpb.specs.Views.{buffer_of}
use Rattle.hevc_dpb.proofs.dpb.Dpb.find_ref_by_poc_masked.Goals as goal

modulo_by : (es : Buffer) (found : Option ℕ) (poc wanted m : ℤ) (modulus : ℕ)
    → found ≡ first_number
    (λ e. is_reference e.mark && int_eq (int_rem_euclid e.order_count m) (int_rem_euclid wanted m)) es
    → wanted ≡ poc → m ≡ pos modulus
    → found ≡ first_number (λ e. is_reference e.mark && is_congruent modulus e.order_count poc) es
modulo_by es found poc wanted m modulus is is_poc is_m =
    is
    ∙ ap (λ (x : ℤ). first_number
    (λ e. is_reference e.mark && int_eq (int_rem_euclid e.order_count m) (int_rem_euclid x m)) es) is_poc
    ∙ ap (λ (x : ℤ). first_number
    (λ e. is_reference e.mark && int_eq (int_rem_euclid e.order_count x) (int_rem_euclid poc x)) es) is_m

pub returns : goal.returns
returns g c modulus is =
    let most = power_most c.requires.log2_minus4 c.requires.bound in
    let sum : to_z w32 (of_z w32 (to_z w32 (of_z w32 c.args.mask) +ℤ pos 1)) ≡ c.args.mask +ℤ pos 1 =
    omega (arith, ints, most, c.requires.power) in
    modulo_by (buffer_of c.args.self.now) c.find.result c.args.poc _ _ modulus c.find.ensures
    (to_z-of_z w32 c.args.poc c.ranges.poc) (sum ∙ is)
