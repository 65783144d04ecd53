use Rattle.std.proofs.Common.{◌≡◌, ◌≢◌, ℕ, ◌*◌, ◌%◌, ◌^◌, ◌<◌, ◌==◌, Bool, true, false, refl, ap, arith}
use Rattle.std.specs.Prelude.{◌||◌}
use Rattle.std.specs.Int.{w16}
use Rattle.std.specs.Int.Bits.{bit_or}
use Rattle.std.proofs.lemmas.Bool.Decides.{nat_tests}
use Rattle.std.proofs.lemmas.Nat.Bits.{bit_at_set_same, bit_at_set_other}
use Rattle.hevc_kept_sets.specs.Settled.{has_id}
use Rattle.hevc_kept_sets.proofs.set_ids.with_id.Goals as goal

marks : (ids id k : ℕ) → id < 16 → has_id (bit_or ids (1 * 2 ^ id % 65536)) k ≡ (k == id || has_id ids k)
marks ids id k below = by_test (k == id) refl
  where
    by_test : (b : Bool) → (k == id) ≡ b → has_id (bit_or ids (1 * 2 ^ id % 65536)) k ≡ (b || has_id ids k)
    by_test true t =
        let same : k ≡ id = grind (arith, nat_tests) in
        rw (same, bit_at_set_same w16 ids id below) refl
    by_test false t =
        let other : k ≢ id = grind (arith, nat_tests) in
        ap (λ (n : ℕ). n == 1) (bit_at_set_other w16 ids id below k other)

pub returns : goal.returns
returns c k = marks c.args.ids c.args.id k c.requires
