-- No picture has the handle of another.
use Rattle.std.proofs.Common.{◌≡◌, ℕ, zero, suc, ◌<◌, [], ◌∷◌, slice_index_or, ap, arith}

pub none_has : (x : ℕ × ℕ) → x.0 ≡ 0 → x.1 ≡ 8 → (k : ℕ) → k < 2 → slice_index_or ((0, 7) ∷ (1, 8) ∷ []) k x ≡ x → ⊥
none_has x first second zero below is = absurd (cc (second, ap (λ (t : ℕ × ℕ). t.1) is))
none_has x first second (suc zero) below is = absurd (cc (first, ap (λ (t : ℕ × ℕ). t.0) is))
none_has x first second (suc (suc k)) below is = absurd (omega (arith, below))
