-- A stream may be cut before a start code: what its parts mean, one after the other, is what it means.
use Rattle.std.proofs.Common.{◌≡◌, ℕ, ◌+◌, Bool, true, false, List, [], ◌∷◌, drop, refl, ap}
use Rattle.hevc_spec.specs.Units.{begins_with_start_code, before_start_code, without_trailing_zeros}
use Rattle.hevc_spec.specs.Units.{units_at, kept_bytes}
use Rattle.hevc_stream.specs.Options.{Options}
use Rattle.hevc_stream.specs.Kept.{Kept}
use Rattle.hevc_stream.specs.Stream.{kept_behind, meaning, meanings_behind}

-- units mean the same wherever they are
moved_by_test : (o : Options) (p q : ℕ) (x : ℕ) (xs : List ℕ) (t : Bool)
    → begins_with_start_code (x ∷ xs) ≡ t
    → ((k : Kept)
    → meanings_behind o k (units_at kept_bytes (p + 1) xs) ≡ meanings_behind o k (units_at kept_bytes (q + 1) xs))
    → (k : Kept)
    → meanings_behind o k (units_at kept_bytes p (x ∷ xs)) ≡ meanings_behind o k (units_at kept_bytes q (x ∷ xs))
moved_by_test o p q x xs true t more k =
    let bytes = kept_bytes (without_trailing_zeros (before_start_code (drop 2 xs))) in
    rw t (ap (λ ms. meaning o k bytes ∷ ms) (more (kept_behind o k bytes)))
moved_by_test o p q x xs false t more k = rw t (more k)

pub units_moved : (o : Options) (p q : ℕ) (xs : List ℕ) (k : Kept)
    → meanings_behind o k (units_at kept_bytes p xs) ≡ meanings_behind o k (units_at kept_bytes q xs)
units_moved o p q [] k = refl
units_moved o p q (x ∷ xs) k =
    moved_by_test o p q x xs (begins_with_start_code (x ∷ xs)) refl (units_moved o (p + 1) (q + 1) xs) k
