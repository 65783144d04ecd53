-- Numbers of the highest sub-layer, which hold for all: in video sets and in sequence sets.
use Rattle.std.proofs.Common.{◌≡◌, ℕ, zero, suc, ◌+◌, ◌-◌, List, ◌++◌, get_or, replicate, sym, ap}
use Rattle.std.proofs.Common.{ap₂, ◌∙◌, refl, arith}
use Rattle.hevc_tables.specs.VpsTable.{up_to_highest}

-- the number of the highest sub-layer
at_highest : (m v : ℕ) → get_or (up_to_highest m v) m 0 ≡ v
at_highest m v = rw (← replicate_more m v) (from m)
  where
    replicate_more : (m v : ℕ) → replicate (suc m) v ++ replicate (6 - m) 0 ≡ up_to_highest m v
    replicate_more m v = let e : suc m ≡ m + 1 = omega arith in ap (λ (k : ℕ). replicate k v ++ replicate (6 - m) 0) e

    from : (k : ℕ) → get_or (replicate (suc k) v ++ replicate (6 - m) 0) k 0 ≡ v
    from zero = refl
    from (suc k) = from k

-- it is the one that the list has, where that holds for all up to the highest
pub highest_is : (m v n : ℕ) (numbers : List ℕ) → up_to_highest m v ≡ numbers → m ≡ n → v ≡ get_or numbers n 0
highest_is m v n numbers all is = sym (at_highest m v) ∙ ap₂ (λ (l : List ℕ) (k : ℕ). get_or l k 0) all is
