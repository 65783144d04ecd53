-- Sums over a range.
use Rattle.std.proofs.Common.{◌≡◌, ℕ, ◌+◌, arith, map, sum}
use Rattle.std.specs.List.{range_with_len}
use Rattle.std.proofs.lemmas.List.FromFn.{sum_by-map-range_with_len_more}

-- one more of what is summed up
pub sum_more : (f : ℕ → ℕ) (n bits start more : ℕ)
    → bits ≡ start + sum (map f (range_with_len 0 n)) → more ≡ f n
    → bits + more ≡ start + sum (map f (range_with_len 0 (n + 1)))
sum_more f n bits start more so_far is_next =
    omega (arith, sum_by-map-range_with_len_more (λ (x : ℕ). x) f 0 n n (omega arith))
