-- Mathematical functions of the standard (5.8).
use Rattle.std.specs.Prelude.{ℕ, ◌^◌, nat_lt}
use Rattle.std.specs.List.{count_by, range_with_len}

-- Ceil( Log2( n ) ) (5.8), of a number of 32 bits: how many powers of two lie below it
unfoldable pub ceil_log2 : ℕ → ℕ
ceil_log2 n = count_by (λ k. nat_lt (2 ^ k) n) (range_with_len 0 32)
