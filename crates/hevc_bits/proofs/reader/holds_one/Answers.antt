use Rattle.std.proofs.Common.{◌≡◌, ◌^◌, ◌*◌, ◌%◌, ◌<◌, sym, arith, ℕ}
use Rattle.std.proofs.lemmas.Nat.{one_shl}
use Rattle.hevc_bits.proofs.PlaceLemmas.{ones-low_bits}
use Rattle.hevc_bits.proofs.reader.holds_one.Goals as goal

one : (n : ℕ) → n < 64 → 1 * 2 ^ n % 18446744073709551616 ≡ 2 ^ n
one n lt = one_shl n 64 lt

pub returns : goal.returns
returns c = rw (one c.args.count (omega (arith, c.requires))) (sym (ones-low_bits c.args.count c.args.number))
