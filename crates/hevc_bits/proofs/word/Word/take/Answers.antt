use Rattle.std.proofs.Common.{◌≡◌, ℕ, ◌*◌, ◌%◌, ◌^◌, ◌<◌, refl, arith}
use Rattle.std.proofs.lemmas.Nat.{one_shl, mod_below, pow_pos}
use Rattle.hevc_bits.proofs.WordBits.{taken}
use Rattle.hevc_bits.proofs.word.Word.take.Goals as goal

one : (n : ℕ) → n < 64 → 1 * 2 ^ n % 18446744073709551616 ≡ 2 ^ n
one n lt = one_shl n 64 lt

pub returns-clause-takes : goal.returns-clause-takes
returns-clause-takes c =
    let w = c.args.self.now in
    let n = c.args.num_bits in
    rw (one n (omega (arith, c.requires.held, c.requires.filled.fits))) (taken n w c.requires.filled c.requires.held)

pub returns-clause-number : goal.returns-clause-number
returns-clause-number c = rw (one c.args.num_bits (omega (arith, c.requires.held, c.requires.filled.fits))) refl

pub returns-clause-bound : goal.returns-clause-bound
returns-clause-bound c = rw (one c.args.num_bits (omega (arith, c.requires.held, c.requires.filled.fits)))
    (mod_below _ (2 ^ c.args.num_bits) (pow_pos c.args.num_bits))
