use Rattle.std.proofs.Common.{◌≡◌, ℕ, ◌*◌, ◌%◌, ◌^◌, ◌≤◌, arith}
use Rattle.std.proofs.Math.Pow.{pow_mono}
use Rattle.std.proofs.lemmas.Nat.{mul-le}
use Rattle.hevc_bits.proofs.WordReads.{reads, refuses}
use Rattle.hevc_bits.proofs.reader.NaluReader.read_behind.Goals as goal

pub returns-then-not-has-clause-read : goal.returns-then-not-has-clause-read
returns-then-not-has-clause-read c =
    refuses c.args.num_bits c.args.front c.args.self.now c.self.inside.word c.has.new.self c.self.view_is
    c.if-not-has.ensures

-- a prefix of at most one bit is not cut off
whole : (front num : ℕ) → front ≤ 1 → num ≤ 31 → front * 2 ^ num % 4294967296 ≡ front * 2 ^ num
whole front num small few =
    let most : 2 ^ num ≤ 2 ^ 31 = pow_mono {i = num} {j = 31} few in
    let product : front * 2 ^ num ≤ 1 * 2 ^ 31 = mul-le front (2 ^ num) 1 (2 ^ 31) small most in
    omega arith

pub returns-clause-read : goal.returns-clause-read
returns-clause-read c =
    let r = reads c.args.num_bits c.take.result c.has.result c.args.self.now c.self.inside.word
    c.has.new.self c.take.new.self c.self.view_is c.has.ensures c.take.ensures.takes in
    rw (whole c.args.front c.args.num_bits c.requires.front c.requires.fits) (r.spells c.args.front)

pub returns-clause-moves : goal.returns-clause-moves
returns-clause-moves c =
    (reads c.args.num_bits c.take.result c.has.result c.args.self.now c.self.inside.word c.has.new.self
    c.take.new.self c.self.view_is c.has.ensures c.take.ensures.takes).ahead

pub returns-clause-place : goal.returns-clause-place
returns-clause-place c =
    (reads c.args.num_bits c.take.result c.has.result c.args.self.now c.self.inside.word c.has.new.self
    c.take.new.self c.self.view_is c.has.ensures c.take.ensures.takes).reached
