use Rattle.std.proofs.Common.{◌≤◌, ◌*◌, arith}
use Rattle.hevc_bits.proofs.WordBits.{none_to_load, reaches}
use Rattle.hevc_bits.specs.Cached.{place_of, ahead}
use Rattle.hevc_bits.proofs.word.Word.load.Goals as goal

pub returns-then-not-has-clause-loads : goal.returns-then-not-has-clause-loads
returns-then-not-has-clause-loads c =
    (none_to_load (place_of c.args.self.now) (c.has.ensures.ends c.if-not-has.true), c.has.ensures.same)

pub overflow_sub-self : goal.overflow_sub-self
overflow_sub-self c =
    let up : c.args.self.now.left ≤ 8 * ahead c.args.self.now = omega (arith, c.if-self-ahead.false, c.ahead.ensures) in
    let r = reaches c.args.self.now c.has.new.self c.has.ensures.filled c.has.ensures.same up
    (c.has.ensures.held c.if-not-has.false) in
    omega (arith, c.ahead-2.ensures, r.some_ahead)

pub returns-clause-filled : goal.returns-clause-filled
returns-clause-filled c =
    let up : c.args.self.now.left ≤ 8 * ahead c.args.self.now = omega (arith, c.if-self-ahead.false, c.ahead.ensures) in
    rw c.ahead-2.ensures (reaches c.args.self.now c.has.new.self c.has.ensures.filled c.has.ensures.same up
    (c.has.ensures.held c.if-not-has.false)).filled

pub returns-clause-loads : goal.returns-clause-loads
returns-clause-loads c =
    let up : c.args.self.now.left ≤ 8 * ahead c.args.self.now = omega (arith, c.if-self-ahead.false, c.ahead.ensures) in
    let r = reaches c.args.self.now c.has.new.self c.has.ensures.filled c.has.ensures.same up
    (c.has.ensures.held c.if-not-has.false) in
    rw c.ahead-2.ensures (r.loads, r.some)
