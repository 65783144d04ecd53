use Rattle.std.proofs.Common.{◌≡◌, ℕ, ◌+◌, ◌*◌, ◌/◌, ◌%◌, ◌≤◌, take, arith}
use Rattle.std.proofs.lemmas.Result.{err_from_is_err_and}
use Rattle.hevc_spec.specs.Payload.{bits}
use Rattle.hevc_spec.specs.Bits.{number}
use Rattle.hevc_spec.proofs.PlaceLaws.{ahead_then, reached_then}
use Rattle.hevc_bits.proofs.Steps.{skip_more, skip_all, skip_refused, passed_front}
use Rattle.hevc_bits.proofs.reader.NaluReader.skip_bits.Goals as goal

pub loop-preserved : goal.loop-preserved
loop-preserved c =
    let i = c.loop.invariant in
    let r = c.in_ok-read_bits-2.ensures in
    let found = r.read (omega arith) in
    let next = skip_more (31 * c.loop.counter) 31 (bits c.args.self.now)
    (bits c.loop.ahead) c.in_ok-read_bits-2.field-0 (bits c.read_bits-in-loop.new.self) i.enough i.same found in
    let e : 31 * (c.loop.counter + 1) ≡ 31 * c.loop.counter + 31 = omega arith in
    rw e (record {
      enough = next.0;
      ahead = ahead_then _ _ _ i.ahead r.moves;
      reached = reached_then _ _ _ i.reached r.place;
      same = next.1;
    })

pub returns-in_err-read_bits-2-clause-read : goal.returns-in_err-read_bits-2-clause-read
returns-in_err-read_bits-2-clause-read c =
    let p = err_from_is_err_and c.from_residual-in_err-read_bits-2.result
    c.from_residual-in_err-read_bits-2.ensures.1 in
    rw (p.1, p.2)
    (skip_refused {X = Unit {0}}
    (λ _. number (take c.args.num_bits (bits c.args.self.now))) c.in_err-read_bits-2.field-0.0
    c.args.num_bits 31 (31 * c.loop.counter)
    (bits c.args.self.now) c.loop.ahead c.read_bits-in-loop.new.self c.args.self.now c.loop.invariant.same
    (omega (arith, c.loop-test.true))
    (c.in_err-read_bits-2.ensures.read (omega arith)))

-- as many times 31 bits as there are were passed, and the rest of the bits are after
whole : (n i : ℕ) → n / 31 ≤ i → i ≤ n / 31 → 31 * i + n % 31 ≡ n
whole n i low high = omega arith

pub returns-in_err-read_bits-3-clause-read : goal.returns-in_err-read_bits-3-clause-read
returns-in_err-read_bits-3-clause-read c =
    let n = c.args.num_bits in
    let all : 31 * c.loop.counter + n % 31 ≡ n = whole n c.loop.counter c.loop-test.false c.loop.auto.counter-end in
    let p = err_from_is_err_and c.from_residual-in_err-read_bits-3.result
    c.from_residual-in_err-read_bits-3.ensures.1 in
    rw (p.1, p.2)
    (skip_refused {X = Unit {0}}
    (λ _. number (take c.args.num_bits (bits c.args.self.now))) c.in_err-read_bits-3.field-0.0 n (n % 31)
    (31 * c.loop.counter) (bits c.args.self.now) c.loop.ahead c.read_bits-2.new.self c.args.self.now
    c.loop.invariant.same (omega arith)
    (c.in_err-read_bits-3.ensures.read (omega arith)))

pub returns-clause-read : goal.returns-clause-read
returns-clause-read c =
    let i = c.loop.invariant in
    let n = c.args.num_bits in
    let all : 31 * c.loop.counter + n % 31 ≡ n = whole n c.loop.counter c.loop-test.false c.loop.auto.counter-end in
    let next = skip_more (31 * c.loop.counter) (n % 31) (bits c.args.self.now)
    (bits c.loop.ahead) c.in_ok-read_bits-3.field-0 (bits c.read_bits-2.new.self) i.enough i.same
    (c.in_ok-read_bits-3.ensures.read (omega arith)) in
    skip_all n (bits c.args.self.now) (bits c.read_bits-2.new.self) (rw all at next.0) (rw all at next.1)

pub returns-clause-place : goal.returns-clause-place
returns-clause-place c = reached_then _ _ _ c.loop.invariant.reached c.in_ok-read_bits-3.ensures.place

pub returns-clause-in_order : goal.returns-clause-in_order
returns-clause-in_order c =
    let i = c.loop.invariant in
    let n = c.args.num_bits in
    let all : 31 * c.loop.counter + n % 31 ≡ n = whole n c.loop.counter c.loop-test.false c.loop.auto.counter-end in
    let next = skip_more (31 * c.loop.counter) (n % 31) (bits c.args.self.now)
    (bits c.loop.ahead) c.in_ok-read_bits-3.field-0 (bits c.read_bits-2.new.self) i.enough i.same
    (c.in_ok-read_bits-3.ensures.read (omega arith)) in
    passed_front n (bits c.args.self.now) (bits c.read_bits-2.new.self) (rw all at next.0) (rw all at next.1)
