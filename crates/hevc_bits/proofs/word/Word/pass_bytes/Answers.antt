use Rattle.std.proofs.Common.{◌≡◌, ◌-◌, ◌*◌, ◌/◌, ◌^◌, refl, arith}
use Rattle.std.specs.Prelude.{min}
use Rattle.hevc_bits.specs.Cached.{ahead}
use Rattle.hevc_bits.proofs.WordSteps.{holds_none, bytes_on-zero}
use Rattle.hevc_bits.proofs.word.Word.pass_bytes.Goals as goal

pub returns-clause-passes : goal.returns-clause-passes
returns-clause-passes c =
    let none : min 0 (c.unread.result / 8) ≡ 0 = omega arith in
    let unread : c.unread.result - 0 ≡ c.args.self.now.left - 8 * ahead c.args.self.now =
    omega (arith, c.unread.ensures.value) in
    let number : c.reached.result / 1 ≡ c.args.self.now.cache / 2 ^ (8 * ahead c.args.self.now) =
    omega (arith, c.reached.ensures) in
    record {
      loaded = rw (none, unread, number) refl;
      behind = rw (none, bytes_on-zero) refl;
      dropped = rw (none, bytes_on-zero) c.dropped-dropped.ensures.value;
    }

pub returns-clause-filled : goal.returns-clause-filled
returns-clause-filled c = record {
  whole = omega (arith, c.unread.ensures.small);
  fits = omega (arith, c.unread.ensures.small);
  among = omega arith;
  zeros = omega arith;
  part = omega arith;
  short = omega arith;
  few = omega (arith, c.dropped-dropped.ensures.small);
  holds = let none : min 0 (c.unread.result / 8) ≡ 0 =
      omega arith in
      rw (none, bytes_on-zero) (holds_none _ _ _ _ (record { zero_run = refl; behind = refl; dropped = refl }));
}
