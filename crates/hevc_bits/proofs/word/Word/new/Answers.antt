use Rattle.std.proofs.Common.{refl, arith}
use Rattle.hevc_bits.proofs.WordSteps.{holds_none, bytes_on-zero}
use Rattle.hevc_bits.proofs.word.Word.new.Goals as goal

pub returns-clause-place : goal.returns-clause-place
returns-clause-place c = rw bytes_on-zero refl

pub returns-clause-filled : goal.returns-clause-filled
returns-clause-filled c = record {
  whole = omega arith;
  fits = omega arith;
  among = omega arith;
  zeros = omega arith;
  part = omega arith;
  short = c.requires;
  few = omega (arith, c.requires);
  holds = rw bytes_on-zero (holds_none 0 0 _ _ (record { zero_run = refl; behind = refl; dropped = refl }));
}
