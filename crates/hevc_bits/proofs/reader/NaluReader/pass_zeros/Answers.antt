use Rattle.std.proofs.Common.{◌∷◌, ap, ◌∙◌, refl, Bool, arith}
use Rattle.hevc_spec.specs.Payload.{bits}
use Rattle.hevc_spec.proofs.PlaceLaws.{ahead_then, reached_then}
use Rattle.hevc_bits.proofs.Steps.{golomb_too_many, golomb_more}
use Rattle.hevc_bits.proofs.reader.NaluReader.pass_zeros.Goals as goal

pub returns-then-zeros-eq31-clause-read : goal.returns-then-zeros-eq31-clause-read
returns-then-zeros-eq31-clause-read c =
    let rest = bits c.read_bit.new.self in
    let zero = c.in_ok-read_bit.ensures.read ∙ ap (λ (b : Bool). b ∷ rest) c.if-not-branch.true in (
      golomb_too_many c.loop-zeros.zeros (bits c.loop-zeros.ahead) rest _ zero c.if-zeros-eq31.true
          c.loop-zeros.invariant.same,
      refl,
    )

pub loop-zeros-preserved : goal.loop-zeros-preserved
loop-zeros-preserved c =
    let i = c.loop-zeros.invariant in
    let rest = bits c.read_bit.new.self in
    let zero = c.in_ok-read_bit.ensures.read ∙ ap (λ (b : Bool). b ∷ rest) c.if-not-branch.true in
    record {
      few = omega (arith, i.few, c.if-zeros-eq31.false);
      ahead = ahead_then _ _ _ i.ahead c.read_bit.ensures.moves;
      reached = reached_then _ _ _ i.reached c.read_bit.ensures.place;
      same = golomb_more c.loop-zeros.zeros (bits c.loop-zeros.ahead) rest _ zero i.same;
    }

pub returns-clause-place : goal.returns-clause-place
returns-clause-place c = reached_then _ _ _ c.loop-zeros.invariant.reached c.read_bit.ensures.place
