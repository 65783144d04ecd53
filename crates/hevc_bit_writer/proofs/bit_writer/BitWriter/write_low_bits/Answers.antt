use Rattle.std.proofs.Common.{◌∙◌, arith}
use Rattle.hevc_bit_writer.proofs.Writes.{one_on, on_err, grew_to}
use Rattle.hevc_bit_writer.proofs.bit_writer.BitWriter.write_low_bits.Goals as goal

pub loop-place-preserved : goal.loop-place-preserved
loop-place-preserved c =
    one_on _ _ _ c.args.count c.args.value c.loop-place.place c.loop-place-test.true
    (omega arith) c.loop-place.invariant c.in_ok-write_flag.ensures.ok

-- the bits from the place on were written
pub returns-in_err-write_flag-clause-err : goal.returns-in_err-write_flag-clause-err
returns-in_err-write_flag-clause-err c =
    on_err c.from_residual.result
    (grew_to _ _ c.args.count c.args.value c.loop-place.place (omega arith) (c.in_err-write_flag.ensures.err
    ∙ c.loop-place.invariant))
