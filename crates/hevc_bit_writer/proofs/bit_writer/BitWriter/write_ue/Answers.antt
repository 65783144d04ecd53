use Rattle.std.proofs.Common.{◌^◌, ◌<◌, arith}
use Rattle.hevc_bit_writer.proofs.Spellings.{exponent_below, leading_zero_bits-is}
use Rattle.hevc_bit_writer.proofs.bit_writer.BitWriter.write_ue.Goals as goal

pub write_low_bits-requires : goal.write_low_bits-requires
write_low_bits-requires c =
    let few : 2 ^ c.ilog2.result < 2 ^ 32 = omega (arith, c.ilog2.ensures.power_le, c.requires) in
    omega (arith, exponent_below c.ilog2.result 31 few)

pub returns-clause-ok : goal.returns-clause-ok
returns-clause-ok c = let zeros =
    leading_zero_bits-is c.args.value c.ilog2.result c.requires c.ilog2.ensures.power_le
    c.ilog2.ensures.next_power_gt in rw zeros c.write_low_bits.ensures.ok

pub returns-clause-err : goal.returns-clause-err
returns-clause-err c = let zeros =
    leading_zero_bits-is c.args.value c.ilog2.result c.requires c.ilog2.ensures.power_le
    c.ilog2.ensures.next_power_gt in rw zeros c.write_low_bits.ensures.err
