use Rattle.std.proofs.Common.{◌≡◌, ◌++◌, subst}
use Rattle.std.specs.Prelude.{OnOk, OnErr}
use Rattle.hevc_bit_writer.specs.Writing.{GrewByFirst}
use Rattle.hevc_bit_writer.proofs.Writes.{trailing_written}
use Rattle.hevc_bit_writer.proofs.bit_writer.BitWriter.write_trailing_bits.Goals as goal

pub returns-clause-ok : goal.returns-clause-ok
returns-clause-ok c =
    let w = c.self.inside in
    let bits = trailing_written c.args.self.now w.bytes.items w.filled w.partial c.self.view_is c.self.invariant.0 in
    subst (λ x. OnOk c.write_low_bits.result (c.write_low_bits.new.self ≡ c.args.self.now ++ x)) bits
    c.write_low_bits.ensures.ok

pub returns-clause-err : goal.returns-clause-err
returns-clause-err c =
    let w = c.self.inside in
    let bits = trailing_written c.args.self.now w.bytes.items w.filled w.partial c.self.view_is c.self.invariant.0 in
    subst (λ x. OnErr c.write_low_bits.result (GrewByFirst c.args.self.now c.write_low_bits.new.self x))
    bits c.write_low_bits.ensures.err
