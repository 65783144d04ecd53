use Rattle.std.proofs.Common.{arith}
use Rattle.hevc_bit_writer.proofs.Writes.{left_over}
use Rattle.hevc_bit_writer.proofs.bit_writer.BitWriter.is_whole.Goals as goal

pub returns : goal.returns
returns c =
    let w = c.self.inside in
    let left = left_over c.args.self.now w.bytes.items w.filled w.partial c.self.view_is c.self.invariant.0 in
    (λ none. grind (arith, left, none), λ whole. grind (arith, left, whole))
