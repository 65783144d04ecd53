use Rattle.std.proofs.Common.{◌<◌, ℕ, get_or, arith}
use Rattle.hevc_bit_writer.proofs.Packing.{whole_bytes}
use Rattle.hevc_bit_writer.proofs.bit_writer.BitWriter.as_bytes.Goals as goal

pub returns : goal.returns
returns c =
    let w = c.self.inside in
    let small : (k : ℕ) → get_or c.as_slice-bytes.result.now k 0 < 256 =
    λ k. omega (arith, c.as_slice-bytes.items_fit k) in
    whole_bytes c.args.self.now c.as_slice-bytes.result.now w.bytes.items w.filled w.partial
    c.as_slice-bytes.ensures.value small c.self.view_is c.self.invariant.0 c.requires
