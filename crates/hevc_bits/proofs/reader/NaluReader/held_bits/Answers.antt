use Rattle.std.proofs.Common.{◌≡◌, ◌+◌, ◌*◌, ◌^◌, arith}
use Rattle.hevc_spec.specs.Bits.{bits_at}
use Rattle.hevc_bits.proofs.WordReads.{taken_reads}
use Rattle.hevc_bits.proofs.reader.NaluReader.held_bits.Goals as goal

pub returns : goal.returns
unfolding bits_at
returns c =
    let r = taken_reads c.args.num_bits c.take-value.result c.args.self.now c.self.inside.word
    c.take-value.new.self c.self.view_is c.take-value.ensures.takes in
    let value : 0 * 2 ^ c.args.num_bits + c.take-value.result ≡ c.take-value.result = omega arith in
    (rw value at (r.spells 0), r.ahead, r.reached)
