use Rattle.hevc_spec.specs.Payload.{bits}
use Rattle.hevc_spec.proofs.LowBits.{one_found}
use Rattle.hevc_bits.proofs.WordReads.{reads}
use Rattle.hevc_bits.specs.Cached.{place_of}
use Rattle.hevc_bits.proofs.reader.NaluReader.read_bit.Goals as goal

pub returns-clause-read : goal.returns-clause-read
returns-clause-read c =
    let r = reads 1 c.take.result c.has.result c.args.self.now c.self.inside.word c.has.new.self
    c.take.new.self c.self.view_is c.has.ensures c.take.ensures.takes in
    one_found c.take.result (bits c.args.self.now) (bits (place_of c.take.new.self)) (r.spells 0)

pub returns-clause-moves : goal.returns-clause-moves
returns-clause-moves c =
    (reads 1 c.take.result c.has.result c.args.self.now c.self.inside.word c.has.new.self c.take.new.self
    c.self.view_is c.has.ensures c.take.ensures.takes).ahead

pub returns-clause-place : goal.returns-clause-place
returns-clause-place c =
    (reads 1 c.take.result c.has.result c.args.self.now c.self.inside.word c.has.new.self c.take.new.self
    c.self.view_is c.has.ensures c.take.ensures.takes).reached
