use Rattle.std.proofs.Common.{ap, ◌∙◌}
use Rattle.hevc_spec.specs.Payload.{bits}
use Rattle.hevc_bits.proofs.PlaceLemmas.{bits-first_place}
use Rattle.hevc_bits.proofs.reader.NaluReader.new.Goals as goal

pub returns-clause-payload : goal.returns-clause-payload
returns-clause-payload c = ap bits c.new.ensures.place ∙ bits-first_place c.args.bytes.now
