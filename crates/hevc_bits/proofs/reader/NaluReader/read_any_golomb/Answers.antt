use Rattle.std.proofs.Common.{subst}
use Rattle.hevc_spec.specs.Payload.{Place, IsReached}
use Rattle.hevc_spec.proofs.PlaceLaws.{reached_then}
use Rattle.hevc_bits.proofs.reader.NaluReader.read_any_golomb.Goals as goal

pub returns-clause-place : goal.returns-clause-place
returns-clause-place c = subst (λ (p : Place). IsReached p c.read_behind.new.self) c.fork-ahead.ensures
    (reached_then _ _ _ c.pass_zeros.ensures.place c.read_behind.ensures.place)
