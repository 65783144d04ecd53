use Rattle.hevc_stateless_laws.proofs.Ending.{ended}
use Rattle.hevc_stateless_laws.proofs.ends_the_stream.Goals as goal

pub returns : goal.returns
returns g c t options us old new after ends = ended t options us old new after ends
