use Rattle.hevc_stream_laws.proofs.KeptWell.{kept_twice}
use Rattle.hevc_stream_laws.proofs.kept_twice_is_kept_once.Goals as goal

pub returns : goal.returns
returns c = kept_twice
