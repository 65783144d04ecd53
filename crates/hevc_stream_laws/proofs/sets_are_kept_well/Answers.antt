use Rattle.hevc_stream_laws.proofs.KeptWell.{all_well}
use Rattle.hevc_stream_laws.proofs.sets_are_kept_well.Goals as goal

pub returns : goal.returns
returns c = all_well
