use Rattle.hevc_index_laws.proofs.Kept.{sets_keep}
use Rattle.hevc_index_laws.proofs.sets_alone_are_kept.Goals as goal

pub returns : goal.returns
returns c = sets_keep
