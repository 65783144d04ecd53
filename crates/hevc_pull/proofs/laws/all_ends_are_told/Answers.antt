use Rattle.hevc_pull.proofs.Told.{all_told}
use Rattle.hevc_pull.proofs.laws.all_ends_are_told.Goals as goal

pub returns : goal.returns
returns c = all_told
