use Rattle.hevc_stream.specs.Kept.{none_kept}
use Rattle.hevc_index_laws.proofs.Kept.{same_meanings}
use Rattle.hevc_index_laws.proofs.Taken.{sets_mean}
use Rattle.hevc_index_laws.proofs.spliced_meanings.Goals as goal

pub returns-clause-same : goal.returns-clause-same
returns-clause-same c options us v = same_meanings options none_kept us v

pub returns-clause-of_sets : goal.returns-clause-of_sets
returns-clause-of_sets c options us v = sets_mean options none_kept us v
