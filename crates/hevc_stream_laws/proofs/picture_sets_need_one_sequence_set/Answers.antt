use Rattle.hevc_stream_laws.proofs.KeptWell.{same_picture_set}
use Rattle.hevc_stream_laws.proofs.picture_sets_need_one_sequence_set.Goals as goal

pub returns : goal.returns
returns c = same_picture_set
