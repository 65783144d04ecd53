use Rattle.hevc_elements.proofs.Meaning.{reads_table}
use Rattle.hevc_slice_header.proofs.prediction.parse_pred_weight_table.Goals as goal

pub returns-clause-rows : goal.returns-clause-rows
returns-clause-rows c = reads_table _ _ _ _ _ c.read_into.ensures.read.reads c.read_into.ensures.read.moves
