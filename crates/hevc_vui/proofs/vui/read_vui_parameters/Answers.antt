use Rattle.hevc_elements.proofs.Meaning.{reads_table}
use Rattle.hevc_vui.proofs.vui.read_vui_parameters.Goals as goal

pub returns-else-is_err-clause-rows : goal.returns-else-is_err-clause-rows
returns-else-is_err-clause-rows c =
    let rows = c.read_rows-result.ensures in
    reads_table _ _ _ _ _ rows.reads rows.moves
