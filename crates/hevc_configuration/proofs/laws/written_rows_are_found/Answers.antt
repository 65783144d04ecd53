use Rattle.hevc_configuration.proofs.Back.{configuration_back}
use Rattle.hevc_configuration.proofs.laws.written_rows_are_found.Goals as goal

pub returns : goal.returns
returns c = configuration_back
