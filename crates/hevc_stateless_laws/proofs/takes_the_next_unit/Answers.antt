use Rattle.hevc_stateless_laws.proofs.Standing.{took_first}
use Rattle.hevc_stateless_laws.proofs.takes_the_next_unit.Goals as goal

pub returns : goal.returns
returns g c t options us others u old new place after takes = took_first t options us others u old new place after takes
