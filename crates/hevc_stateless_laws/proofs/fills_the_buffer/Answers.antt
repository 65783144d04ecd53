use Rattle.hevc_stateless_laws.proofs.Refusing.{full_first}
use Rattle.hevc_stateless_laws.proofs.fills_the_buffer.Goals as goal

pub returns : goal.returns
returns g c t options us others back u old new after takes = full_first t options us others back u old new after takes
