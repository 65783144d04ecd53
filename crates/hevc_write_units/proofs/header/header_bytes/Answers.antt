use Rattle.std.proofs.Common.{rules}
use Rattle.hevc_write_units.proofs.header.header_bytes.Goals as goal

pub returns : goal.returns
returns c = search rules
