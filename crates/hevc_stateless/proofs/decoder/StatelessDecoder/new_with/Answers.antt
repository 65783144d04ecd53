use Rattle.std.proofs.Common.{rules}
use Rattle.hevc_stateless.proofs.decoder.StatelessDecoder.new_with.Goals as goal

pub returns-clause-options : goal.returns-clause-options
returns-clause-options g c = search rules
