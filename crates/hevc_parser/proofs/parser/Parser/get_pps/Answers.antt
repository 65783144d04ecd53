use Rattle.std.proofs.Common.{rules}
use Rattle.hevc_parser.proofs.parser.Parser.get_pps.Goals as goal

pub returns-clause-found : goal.returns-clause-found
returns-clause-found c = search rules
