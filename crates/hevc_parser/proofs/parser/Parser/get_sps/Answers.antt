use Rattle.std.proofs.Common.{rules}
use Rattle.hevc_parser.proofs.parser.Parser.get_sps.Goals as goal

pub returns-clause-found : goal.returns-clause-found
returns-clause-found c = search rules

pub returns-clause-own_id : goal.returns-clause-own_id
returns-clause-own_id c = search rules
