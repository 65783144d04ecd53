use Rattle.std.proofs.Common.{rules}
use Rattle.hevc_parser.proofs.parser.Parser.new_slice.Goals as goal

pub returns-clause-header : goal.returns-clause-header
returns-clause-header c = search rules
