use Rattle.hevc_parser.proofs.Active.{are_active}
use Rattle.hevc_parser.proofs.parser.Parser.read_slice.Goals as goal

pub returns-clause-sets : goal.returns-clause-sets
returns-clause-sets c = are_active c.args.self.now _ c.read_slice_header.result c.read_slice_header.ensures.sets
