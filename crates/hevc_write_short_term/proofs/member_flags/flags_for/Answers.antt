use Rattle.std.proofs.Common.{rules}
use Rattle.hevc_write_short_term.proofs.member_flags.flags_for.Goals as goal

pub returns-in-None : goal.returns-in-None
returns-in-None c = search rules
