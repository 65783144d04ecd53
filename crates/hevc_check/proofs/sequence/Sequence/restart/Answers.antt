use Rattle.std.proofs.Common.{refl}
use Rattle.hevc_check.proofs.Follow.{follows_none}
use Rattle.hevc_check.proofs.sequence.Sequence.restart.Goals as goal

pub returns-clause-follows : goal.returns-clause-follows
returns-clause-follows c p same =
    follows_none p _ c.args.head.now same refl refl c.clear.ensures.empty c.clear-2.ensures.items c.clear-3.ensures
