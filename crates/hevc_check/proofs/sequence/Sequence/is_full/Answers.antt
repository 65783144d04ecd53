use Rattle.std.proofs.Common.{◌∙◌}
use Rattle.hevc_check.proofs.Follow.{full_bounds}
use Rattle.hevc_check.proofs.sequence.Sequence.is_full.Goals as goal

pub returns-in-Bounds : goal.returns-in-Bounds
returns-in-Bounds c set p before t f =
    c.is_full.ensures ∙ full_bounds c.args.self.now.table set p before c.args.begun.now c.in-Bounds.is t
