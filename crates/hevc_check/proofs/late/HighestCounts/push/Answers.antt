use Rattle.std.proofs.Common.{◌||◌, ap, ◌∙◌}
use Rattle.hevc_check.specs.Filled.{is_below}
use Rattle.hevc_check.proofs.Lateness.{pushed-late}
use Rattle.hevc_check.proofs.late.HighestCounts.push.Goals as goal

pub returns : goal.returns
returns c p es decoded own so_far =
    pushed-late p es c.args.count c.higher_of-highest.result c.args.self.now.counts.items c.push.new.self.items decoded
    own (λ k. c.higher_of-highest.ensures.below k
    ∙ ap (λ t. is_below k c.args.count || is_below k t) c.before-2.ensures) c.in_ok-push.ensures.items so_far
