use Rattle.std.proofs.Common.{◌∙◌, sym}
use Rattle.hevc_check_laws.specs.Breaches.{earlier_in}
use Rattle.hevc_check.proofs.Follow.{follows_on, follows_first, with_filled, filled_first, filled_on}
use Rattle.hevc_check.proofs.sequence.Sequence.turn_to.Goals as goal

pub returns-then-begun-clause-follows : goal.returns-then-begun-clause-follows
returns-then-begun-clause-follows c set p before t all =
    let begins = sym t.begins ∙ c.if-begun.true in
    record {
      earlier = follows_first p before c.restart.new.self begins (c.restart.ensures.follows p t.head);
      filled = filled_first set p before c.restart.new.self begins c.restart.ensures.filled;
    }

pub returns-else-begun-clause-follows : goal.returns-else-begun-clause-follows
returns-else-begun-clause-follows c set p before t all =
    let isnt = sym t.begins ∙ c.if-begun.false in
    let q = c.args.self.now in
    record {
      earlier = with_filled p (earlier_in p before) q c.higher_of-self.result
          (follows_on p before q isnt all.latest);
      filled =
          filled_on set p before q (record q { filled = c.higher_of-self.result }) c.args.begun.now isnt t
          c.higher_of-self.ensures.up_to all.filled;
    }
