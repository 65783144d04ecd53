use Rattle.std.proofs.Common.{ap, ◌∙◌}
use Rattle.hevc_check_laws.specs.Breaches.{all_breaches, earlier_in}
use Rattle.hevc_check_laws.specs.Checks.{first_breach}
use Rattle.hevc_check.specs.declared.table.Table.{Table}
use Rattle.hevc_check.specs.Filled.{is_up_to}
use Rattle.hevc_check.specs.Tables.{breaks_by}
use Rattle.hevc_check.proofs.sequence.Sequence.take.Goals as goal

pub returns-clause-breach : goal.returns-clause-breach
returns-clause-breach c set p before t all =
    c.first_breach-breach.ensures set p before t (c.turn_to.ensures.follows set p before t all)
    ∙ ap (λ (x : Table). first_breach (breaks_by x set p before) all_breaches) c.turn_to.ensures.table

pub returns-clause-follows : goal.returns-clause-follows
returns-clause-follows c set p before t all =
    let f = c.turn_to.ensures.follows set p before t all in
    record {
      latest = λ next. c.in_ok-add.ensures.follows p next (earlier_in p before) t.head f.earlier;
      filled = λ k fits. ap (is_up_to k) c.in_ok-add.ensures.filled ∙ f.filled k fits;
    }
