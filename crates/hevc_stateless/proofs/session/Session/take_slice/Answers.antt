use Rattle.std.proofs.Common.{ap, arith, inl, rules}
use Rattle.std.proofs.lemmas.Result.{err_from_is_err_and}
use Rattle.hevc_driver.specs.Sound.{with_header}
use Rattle.hevc_stateless.specs.Views.{View}
use Rattle.hevc_stateless.proofs.Passing.{acts_in}
use Rattle.hevc_stateless.proofs.Rooms.{few_came}
use Rattle.hevc_stateless.proofs.session.Session.take_slice.Goals as goal

pub returns-then-matches-clause-few : goal.returns-then-matches-clause-few
returns-then-matches-clause-few g c =
    few_came 1 c.args.self.now c.self.inside.driver.standing
    (with_header c.take_slice-result.new.self.standing.kept c.reserve.new.self.standing)
    c.take_slice-result.new.self.standing
    (ap (λ (v : View g.row.B.Denot g.row.B-Handle.Denot). v.queue) c.self.view_is)
    c.in_ok-reserve.ensures.total c.take_slice-result.ensures.stays.grows (omega arith)

pub returns-else-matches-clause-few : goal.returns-else-matches-clause-few
returns-else-matches-clause-few g c =
    few_came 1 c.args.self.now c.self.inside.driver.standing
    (with_header c.take_slice-result.new.self.standing.kept c.reserve.new.self.standing)
    c.take_slice-result.new.self.standing
    (ap (λ (v : View g.row.B.Denot g.row.B-Handle.Denot). v.queue) c.self.view_is)
    c.in_ok-reserve.ensures.total c.take_slice-result.ensures.stays.grows (omega arith)

pub returns-in_err-reserve-clause-takes : goal.returns-in_err-reserve-clause-takes
returns-in_err-reserve-clause-takes g c =
    let e = err_from_is_err_and c.from_residual.result c.from_residual.ensures.1 in
    rw e.1 (rw e.2 (inl (search rules)))

pub returns-then-matches-clause-takes : goal.returns-then-matches-clause-takes
returns-then-matches-clause-takes g c =
    acts_in _ _ _ _ _ _ _ (record { part = search rules; state = search rules; latest = search rules })

pub returns-else-matches-clause-takes : goal.returns-else-matches-clause-takes
returns-else-matches-clause-takes g c =
    acts_in _ _ _ _ _ _ _ (record { part = search rules; state = search rules; latest = search rules })
