use Rattle.std.proofs.Common.{◌≤◌, ◌+◌, length, arith, subst, ◌∙◌, ap, sym, Bool, if◌then◌else◌}
use Rattle.hevc_walk_units.specs.Units.{Standing}
use Rattle.hevc_driver.specs.Moments.{forgotten}
use Rattle.hevc_driver.specs.Standings.{standing, traces_in}
use Rattle.hevc_stateless.specs.Views.{View, traces_at}
use Rattle.hevc_driver.specs.Does.{Traces}
use Rattle.hevc_driver.proofs.Doing.{no_given}
use Rattle.hevc_stateless.proofs.Rooms.{few_came}
use Rattle.hevc_stateless.proofs.Flushing.{idle, closed_none, flush_refused, flush_done}
use Rattle.hevc_stateless.proofs.session.Session.flush.Goals as goal
use Rattle.hevc_stateless.proofs.session.Session.flush.Goals.{then-awaited, else-awaited}

pub invariant_of-self-in_err-close : goal.invariant_of-self-in_err-close
invariant_of-self-in_err-close g c = (
  c.close.ensures.stays.sound,
  idle _ _ (closed_none (Unit {0}) _ no_given _ _ _ _ (c.in_err-close.ensures.part no_given)),
)

pub returns-in_err-close-clause-flushes : goal.returns-in_err-close-clause-flushes
returns-in_err-close-clause-flushes g c t =
    flush_refused _ _ t _ _ _ _ _ _ _ c.from_residual-in_err-close.ensures.1
    (c.in_ok-reserve.ensures.traces
    ∙ ap (λ (v : View g.row.B.Denot g.row.B-Handle.Denot). traces_at g.B.StatelessH265DecoderBackend.log
    g.B.StatelessH265DecoderBackend.handed g.B.StatelessH265DecoderBackend.frames v) c.self.view_is)
    (c.in_ok-reserve.ensures.standing ∙ ap (λ (v : View g.row.B.Denot g.row.B-Handle.Denot). v.standing) c.self.view_is)
    (c.in_err-close.ensures.part t)

pub forget_format-requires-clause-none : goal.forget_format-requires-clause-none
forget_format-requires-clause-none g c = ap (λ (s : Standing). s.current) (c.in_ok-close.ensures.part no_given).1.next

pub returns-clause-flushes : goal.returns-clause-flushes
returns-clause-flushes g c t =
    flush_done (Unit {0}) _ t _ _ _ _ _ _ _ _ _
    (c.in_ok-reserve.ensures.traces
    ∙ ap (λ (v : View g.row.B.Denot g.row.B-Handle.Denot). traces_at g.B.StatelessH265DecoderBackend.log
    g.B.StatelessH265DecoderBackend.handed g.B.StatelessH265DecoderBackend.frames v) c.self.view_is)
    (c.in_ok-reserve.ensures.standing ∙ ap (λ (v : View g.row.B.Denot g.row.B-Handle.Denot). v.standing) c.self.view_is)
    (c.in_ok-close.ensures.part t)
    (elim c.if-awaited.branch [
      | then-awaited w ↦ ap
          (λ d. traces_in g.B.StatelessH265DecoderBackend.log g.B.StatelessH265DecoderBackend.handed
          g.B.StatelessH265DecoderBackend.frames d.driver) w.self-inside-is ∙ w.forget_format.ensures.traces
      | else-awaited w ↦ ap
          (λ d. traces_in g.B.StatelessH265DecoderBackend.log g.B.StatelessH265DecoderBackend.handed
          g.B.StatelessH265DecoderBackend.frames d.driver) w.self-inside-is
    ])
    (elim c.if-awaited.branch [
      | then-awaited w ↦ ap (λ d. standing d.driver.standing) w.self-inside-is
          ∙ w.forget_format.ensures.standing
          ∙ ap (λ (b : Bool). if b then forgotten (standing c.close.new.self.standing) else standing
          c.close.new.self.standing) (sym w.if-awaited.true ∙ c.awaiting_format-awaited.ensures)
      | else-awaited w ↦ ap (λ d. standing d.driver.standing) w.self-inside-is
          ∙ ap (λ (b : Bool). if b then forgotten (standing c.close.new.self.standing) else standing
          c.close.new.self.standing) (sym w.if-awaited.false ∙ c.awaiting_format-awaited.ensures)
    ])

pub returns-in_err-close-clause-few : goal.returns-in_err-close-clause-few
returns-in_err-close-clause-few g c =
    few_came 1 c.args.self.now c.self.inside.driver.standing c.reserve.new.self.standing
    c.close.new.self.standing (ap (λ (v : View g.row.B.Denot g.row.B-Handle.Denot). v.queue) c.self.view_is)
    c.in_ok-reserve.ensures.total c.in_err-close.ensures.stays.grows (omega arith)

pub returns-clause-few : goal.returns-clause-few
returns-clause-few g c =
    let came = few_came 1 c.args.self.now c.self.inside.driver.standing c.reserve.new.self.standing
    c.close.new.self.standing (ap (λ (v : View g.row.B.Denot g.row.B-Handle.Denot). v.queue) c.self.view_is)
    c.in_ok-reserve.ensures.total c.in_ok-close.ensures.stays.grows (omega arith) in
    elim c.if-awaited.branch [
      | then-awaited w ↦ subst
          (λ (t : Traces g.row.B-Handle.Denot). length t.queue ≤ length c.args.self.now.queue + 17)
          (sym (ap (λ d. traces_in g.B.StatelessH265DecoderBackend.log
          g.B.StatelessH265DecoderBackend.handed g.B.StatelessH265DecoderBackend.frames d.driver)
          w.self-inside-is ∙ w.forget_format.ensures.traces)) came
      | else-awaited w ↦ subst
          (λ (t : Traces g.row.B-Handle.Denot). length t.queue ≤ length c.args.self.now.queue + 17)
          (sym (ap (λ d. traces_in g.B.StatelessH265DecoderBackend.log
          g.B.StatelessH265DecoderBackend.handed g.B.StatelessH265DecoderBackend.frames d.driver)
          w.self-inside-is)) came
    ]
