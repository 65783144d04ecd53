use Rattle.std.proofs.Common.{refl, ap, sym, subst, arith, rules, Some}
use Rattle.hevc_sequence_set.specs.Sps.{plain_sps}
use Rattle.hevc_walk_inputs.specs.Sequences.{format_of_set}
use Rattle.hevc_walk_units.specs.Units.{Standing}
use Rattle.hevc_stateless.specs.Views.{View, IsIdleBefore, traces_at}
use Rattle.hevc_driver.proofs.Doing.{no_given}
use Rattle.hevc_stateless.proofs.Rooms.{few_came}
use Rattle.hevc_stateless.proofs.Starting.{opens_first, first_refused, refused_stays, refused_left}
use Rattle.hevc_stateless.proofs.session.Session.open_sequence.Goals as goal

pub invariant_of-self : goal.invariant_of-self
invariant_of-self g c = let any = record no_given { set = Some (plain_sps c.args.sps.now) } in (
  c.open_sequence.ensures.stays.sound,
  subst (λ (s : Standing). IsIdleBefore c.self.inside.state s.current)
      (sym (refused_left _ any _ _ _ _ _ (c.in_err-open_sequence.ensures.part any refl))) c.self.invariant.1,
)

pub returns-in_err-open_sequence-clause-acts : goal.returns-in_err-open_sequence-clause-acts
returns-in_err-open_sequence-clause-acts g c t own is = let any =
    record no_given { set = Some (plain_sps c.args.sps.now) } in record {
      part = first_refused _ _ t _ _ _ (format_of_set (plain_sps c.args.sps.now)) _ _ _ c.from_residual.ensures.1
          (ap (λ (v : View g.row.B.Denot g.row.B-Handle.Denot). traces_at g.B.StatelessH265DecoderBackend.log
          g.B.StatelessH265DecoderBackend.handed g.B.StatelessH265DecoderBackend.frames v) c.self.view_is)
          (ap (λ (v : View g.row.B.Denot g.row.B-Handle.Denot). v.standing) c.self.view_is)
          (c.in_err-open_sequence.ensures.part t is);
      state = refused_stays _ _ any _ _ (format_of_set (plain_sps c.args.sps.now)) _ _ _ _
          c.from_residual.ensures.1 (c.in_err-open_sequence.ensures.part any refl)
          (ap (λ (v : View g.row.B.Denot g.row.B-Handle.Denot). v.state) c.self.view_is);
      latest = search rules;
    }

pub returns-clause-acts : goal.returns-clause-acts
returns-clause-acts g c t own is = record {
  part = opens_first t _ _ _ (format_of_set (plain_sps c.args.sps.now)) _ _ _
      (ap (λ (v : View g.row.B.Denot g.row.B-Handle.Denot). traces_at g.B.StatelessH265DecoderBackend.log
      g.B.StatelessH265DecoderBackend.handed g.B.StatelessH265DecoderBackend.frames v) c.self.view_is)
      (ap (λ (v : View g.row.B.Denot g.row.B-Handle.Denot). v.standing) c.self.view_is)
      (c.in_ok-open_sequence.ensures.part t is);
  state = refl;
  latest = search rules;
}

pub returns-in_err-open_sequence-clause-few : goal.returns-in_err-open_sequence-clause-few
returns-in_err-open_sequence-clause-few g c =
    few_came 0 c.args.self.now c.self.inside.driver.standing c.self.inside.driver.standing
    c.open_sequence.new.self.standing
    (ap (λ (v : View g.row.B.Denot g.row.B-Handle.Denot). v.queue) c.self.view_is) refl
    c.in_err-open_sequence.ensures.stays.grows (omega arith)

pub returns-clause-few : goal.returns-clause-few
returns-clause-few g c =
    few_came 0 c.args.self.now c.self.inside.driver.standing c.self.inside.driver.standing
    c.open_sequence.new.self.standing
    (ap (λ (v : View g.row.B.Denot g.row.B-Handle.Denot). v.queue) c.self.view_is) refl
    c.in_ok-open_sequence.ensures.stays.grows (omega arith)
