use Rattle.std.proofs.Common.{◌≡◌, refl, ap, sym, ◌∙◌, subst, rules}
use Rattle.std.specs.Prelude.{option_map}
use Rattle.hevc_backend.specs.Trait.{Counts}
use Rattle.hevc_backend.specs.Handed.{segment_of}
use Rattle.hevc_driver.specs.Given.{given_first}
use Rattle.hevc_driver.specs.Answers.{CountsErrors}
use Rattle.hevc_driver.specs.Does.{Traces, Completes, StopsBy}
use Rattle.hevc_driver.specs.Moments.{renegotiates, drained}
use Rattle.hevc_driver.specs.Takes.{Starts, IsNewSequence}
use Rattle.hevc_walk.specs.Meanings.{Format}
use Rattle.hevc_walk.specs.Walk.{is_accepted}
use Rattle.hevc_backend.specs.Negotiation.{format_of}
use Rattle.hevc_driver.specs.Slices.{slice_of}
use Rattle.hevc_driver.specs.Standings.{standing, traces}
use Rattle.hevc_driver.proofs.PictureBegins.{begins_accepted, begins_negotiated, begins_refused}
use Rattle.hevc_driver.proofs.SliceViews.{slice_format}
use Rattle.hevc_driver.proofs.Soundness.{has_frames, once_questioned}
use Rattle.hevc_driver.proofs.driver.Driver.begin.Goals as goal

pub returns-then-is_accepted-clause-part : goal.returns-then-is_accepted-clause-part
returns-then-is_accepted-clause-part g c =
    let w = slice_of c.args.options c.args.slice.now c.args.sps.now c.args.pps.now in
    let named = slice_format c.args.options c.args.slice.now c.args.sps.now c.args.pps.now
    ∙ sym (ap format_of c.into.ensures) in
    let accepted =
    ap (λ (f : Format). is_accepted f (option_map format_of c.args.self.now.standing.accepted)) named
    ∙ sym c.is_accepted.ensures ∙ c.if-is_accepted.true in
    let segment = segment_of c.args.slice.now c.args.sps.now c.args.pps.now in
    let s = standing c.args.self.now.standing in
    let given = given_first c.args.timestamp w segment s in
    let after = traces (g.B.StatelessH265DecoderBackend.log c.start.new.self.backend)
    (g.B.StatelessH265DecoderBackend.handed c.start.new.self.backend)
    (g.B.StatelessH265DecoderBackend.frames c.start.new.self.backend).asked c.start.new.self.standing in
    begins_accepted _ given _ after w s _ accepted
    (subst (λ (t : Traces g.row.B-Handle.Denot). Starts c.start.result given t after w s
    (standing c.start.new.self.standing))
    (once_questioned c.args.self.now.standing _ _ _ _
    (g.B.StatelessH265DecoderBackend.frames c.args.self.now.backend)
    (g.B.StatelessH265DecoderBackend.frames c.num_free_frames.new.self) c.num_free_frames.result
    c.num_free_frames.ensures.log c.num_free_frames.ensures.handed c.num_free_frames.ensures.frames)
    c.start.ensures.part)

pub returns-then-is_accepted-clause-fair : goal.returns-then-is_accepted-clause-fair
returns-then-is_accepted-clause-fair g c =
    let f = c.start.ensures.fair in
    record {
      blames = record {
        cause = subst
            (λ (k : Counts). CountsErrors k
            (g.B.StatelessH265DecoderBackend.counts c.start.new.self.backend) c.start.result)
            (has_frames _ _ _ c.if-num_free_frames-eq0.false c.num_free_frames.ensures.cause) f.blames.cause;
        faultless = search rules;
      };
      info = search rules;
    }

pub returns-in_ok-negotiate-clause-part : goal.returns-in_ok-negotiate-clause-part
returns-in_ok-negotiate-clause-part g c =
    let w = slice_of c.args.options c.args.slice.now c.args.sps.now c.args.pps.now in
    let is = slice_format c.args.options c.args.slice.now c.args.sps.now c.args.pps.now in
    let other = ap (λ (f : Format). is_accepted f (option_map format_of c.args.self.now.standing.accepted))
    (is ∙ sym (ap format_of c.into.ensures)) ∙ sym c.is_accepted.ensures ∙ c.if-is_accepted.false in
    let segment = segment_of c.args.slice.now c.args.sps.now c.args.pps.now in
    let s = standing c.args.self.now.standing in
    let given = given_first c.args.timestamp w segment s in
    let after = traces (g.B.StatelessH265DecoderBackend.log c.negotiate.new.self.backend)
    (g.B.StatelessH265DecoderBackend.handed c.negotiate.new.self.backend)
    (g.B.StatelessH265DecoderBackend.frames c.negotiate.new.self.backend).asked c.negotiate.new.self.standing in
    begins_negotiated given _ after w s _ other
    (subst (λ (t : Traces g.row.B-Handle.Denot). Completes given t after (renegotiates w.format s)
    (standing c.negotiate.new.self.standing))
    (once_questioned c.args.self.now.standing _ _ _ _
    (g.B.StatelessH265DecoderBackend.frames c.args.self.now.backend)
    (g.B.StatelessH265DecoderBackend.frames c.num_free_frames.new.self) c.num_free_frames.result
    c.num_free_frames.ensures.log c.num_free_frames.ensures.handed c.num_free_frames.ensures.frames)
    (subst (λ (f : Format). Completes given
    (traces (g.B.StatelessH265DecoderBackend.log c.num_free_frames.new.self)
    (g.B.StatelessH265DecoderBackend.handed c.num_free_frames.new.self)
    (g.B.StatelessH265DecoderBackend.frames c.num_free_frames.new.self).asked c.args.self.now.standing)
    after (renegotiates f s) (standing c.negotiate.new.self.standing)) (sym is)
    (c.in_ok-negotiate.ensures.part given refl)))

pub returns-in_err-negotiate-clause-part : goal.returns-in_err-negotiate-clause-part
returns-in_err-negotiate-clause-part g c =
    let w = slice_of c.args.options c.args.slice.now c.args.sps.now c.args.pps.now in
    let is = slice_format c.args.options c.args.slice.now c.args.sps.now c.args.pps.now in
    let other = ap (λ (f : Format). is_accepted f (option_map format_of c.args.self.now.standing.accepted))
    (is ∙ sym (ap format_of c.into.ensures)) ∙ sym c.is_accepted.ensures ∙ c.if-is_accepted.false in
    let s = standing c.args.self.now.standing in
    let st = standing c.negotiate.new.self.standing in
    let segment = segment_of c.args.slice.now c.args.sps.now c.args.pps.now in
    let given = given_first c.args.timestamp w segment s in
    let e = c.in_err-negotiate.field-0.0 in
    let after = traces (g.B.StatelessH265DecoderBackend.log c.negotiate.new.self.backend)
    (g.B.StatelessH265DecoderBackend.handed c.negotiate.new.self.backend)
    (g.B.StatelessH265DecoderBackend.frames c.negotiate.new.self.backend).asked c.negotiate.new.self.standing in
    begins_refused _ e given _ after w s st c.from_residual.ensures.1 other
    (subst (λ (t : Traces g.row.B-Handle.Denot). StopsBy e given t after (renegotiates w.format s).events
    (λ call. IsNewSequence call × (st ≡ drained s)))
    (once_questioned c.args.self.now.standing _ _ _ _
    (g.B.StatelessH265DecoderBackend.frames c.args.self.now.backend)
    (g.B.StatelessH265DecoderBackend.frames c.num_free_frames.new.self) c.num_free_frames.result
    c.num_free_frames.ensures.log c.num_free_frames.ensures.handed c.num_free_frames.ensures.frames)
    (subst (λ (f : Format). StopsBy e given
    (traces (g.B.StatelessH265DecoderBackend.log c.num_free_frames.new.self)
    (g.B.StatelessH265DecoderBackend.handed c.num_free_frames.new.self)
    (g.B.StatelessH265DecoderBackend.frames c.num_free_frames.new.self).asked c.args.self.now.standing)
    after (renegotiates f s).events (λ call. IsNewSequence call × (st ≡ drained s))) (sym is)
    (c.in_err-negotiate.ensures.part given refl)))
