use Rattle.std.proofs.Common.{refl, ◌∙◌, ap, sym, subst, Ok}
use Rattle.std.specs.Prelude.{IsSome}
use Rattle.std.proofs.lemmas.Result.{err_from_is_err_and}
use Rattle.hevc_bits.specs.FoundUnit.{bytes_of}
use Rattle.hevc_spec.specs.UnitTypes.{is_idr}
use Rattle.hevc_stream.specs.Options.{Options}
use Rattle.hevc_stream.specs.Stream.{with_all_waited}
use Rattle.hevc_kept_sets.specs.Kept.{kept_of, options_in}
use Rattle.hevc_kept_sets.specs.Takes.{StopsReading}
use Rattle.hevc_stateless.specs.Steps.{Step, given_to}
use Rattle.hevc_stateless.specs.Decoders.{seen_by}
use Rattle.hevc_stateless.specs.Segments.{own_header}
use Rattle.hevc_stateless.specs.Views.{View}
use Rattle.hevc_stateless.specs.States.{is_parameter_set}
use Rattle.hevc_stateless.proofs.Setting.{same_sequence_set, set_refused, first_given, first_step}
use Rattle.hevc_stateless.proofs.Setting.{later_step, later_stopped, found_by_id}
use Rattle.hevc_stateless.proofs.decoder.StatelessDecoder.take_sequence_set.Goals as goal

pub returns-in-Err-clause-step : goal.returns-in-Err-clause-step
returns-in-Err-clause-step g c t =
    let o = options_in c.args.self.now.kept in
    let k = kept_of c.args.self.now.kept in
    let bytes = bytes_of c.args.nalu.now in
    let h = c.args.nalu.now.header in
    let r = c.requires in
    rw c.refusal.ensures
    (set_refused o k bytes h r.parsed r.wanted _ _ _ c.args.self.now.session (ap is_parameter_set r.typed)
    (ap is_idr r.typed) (same_sequence_set o k bytes h r.parsed r.wanted r.typed)
    (Unit {0}) c.in-Err.error _ (kept_of c.keep_sequence_set.new.self) c.in-Err.ensures.keeps)

pub open_sequence-requires-clause-kept : goal.open_sequence-requires-clause-kept
open_sequence-requires-clause-kept g c =
    let o = options_in c.args.self.now.kept in
    let k = kept_of c.args.self.now.kept in
    let bytes = bytes_of c.args.nalu.now in
    let h = c.args.nalu.now.header in
    let r = c.requires in
    let kept = c.in-Ok.ensures.keeps in
    subst IsSome
    (sym (found_by_id o k bytes h r.parsed r.wanted kept.0 kept.1 r.typed c.in-Ok.id
    (kept_of c.keep_sequence_set.new.self) kept.2 kept.3)) refl

pub returns-then-awaiting_stream_info-clause-step : goal.returns-then-awaiting_stream_info-clause-step
returns-then-awaiting_stream_info-clause-step g c t =
    let o = options_in c.args.self.now.kept in
    let k = kept_of c.args.self.now.kept in
    let bytes = bytes_of c.args.nalu.now in
    let h = c.args.nalu.now.header in
    let r = c.requires in
    let kept = c.in-Ok.ensures.keeps in
    let first = sym c.awaiting_stream_info.ensures ∙ c.if-awaiting_stream_info.true in
    let given = given_to t o h bytes
    (seen_by g.B.StatelessH265DecoderBackend.log g.B.StatelessH265DecoderBackend.handed
    g.B.StatelessH265DecoderBackend.frames c.args.self.now) in
    first_step o k bytes h r.parsed r.wanted kept.0 kept.1 r.typed c.open_sequence.result given _ _ _ _ _ _
    c.args.self.now.session c.open_sequence.new.self.session (kept_of c.open_sequence.new.self.kept) first
    (c.open_sequence.ensures.kept ∙ kept.3)
    (c.open_sequence.ensures.acts given (own_header o k bytes) kept.0
    (found_by_id o k bytes h r.parsed r.wanted kept.0 kept.1 r.typed c.in-Ok.id
    (kept_of c.keep_sequence_set.new.self) kept.2 kept.3)
    (first_given o k bytes h r.parsed r.wanted kept.0 kept.1 r.typed t
    (g.B.StatelessH265DecoderBackend.log c.args.self.now.session.backend)
    (g.B.StatelessH265DecoderBackend.handed c.args.self.now.session.backend)
    (g.B.StatelessH265DecoderBackend.frames c.args.self.now.session.backend).asked c.args.self.now.session first))

pub returns-in_err-read_waiting-clause-step : goal.returns-in_err-read_waiting-clause-step
returns-in_err-read_waiting-clause-step g c t =
    let o = options_in c.args.self.now.kept in
    let k = kept_of c.args.self.now.kept in
    let bytes = bytes_of c.args.nalu.now in
    let h = c.args.nalu.now.header in
    let r = c.requires in
    let kept = c.in-Ok.ensures.keeps in
    later_stopped o k bytes h r.parsed r.wanted kept.0 kept.1 r.typed c.from_residual.result _ _ _ _
    c.args.self.now.session (kept_of c.keep_sequence_set.new.self) (kept_of c.read_waiting.new.self)
    kept.3 (subst
    (λ (x : Options). StopsReading x (kept_of c.keep_sequence_set.new.self)
    (kept_of c.read_waiting.new.self)) c.keep_sequence_set.ensures.options
    c.in_err-read_waiting.ensures.stopped) c.from_residual.ensures.1

pub returns-clause-step : goal.returns-clause-step
returns-clause-step g c t =
    let o = options_in c.args.self.now.kept in
    let k = kept_of c.args.self.now.kept in
    let bytes = bytes_of c.args.nalu.now in
    let h = c.args.nalu.now.header in
    let r = c.requires in
    let kept = c.in-Ok.ensures.keeps in
    let given = given_to t o h bytes
    (seen_by g.B.StatelessH265DecoderBackend.log g.B.StatelessH265DecoderBackend.handed
    g.B.StatelessH265DecoderBackend.frames c.args.self.now) in
    let v = c.args.self.now.session in
    subst (λ (b : g.row.B.Denot). Step (Ok tt) given o h bytes
    (seen_by g.B.StatelessH265DecoderBackend.log g.B.StatelessH265DecoderBackend.handed
    g.B.StatelessH265DecoderBackend.frames c.args.self.now) (record {
      log = g.B.StatelessH265DecoderBackend.log b;
      handed = g.B.StatelessH265DecoderBackend.handed b;
      asked = (g.B.StatelessH265DecoderBackend.frames b).asked;
      view = c.resume.new.self;
      kept = kept_of c.read_waiting.new.self;
    }))
    (sym (ap (λ (w : View g.row.B.Denot g.row.B-Handle.Denot). w.backend) c.resume.ensures))
    (later_step o k bytes h r.parsed r.wanted kept.0 kept.1 r.typed tt given
    (g.B.StatelessH265DecoderBackend.log v.backend) (g.B.StatelessH265DecoderBackend.handed v.backend)
    (g.B.StatelessH265DecoderBackend.frames v.backend).asked v c.resume.new.self
    (kept_of c.keep_sequence_set.new.self) (kept_of c.read_waiting.new.self)
    (sym c.awaiting_stream_info.ensures ∙ c.if-awaiting_stream_info.false) r.going c.resume.ensures kept.3
    (c.in_ok-read_waiting.ensures.read
    ∙ ap (λ (x : Options). with_all_waited x (kept_of c.keep_sequence_set.new.self))
    c.keep_sequence_set.ensures.options))

pub returns-in_err-read_waiting-clause-fair : goal.returns-in_err-read_waiting-clause-fair
returns-in_err-read_waiting-clause-fair g c =
    let e = err_from_is_err_and c.from_residual.result c.from_residual.ensures.1 in
    rw e.1 (rw e.2 (record { blames = record { cause = refl; faultless = λ h. (h, λ none. none) }; info = tt }))
