use Rattle.std.proofs.Common.{◌∙◌, ap}
use Rattle.hevc_bits.specs.FoundUnit.{bytes_of}
use Rattle.hevc_spec.specs.UnitTypes.{is_idr}
use Rattle.hevc_stream.specs.Contents.{video_set}
use Rattle.hevc_kept_sets.specs.Kept.{kept_of, options_in}
use Rattle.hevc_stateless.specs.States.{is_parameter_set}
use Rattle.hevc_stateless.proofs.Setting.{means, same_video_set, set_goes, set_refused, set_error}
use Rattle.hevc_stateless.proofs.decoder.StatelessDecoder.take_video_set.Goals as goal

pub returns-in-Ok-clause-step : goal.returns-in-Ok-clause-step
returns-in-Ok-clause-step g c t =
    let o = options_in c.args.self.now.kept in
    let k = kept_of c.args.self.now.kept in
    let bytes = bytes_of c.args.nalu.now in
    let h = c.args.nalu.now.header in
    let r = c.requires in
    let taken = c.in-Ok.ensures.takes in
    let same = same_video_set o k bytes h r.parsed r.wanted r.typed in
    set_goes o k bytes h r.parsed r.wanted _ _ _ c.args.self.now.session (ap is_parameter_set r.typed)
    (ap is_idr r.typed) same _ t _ (means o k bytes h r.parsed r.wanted (video_set taken.0) (same ∙ taken.1)) taken.2

pub returns-in-Err-clause-step : goal.returns-in-Err-clause-step
returns-in-Err-clause-step g c t =
    let o = options_in c.args.self.now.kept in
    let k = kept_of c.args.self.now.kept in
    let bytes = bytes_of c.args.nalu.now in
    let h = c.args.nalu.now.header in
    let r = c.requires in
    rw c.refusal.ensures
    (set_refused o k bytes h r.parsed r.wanted _ _ _ c.args.self.now.session (ap is_parameter_set r.typed)
    (ap is_idr r.typed) (same_video_set o k bytes h r.parsed r.wanted r.typed) (Unit {0}) c.in-Err.error t
    (kept_of c.take_video_set.new.self) c.in-Err.ensures.takes)

pub returns-in-Err-clause-refused : goal.returns-in-Err-clause-refused
returns-in-Err-clause-refused g c = rw c.refusal.ensures (set_error _ _ _ _ c.in-Err.error c.in-Err.ensures.takes)
