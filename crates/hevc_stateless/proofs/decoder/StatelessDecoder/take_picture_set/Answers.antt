use Rattle.std.proofs.Common.{ap}
use Rattle.hevc_bits.specs.FoundUnit.{bytes_of}
use Rattle.hevc_spec.specs.UnitTypes.{is_idr}
use Rattle.hevc_kept_sets.specs.Kept.{kept_of, options_in}
use Rattle.hevc_stateless.specs.States.{is_parameter_set}
use Rattle.hevc_stateless.proofs.Setting.{same_picture_set, picture_set_means, set_goes}
use Rattle.hevc_stateless.proofs.decoder.StatelessDecoder.take_picture_set.Goals as goal

pub returns-clause-step : goal.returns-clause-step
returns-clause-step g c t =
    let o = options_in c.args.self.now.kept in
    let k = kept_of c.args.self.now.kept in
    let bytes = bytes_of c.args.nalu.now in
    let h = c.args.nalu.now.header in
    let r = c.requires in
    set_goes o k bytes h r.parsed r.wanted _ _ _ c.args.self.now.session (ap is_parameter_set r.typed)
    (ap is_idr r.typed) (same_picture_set o k bytes h r.parsed r.wanted r.typed) _ t _
    (picture_set_means o k bytes h r.parsed r.wanted r.typed) c.in_ok-take_picture_set.ensures.behind
