use Rattle.std.proofs.Common.{refl}
use Rattle.hevc_walk.specs.Meanings.{Other}
use Rattle.hevc_bits.specs.FoundUnit.{bytes_of}
use Rattle.hevc_kept_sets.specs.Kept.{kept_of, options_in}
use Rattle.hevc_check.proofs.Meant.{on_ok, idle_set, picture_set_other}
use Rattle.hevc_check.proofs.units.Walk.take_picture_set.Goals as goal

pub returns-clause-takes : goal.returns-clause-takes
returns-clause-takes c =
    let old = c.args.self.now in
    let bytes = bytes_of c.args.nalu.now in
    let r = c.requires in
    on_ok c.take_picture_set.result _ _
    (λ kept. idle_set bytes old _ Other
    (picture_set_other (options_in old.sets) (kept_of old.sets) bytes c.args.nalu.now.header r.parsed r.wanted
    r.typed) refl refl refl kept) c.take_picture_set.ensures.behind
