use Rattle.std.proofs.Common.{List, ◌++◌, length, ap}
use Rattle.std.proofs.lemmas.List.{drop-replicate}
use Rattle.hevc_va.specs.declared.surfaces.VaPictureHevc.{VaPictureHevc}
use Rattle.hevc_va.specs.Surfaces.{no_picture}
use Rattle.hevc_va.proofs.references.frame_places.Goals as goal

pub returns : goal.returns
returns c =
    rw c.copy_from_slice.ensures.after
    (ap (λ (others : List VaPictureHevc). c.args.frames.now ++ others)
    (drop-replicate (length c.args.frames.now) 15 no_picture))
