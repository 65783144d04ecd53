use Rattle.std.proofs.lemmas.Bool.Decides.{Decides-at}
use Rattle.hevc_picture_slice.proofs.RecordEquality.{slice_header}
use Rattle.hevc_picture_slice.proofs.comparisons.slice_header_eq.Goals as goal

pub returns : goal.returns
returns c = Decides-at _ _ c.eq.ensures (slice_header _ _)
