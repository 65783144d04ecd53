use Rattle.std.proofs.lemmas.Bool.Decides.{Decides-at}
use Rattle.hevc_set_parts.proofs.RecordEquality.{ref_pic_list_modification}
use Rattle.hevc_set_parts.proofs.comparisons.ref_pic_list_modification_eq.Goals as goal

pub returns : goal.returns
returns c = Decides-at _ _ c.eq.ensures (ref_pic_list_modification _ _)
