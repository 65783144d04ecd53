use Rattle.std.proofs.lemmas.Bool.Decides.{Decides-at}
use Rattle.hevc_set_parts.proofs.RecordEquality.{scaling_lists}
use Rattle.hevc_set_parts.proofs.comparisons.scaling_lists_eq.Goals as goal

pub returns : goal.returns
returns c = Decides-at _ _ c.eq.ensures (scaling_lists _ _)
