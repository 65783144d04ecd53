use Rattle.std.proofs.lemmas.Bool.Decides.{Decides-at}
use Rattle.hevc_set_parts.proofs.RecordEquality.{short_term_ref_pic_set}
use Rattle.hevc_set_parts.proofs.comparisons.short_term_ref_pic_set_eq.Goals as goal

pub returns : goal.returns
returns c = Decides-at _ _ c.eq.ensures (short_term_ref_pic_set _ _)
