use Rattle.std.proofs.lemmas.Bool.Decides.{Decides-at}
use Rattle.hevc_set_parts.proofs.RecordEquality.{profile_tier_level}
use Rattle.hevc_set_parts.proofs.comparisons.profile_tier_level_eq.Goals as goal

pub returns : goal.returns
returns c = Decides-at _ _ c.eq.ensures (profile_tier_level _ _)
