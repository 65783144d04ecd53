-- The order of the members of short-term reference picture sets (7.4.8).
use Rattle.std.specs.Prelude.{List, Contains}
use Rattle.hevc_short_term.specs.Predictions.{IsInOrder}
use Rattle.hevc_set_parts.specs.declared.short_term_ref_pic_set.ShortTermRefPicSet.{ShortTermRefPicSet}

-- So are those of each of the sets.
abbrev pub AreInOrder : List ShortTermRefPicSet → Type 0
AreInOrder sets = (set : ShortTermRefPicSet) → Contains sets set → IsInOrder set
