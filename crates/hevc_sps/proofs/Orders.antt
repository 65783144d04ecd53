-- The order of the members of sets is an invariant of each.
use Rattle.std.proofs.Common.{List, Result, Ok, Err}
use Rattle.std.specs.Prelude.{IfOk}
use Rattle.hevc_elements.specs.declared.parse_error.ParseError.{ParseError}
use Rattle.hevc_set_parts.specs.declared.short_term_ref_pic_set.ShortTermRefPicSet.{ShortTermRefPicSet}
use Rattle.hevc_sequence_set.specs.declared.sps.Sps.{Sps}
use Rattle.hevc_sps.specs.Predictions.{AreInOrder}

in_order : (sets : List ShortTermRefPicSet) → AreInOrder sets
in_order sets set among = (set.negatives, set.positives)

pub are_in_order : (result : Result Sps ParseError) → IfOk result (λ sps. AreInOrder sps.short_term_ref_pic_set)
are_in_order (Ok sps) = in_order sps.short_term_ref_pic_set
are_in_order (Err e) = tt
