-- What is looked for at a picture: that it, or its coded video sequence, isn't within bounds that are
-- enough for its outputs to be all of its pictures, in order (7.4.3.2.1, C.5.2).
use Rattle.std.specs.Prelude.{Bool, false, not, ◌&&◌, ◌==◌, nat_lt, int_lt, count_by, filter, List, [], ◌∷◌, if◌then◌else◌, Option, Some, None}
use Rattle.hevc_walk.specs.Meanings.{same_format}
use Rattle.hevc_walk.specs.Pictures.{Picture}
use Rattle.hevc_walk_order.specs.Sequences.{begins, earliest, is_for_output}
use Rattle.hevc_walk_order.specs.Tests.{same_limits}

pub data Breach : Type 0 where
  Changed Latency SameCount Full Discards Reorder : Breach

-- in this order they are looked for
abbrev pub all_breaches : List Breach
all_breaches = Changed ∷ Latency ∷ SameCount ∷ Full ∷ Discards ∷ Reorder ∷ []

-- the pictures of the latest sequence among some pictures; all lists are latest first
abbrev pub latest_sequence : List Picture → List Picture
latest_sequence [] = []
latest_sequence (p ∷ before) = p ∷ (if begins p before then [] else latest_sequence before)

-- those before a picture in its own sequence, none where it begins one
abbrev pub earlier_in : Picture → List Picture → List Picture
earlier_in p before = if begins p before then [] else latest_sequence before

-- the same that are to be output (8.1.3)
abbrev pub earlier_for_output : Picture → List Picture → List Picture
earlier_for_output p before = filter is_for_output (earlier_in p before)

-- another format or other limits than the first picture of its sequence has
abbrev pub differs_from : Picture → Option Picture → Bool
differs_from p None = false
differs_from p (Some first) =
    not (same_limits p.limits first.limits && same_format p.format first.format)

abbrev pub is_changed : Picture → List Picture → Bool
is_changed p before = differs_from p (earliest (earlier_in p before))

-- its NoOutputOfPriorPicsFlag is set, by which all that waits for output is discarded, if anything
-- does (C.5.2.2); before the first picture there is nothing
abbrev pub discards : Picture → Bool
discards p = p.no_output_of_prior_pics && not (p.number == 0)

-- more than sps_max_num_reorder_pics are before it and are output after it (7.4.3.2.1)
abbrev pub is_reordered : Picture → List Picture → Bool
is_reordered p before =
    is_for_output p
    && nat_lt p.limits.max_num_reorder_pics
    (count_by (λ b. int_lt p.order_count b.order_count) (earlier_for_output p before))
