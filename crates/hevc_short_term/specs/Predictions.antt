-- The order of the members of a short-term reference picture set (7.4.8).
use Rattle.hevc_records.specs.ShortTermRefPicSet.{Fall, Rise}
use Rattle.hevc_set_parts.specs.declared.short_term_ref_pic_set.ShortTermRefPicSet.{ShortTermRefPicSet}

-- Whatever chain of predictions leads to the set, its negatives fall from below 0 and its positives
-- rise from above 0, and so none is 0.
abbrev pub IsInOrder : ShortTermRefPicSet → Type 0
IsInOrder set =
    Fall set.num_negative_pics set.delta_poc_s0 × Rise set.num_positive_pics set.delta_poc_s1
