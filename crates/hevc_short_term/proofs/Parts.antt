-- The sets of a sequence parameter set, as the table has them.
use Rattle.std.proofs.Common.{◌≡◌, ℕ, ◌<◌, List, length, get_or, map, slice_index_or}
use Rattle.std.proofs.lemmas.List.{get_or-map}
use Rattle.hevc_records.specs.ShortTermRefPicSet.{PlainShortTermRefPicSet}
use Rattle.hevc_set_parts.specs.declared.short_term_ref_pic_set.ShortTermRefPicSet.{ShortTermRefPicSet}
use Rattle.hevc_set_parts.specs.ShortTermRefPicSet.{plain_short_term_ref_pic_set}

pub set_at : (sets : List ShortTermRefPicSet) (i : ℕ) (d : ShortTermRefPicSet) (e : PlainShortTermRefPicSet)
    → i < length sets
    → slice_index_or (map plain_short_term_ref_pic_set sets) i e ≡ plain_short_term_ref_pic_set (get_or sets i d)
set_at sets i d e below = get_or-map plain_short_term_ref_pic_set sets i d e below
