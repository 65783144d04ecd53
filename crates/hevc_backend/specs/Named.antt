-- Which pictures reference picture sets and lists name (8.3.2, 8.3.4).
use Rattle.std.specs.Prelude.{◌≡◌, ℕ, true, List, Contains}
use Rattle.hevc_walk.specs.ReferenceSets.{names, all_members}
use Rattle.hevc_walk_marks.specs.Listed.{lists}
use Rattle.hevc_refs.specs.declared.ref_pic_set.RefPicSet.{RefPicSet}
use Rattle.hevc_refs.specs.declared.ref_pic_list.RefPicList.{RefPicList}
use Rattle.hevc_refs.specs.Sets.{plain_set}
use Rattle.hevc_refs.specs.Lists.{places_of, plain_places}

-- each number in the five sets is one of these
abbrev pub SetNamesAmong : List ℕ → RefPicSet → Type 0
SetNamesAmong ns set = (n : ℕ) → names n (all_members (plain_set set)) ≡ true → Contains ns n

-- each number in the list is one of these
abbrev pub ListNamesAmong : List ℕ → RefPicList → Type 0
ListNamesAmong ns list = (n : ℕ) → lists n (plain_places (places_of list)) ≡ true → Contains ns n
