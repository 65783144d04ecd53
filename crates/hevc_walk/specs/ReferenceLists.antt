-- The reference picture lists of a slice (8.3.4).
use Rattle.std.specs.Prelude.{ℕ, ◌-◌, ◌%◌, ◌&&◌, nat_lt, List, [], ◌∷◌, ◌++◌, length, map, take}
use Rattle.std.specs.Prelude.{get_or, zero, suc, if◌then◌else◌, Option, Some, None, is_none}
use Rattle.hevc_walk.specs.Meanings.{Slice, ListRule, SliceType, I, B}
use Rattle.hevc_walk.specs.ReferenceSets.{RefPicSet}

pub data RefPicListEntry : Type 0 where
  CurrentPicture : RefPicListEntry
  DpbEntry : (number : ℕ) → RefPicListEntry

abbrev pub entry_of_number : Option ℕ → Option RefPicListEntry
entry_of_number None = None
entry_of_number (Some n) = Some (DpbEntry n)

abbrev pub current_picture : Slice → List (Option RefPicListEntry)
current_picture s = if s.pps_curr_pic_ref_enabled_flag then Some CurrentPicture ∷ [] else []

-- RefPicListTemp0 (8-8) and RefPicListTemp1 (8-10), gone through once
abbrev pub base0 : RefPicSet → Slice → List (Option RefPicListEntry)
base0 set s =
    map entry_of_number (set.st_curr_before ++ set.st_curr_after ++ set.lt_curr)
    ++ current_picture s

abbrev pub base1 : RefPicSet → Slice → List (Option RefPicListEntry)
base1 set s =
    map entry_of_number (set.st_curr_after ++ set.st_curr_before ++ set.lt_curr)
    ++ current_picture s

-- the numbers below n
abbrev pub numbers_below : ℕ → List ℕ
numbers_below zero = []
numbers_below (suc n) = numbers_below n ++ n ∷ []

-- list_entry[i], or i where the list isn't changed
abbrev pub entry_index : Option (List ℕ) → ℕ → ℕ
entry_index None i = i
entry_index (Some entries) i = get_or entries i 0

-- as many places as are active, gone round the base, None where it is empty (8-9, 8-11)
abbrev pub list_places : ListRule → List (Option RefPicListEntry) → List (Option RefPicListEntry)
list_places rule base =
    map (λ i. get_or base (entry_index rule.list_entry i % length base) None)
    (numbers_below rule.num_ref_idx_active)

-- an unchanged list 0 that has no place for all ends in the current picture
abbrev pub with_current : Slice → List (Option RefPicListEntry) → List (Option RefPicListEntry)
with_current s places =
    if s.pps_curr_pic_ref_enabled_flag
    && is_none s.list0.list_entry
    && nat_lt s.list0.num_ref_idx_active s.num_pic_total_curr
    then take (s.list0.num_ref_idx_active - 1) places ++ Some CurrentPicture ∷ []
    else places

abbrev pub list0_for : SliceType → RefPicSet → Slice → List (Option RefPicListEntry)
list0_for I set s = []
list0_for slice_type set s = with_current s (list_places s.list0 (base0 set s))

abbrev pub list1_for : SliceType → RefPicSet → Slice → List (Option RefPicListEntry)
list1_for B set s = list_places s.list1 (base1 set s)
list1_for slice_type set s = []

-- RefPicList0, empty for I slices
unfoldable pub ref_pic_list0 : RefPicSet → Slice → List (Option RefPicListEntry)
ref_pic_list0 set s = list0_for s.slice_type set s

-- RefPicList1, empty but for B slices
unfoldable pub ref_pic_list1 : RefPicSet → Slice → List (Option RefPicListEntry)
ref_pic_list1 set s = list1_for s.slice_type set s
