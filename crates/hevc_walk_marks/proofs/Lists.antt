-- The places of a list come from the set.
use Rattle.std.proofs.Common.{◌≡◌, ◌⊎◌, inl, inr, ⊎_elim, ℕ, zero, suc, ◌-◌, ◌%◌, Bool, true, false}
use Rattle.std.proofs.Common.{cond, ◌||◌, eqb, List, [], ◌∷◌, ◌++◌, length, map, take, get_or, refl}
use Rattle.std.proofs.Common.{sym, ap, ◌∙◌}
use Rattle.std.specs.Prelude.{Option, Some, None}
use Rattle.hevc_walk.specs.Meanings.{Slice, ListRule, SliceType, B, P, I}
use Rattle.hevc_walk.specs.ReferenceSets.{RefPicSet, names, all_members}
use Rattle.hevc_walk.specs.ReferenceLists.{RefPicListEntry, CurrentPicture, DpbEntry}
use Rattle.hevc_walk.specs.ReferenceLists.{entry_of_number, current_picture, base0, base1}
use Rattle.hevc_walk.specs.ReferenceLists.{numbers_below, entry_index, list_places, list0_for}
use Rattle.hevc_walk.specs.ReferenceLists.{list1_for, ref_pic_list0, ref_pic_list1}
use Rattle.hevc_walk_marks.specs.Listed.{lists}
use Rattle.hevc_walk_marks.proofs.Names.{names_append}

or_cases : (a b : Bool) → (a || b) ≡ true → (a ≡ true) ⊎ (b ≡ true)
or_cases true b h = inl refl
or_cases false b h = inr h

or_left : (a b : Bool) → a ≡ true → (a || b) ≡ true
or_left true b h = refl
or_left false b h = absurd (cc h)

or_right : (a b : Bool) → b ≡ true → (a || b) ≡ true
or_right true b h = refl
or_right false b h = h

or_assoc : (a b c : Bool) → (a || (b || c)) ≡ ((a || b) || c)
or_assoc true b c = refl
or_assoc false b c = refl

lists_append : (n : ℕ) (xs ys : List (Option RefPicListEntry)) → lists n (xs ++ ys) ≡ (lists n xs || lists n ys)
lists_append n [] ys = refl
lists_append n (None ∷ xs) ys = lists_append n xs ys
lists_append n (Some CurrentPicture ∷ xs) ys = lists_append n xs ys
lists_append n (Some (DpbEntry m) ∷ xs) ys = ap (λ b. eqb m n || b) (lists_append n xs ys)
    ∙ or_assoc (eqb m n) (lists n xs) (lists n ys)

lists_numbers : (n : ℕ) (xs : List (Option ℕ)) → lists n (map entry_of_number xs) ≡ names n xs
lists_numbers n [] = refl
lists_numbers n (None ∷ xs) = lists_numbers n xs
lists_numbers n (Some m ∷ xs) = ap (λ b. eqb m n || b) (lists_numbers n xs)

current_lists : (n : ℕ) (b : Bool) → lists n (cond b (Some CurrentPicture ∷ []) []) ≡ false
current_lists n true = refl
current_lists n false = refl

or_false : (a b : Bool) → b ≡ false → (a || b) ≡ true → a ≡ true
or_false true b h k = refl
or_false false b h k = absurd (cc (sym h ∙ k))

base_names : (n : ℕ) (xs : List (Option ℕ)) (s : Slice)
    → lists n (map entry_of_number xs ++ current_picture s) ≡ true → names n xs ≡ true
base_names n xs s h = sym (lists_numbers n xs)
    ∙ or_false (lists n (map entry_of_number xs)) (lists n (current_picture s))
    (current_lists n s.pps_curr_pic_ref_enabled_flag)
    (sym (lists_append n (map entry_of_number xs) (current_picture s)) ∙ h)

-- one place of a base
one_of : (n : ℕ) (base : List (Option RefPicListEntry)) (k : ℕ) → lists n (get_or base k None ∷ []) ≡ true
    → lists n base ≡ true
one_of n [] k h = absurd (cc h)
one_of n (None ∷ base) zero h = absurd (cc h)
one_of n (Some CurrentPicture ∷ base) zero h = absurd (cc h)
one_of n (Some (DpbEntry m) ∷ base) zero h = or_left (eqb m n) (lists n base) (or_false (eqb m n) false refl h)
one_of n (None ∷ base) (suc k) h = one_of n base k h
one_of n (Some CurrentPicture ∷ base) (suc k) h = one_of n base k h
one_of n (Some (DpbEntry m) ∷ base) (suc k) h = or_right (eqb m n) (lists n base) (one_of n base k h)

all_of : (n : ℕ) (base : List (Option RefPicListEntry)) (at : ℕ → ℕ) (is : List ℕ)
    → lists n (map (λ i. get_or base (at i) None) is) ≡ true → lists n base ≡ true
all_of n base at [] h = absurd (cc h)
all_of n base at (i ∷ is) h =
    ⊎_elim (λ here. one_of n base (at i) here) (λ there. all_of n base at is there)
    (or_cases (lists n (get_or base (at i) None ∷ [])) (lists n (map (λ j. get_or base (at j) None) is))
    (sym (lists_append n (get_or base (at i) None ∷ []) (map (λ j. get_or base (at j) None) is)) ∙ h))

places_of : (n : ℕ) (rule : ListRule) (base : List (Option RefPicListEntry))
    → lists n (list_places rule base) ≡ true → lists n base ≡ true
places_of n rule base h =
    all_of n base (λ i. entry_index rule.list_entry i % length base) (numbers_below rule.num_ref_idx_active) h

front_of : (n k : ℕ) (xs : List (Option RefPicListEntry)) → lists n (take k xs) ≡ true → lists n xs ≡ true
front_of n zero xs h = absurd (cc h)
front_of n (suc k) [] h = h
front_of n (suc k) (None ∷ xs) h = front_of n k xs h
front_of n (suc k) (Some CurrentPicture ∷ xs) h = front_of n k xs h
front_of n (suc k) (Some (DpbEntry m) ∷ xs) h = ⊎_elim (λ a. or_left (eqb m n) (lists n xs) a)
    (λ a. or_right (eqb m n) (lists n xs) (front_of n k xs a)) (or_cases (eqb m n) (lists n (take k xs)) h)

current_by : (b : Bool) (n k : ℕ) (xs : List (Option RefPicListEntry))
    → lists n (cond b (take k xs ++ Some CurrentPicture ∷ []) xs) ≡ true → lists n xs ≡ true
current_by true n k xs h =
    front_of n k xs
    (or_false (lists n (take k xs)) false refl (sym (lists_append n (take k xs) (Some CurrentPicture ∷ [])) ∙ h))
current_by false n k xs h = h

five : (a b c d e : Bool) → (a || b || d) ≡ true → (a || b || c || d || e) ≡ true
five true b c d e h = refl
five false true c d e h = refl
five false false true d e h = refl
five false false false true e h = refl
five false false false false e h = absurd (cc h)

swap : (a b d : Bool) → (b || a || d) ≡ true → (a || b || d) ≡ true
swap true b d h = refl
swap false true d h = refl
swap false false d h = h

-- members of three lists are members of the set
three_named : (n : ℕ) (set : RefPicSet)
    → names n (set.st_curr_before ++ set.st_curr_after ++ set.lt_curr) ≡ true → names n (all_members set) ≡ true
three_named n set h =
    let k : (names n set.st_curr_before || names n set.st_curr_after || names n set.lt_curr) ≡ true =
    sym (simp names_append) ∙ h in
    simp names_append (five (names n set.st_curr_before) (names n set.st_curr_after) (names n set.st_foll)
    (names n set.lt_curr) (names n set.lt_foll) k)

swapped : (n : ℕ) (set : RefPicSet)
    → names n (set.st_curr_after ++ set.st_curr_before ++ set.lt_curr) ≡ true
    → names n (set.st_curr_before ++ set.st_curr_after ++ set.lt_curr) ≡ true
swapped n set h = let k : (names n set.st_curr_after || names n set.st_curr_before || names n set.lt_curr)
    ≡ true = sym (simp names_append) ∙ h in
    simp names_append (swap (names n set.st_curr_before) (names n set.st_curr_after) (names n set.lt_curr) k)

list0_by : (t : SliceType) (set : RefPicSet) (s : Slice) (n : ℕ) → lists n (list0_for t set s) ≡ true
    → names n (all_members set) ≡ true
list0_by I set s n h = absurd (cc h)
list0_by P set s n h =
    three_named n set
    (base_names n (set.st_curr_before ++ set.st_curr_after ++ set.lt_curr) s
    (places_of n s.list0 (base0 set s)
    (current_by _ n (s.list0.num_ref_idx_active - 1) (list_places s.list0 (base0 set s)) h)))
list0_by B set s n h =
    three_named n set
    (base_names n (set.st_curr_before ++ set.st_curr_after ++ set.lt_curr) s
    (places_of n s.list0 (base0 set s)
    (current_by _ n (s.list0.num_ref_idx_active - 1) (list_places s.list0 (base0 set s)) h)))

list1_by : (t : SliceType) (set : RefPicSet) (s : Slice) (n : ℕ) → lists n (list1_for t set s) ≡ true
    → names n (all_members set) ≡ true
list1_by I set s n h = absurd (cc h)
list1_by P set s n h = absurd (cc h)
list1_by B set s n h =
    three_named n set
    (swapped n set
    (base_names n (set.st_curr_after ++ set.st_curr_before ++ set.lt_curr) s (places_of n s.list1 (base1 set s) h)))

pub list0_named : (set : RefPicSet) (s : Slice) (n : ℕ) → lists n (ref_pic_list0 set s) ≡ true
    → names n (all_members set) ≡ true
unfolding ref_pic_list0
list0_named set s n h = list0_by s.slice_type set s n h

pub list1_named : (set : RefPicSet) (s : Slice) (n : ℕ) → lists n (ref_pic_list1 set s) ≡ true
    → names n (all_members set) ≡ true
unfolding ref_pic_list1
list1_named set s n h = list1_by s.slice_type set s n h
