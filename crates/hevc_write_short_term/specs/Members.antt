-- The members of a short-term reference picture set, and what another set's row 5 says of them (7.4.8).
use Rattle.std.specs.Prelude.{◌≡◌, ℕ, ℤ, pos, ◌+ℤ◌, Bool, true, false, List, [], ◌∷◌, ◌++◌, take}
use Rattle.std.specs.Prelude.{slice_index_or, if◌then◌else◌, Option, Some, None}
use Rattle.std.specs.Ordering.{int_eq}
use Rattle.hevc_records.specs.ShortTermRefPicSet.{PlainShortTermRefPicSet}
use Rattle.hevc_records.specs.ShortTermRefPicSet.{default_short_term_ref_pic_set}
use Rattle.hevc_tables.specs.declared.member_flags.MemberFlags.{MemberFlags}
use Rattle.hevc_tables.specs.declared.short_term_member.ShortTermMember.{ShortTermMember}
use Rattle.hevc_tables.specs.ShortTermTable.{differences, reference_index, shift_of}

-- ---- the members of a set

-- the members of these differences, each used or not
abbrev pub members_from : List ℤ → List Bool → List ShortTermMember
members_from [] used = []
members_from (d ∷ ds) [] = []
members_from (d ∷ ds) (u ∷ us) =
    record { delta_poc = d; used_by_curr_pic = u } ∷ members_from ds us

-- the members before the current picture, nearest first
abbrev pub before_of : PlainShortTermRefPicSet → List ShortTermMember
before_of x = members_from (take x.num_negative_pics x.delta_poc_s0)
    (take x.num_negative_pics x.used_by_curr_pic_s0)

-- the members after the current picture, nearest first
abbrev pub after_of : PlainShortTermRefPicSet → List ShortTermMember
after_of x = members_from (take x.num_positive_pics x.delta_poc_s1)
    (take x.num_positive_pics x.used_by_curr_pic_s1)

abbrev pub members_of : PlainShortTermRefPicSet → List ShortTermMember
members_of x = before_of x ++ after_of x

-- ---- the flags of row 5 that are written: used and kept as the new set says

-- whether the member of this difference is used, if there is one
abbrev pub use_of : ℤ → List ShortTermMember → Option Bool
use_of d [] = None
use_of d (m ∷ ms) = if int_eq m.delta_poc d then Some m.used_by_curr_pic else use_of d ms

-- both flags are 0 where there is no member
abbrev pub flags_of : Option Bool → MemberFlags
flags_of None = record { used_by_curr_pic_flag = false; use_delta_flag = false }
flags_of (Some used) = record { used_by_curr_pic_flag = used; use_delta_flag = true }

-- the flags for these differences, of a set with these members
abbrev pub chosen_flags : ℤ → List ℤ → List ShortTermMember → List MemberFlags
chosen_flags shift [] members = []
chosen_flags shift (d ∷ ds) members =
    flags_of (use_of (d +ℤ shift) members) ∷ chosen_flags shift ds members

-- use_delta_flag is there where used_by_curr_pic_flag is 0 (7.3.7)
abbrev pub flag_bits : List MemberFlags → List Bool
flag_bits [] = []
flag_bits (f ∷ fs) =
    f.used_by_curr_pic_flag
    ∷ (if f.used_by_curr_pic_flag then [] else f.use_delta_flag ∷ []) ++ flag_bits fs

-- these flags are added
abbrev pub WritesFlags : List MemberFlags → List Bool → List Bool → Type 0
WritesFlags flags old new = new ≡ old ++ flag_bits flags

-- the flags of a set by its number: for the differences of the set before it that predicts it, and
-- for that set's own picture
abbrev pub flags_of_set : List PlainShortTermRefPicSet → ℕ → PlainShortTermRefPicSet
    → List MemberFlags
flags_of_set sets st_rps_idx x =
    let other : PlainShortTermRefPicSet =
    slice_index_or sets (reference_index st_rps_idx x) default_short_term_ref_pic_set in
    chosen_flags (shift_of x) (differences other ++ pos 0 ∷ []) (members_of x)

-- what was written ends in these flags
abbrev pub EndsInFlags : List MemberFlags → List Bool → Type 0
EndsInFlags flags new = (front : List Bool) × WritesFlags flags front new

-- ---- the elements that rows 2 to 12 set: all of one record

abbrev pub whole : PlainShortTermRefPicSet → PlainShortTermRefPicSet → PlainShortTermRefPicSet
whole from x = from
