-- Short-term reference picture sets (7.3.7, table 7).
use Rattle.std.specs.Prelude.{ℕ, ◌+◌, ◌-◌, ℤ, pos, negsuc, neg_ℤ, ◌+ℤ◌, ◌-ℤ◌, int_le, int_lt}
use Rattle.std.specs.Prelude.{nat_le, ◌==◌, Bool, true, false, not, ◌&&◌, if◌then◌else◌, List, []}
use Rattle.std.specs.Prelude.{◌∷◌, ◌++◌, length, take, map, filter, reverse, replicate}
use Rattle.std.specs.Prelude.{slice_index_or}
use Rattle.std.specs.List.{list_all}
use Rattle.std.specs.Ordering.{int_eq}
use Rattle.hevc_spec.specs.Table.{Table, done, ◌>>=◌}
use Rattle.hevc_spec.specs.Rows.{row, flag_row, ue_row, check_row, when, either, repeat}
use Rattle.hevc_records.specs.ShortTermRefPicSet.{PlainShortTermRefPicSet}
use Rattle.hevc_records.specs.ShortTermRefPicSet.{default_short_term_ref_pic_set}
use Rattle.hevc_tables.specs.declared.member_flags.MemberFlags.{MemberFlags}
use Rattle.hevc_tables.specs.declared.short_term_member.ShortTermMember.{ShortTermMember}

-- ---- sets and their members (7.4.8)

-- the differences of members
abbrev pub deltas : List ShortTermMember → List ℤ
deltas ms = map (λ m. m.delta_poc) ms

-- which of them the current picture may refer to
abbrev pub used : List ShortTermMember → List Bool
used ms = map (λ m. m.used_by_curr_pic) ms

-- an array of 16 that begins with the list
abbrev pub array_of : {A : Type 0} → A → List A → List A
array_of empty xs = xs ++ replicate (16 - length xs) empty

-- the set has these members, those before the current picture and those after it;
-- its counts are theirs (7-63 to 7-71)
unfoldable pub with_members : PlainShortTermRefPicSet → List ShortTermMember → List ShortTermMember
    → PlainShortTermRefPicSet
with_members set before after = record set {
  num_negative_pics = length before;
  num_positive_pics = length after;
  delta_poc_s0 = array_of (pos 0) (deltas before);
  used_by_curr_pic_s0 = array_of false (used before);
  delta_poc_s1 = array_of (pos 0) (deltas after);
  used_by_curr_pic_s1 = array_of false (used after);
  num_delta_pocs = length before + length after;
}

-- the differences of a set's members, those before the current picture first
unfoldable pub differences : PlainShortTermRefPicSet → List ℤ
differences s = take s.num_negative_pics s.delta_poc_s0 ++ take s.num_positive_pics s.delta_poc_s1

-- ---- predicted sets (7.4.8)

-- a difference with the shift added: a member where its use_delta_flag is set and the sum isn't 0,
-- which is the current picture
unfoldable pub shifted_one : ℤ → ℤ → MemberFlags → List ShortTermMember
shifted_one shift difference f =
    if f.use_delta_flag && not (int_eq (difference +ℤ shift) (pos 0))
    then record { delta_poc = difference +ℤ shift; used_by_curr_pic = f.used_by_curr_pic_flag } ∷ []
    else []

-- the members that differences with their flags give
unfoldable pub shifted : ℤ → List ℤ → List MemberFlags → List ShortTermMember
shifted shift [] flags = []
shifted shift (difference ∷ rest) [] = []
shifted shift (difference ∷ rest) (f ∷ flags) =
    shifted_one shift difference f ++ shifted shift rest flags

-- a member put before those that lie above it
abbrev pub insert_rising : ShortTermMember → List ShortTermMember → List ShortTermMember
insert_rising m [] = m ∷ []
insert_rising m (n ∷ ns) =
    if int_lt m.delta_poc n.delta_poc then m ∷ n ∷ ns else n ∷ insert_rising m ns

-- members in rising order of their differences
unfoldable pub rising : List ShortTermMember → List ShortTermMember
rising [] = []
rising (m ∷ ms) = insert_rising m (rising ms)

-- The members of a set that is predicted from another, in rising
-- order: those that the other set's differences give, and 0 as the
-- last of these, which stands for the picture of the other set itself.
unfoldable pub predicted_members : PlainShortTermRefPicSet → ℤ → List MemberFlags
    → List ShortTermMember
predicted_members other shift flags = rising (shifted shift (differences other ++ pos 0 ∷ []) flags)

-- the members before the current picture, in falling order (7-61)
unfoldable pub members_before : List ShortTermMember → List ShortTermMember
members_before ms = reverse (filter (λ m. int_lt m.delta_poc (pos 0)) ms)

-- the members after the current picture, in rising order (7-62)
unfoldable pub members_after : List ShortTermMember → List ShortTermMember
members_after ms = filter (λ m. int_lt (pos 0) m.delta_poc) ms

-- a difference is one of 32 bits
abbrev pub is_i32 : ℤ → Bool
is_i32 d = int_le (negsuc 2147483647) d && int_le d (pos 2147483647)

-- row 6: at most 16 members, each difference of 32 bits
unfoldable pub has_room : List ShortTermMember → Bool
has_room ms = nat_le (length ms) 16 && list_all is_i32 (deltas ms)

-- rows 2 to 4 (7.3.7): from which set, and with which shift; the number of the set, and that of the
-- sequence parameter set's sets
unfoldable pub prediction : ℕ → ℕ → PlainShortTermRefPicSet → Table PlainShortTermRefPicSet
prediction num_short_term_ref_pic_sets st_rps_idx set = do
  let set = record set {
    delta_idx_minus1 =
        (← when (st_rps_idx == num_short_term_ref_pic_sets) 0
        (ue_row (row 7 2) 0 (st_rps_idx - 1)));
  }
  let set = record set { delta_rps_sign = (← flag_row (row 7 3)) }
  let set = record set { abs_delta_rps_minus1 = (← ue_row (row 7 4) 0 32767) }
  done set

-- RefRpsIdx (7-59)
abbrev pub reference_index : ℕ → PlainShortTermRefPicSet → ℕ
reference_index st_rps_idx set = st_rps_idx - 1 - set.delta_idx_minus1

-- deltaRps (7-60)
unfoldable pub shift_of : PlainShortTermRefPicSet → ℤ
shift_of set =
    if set.delta_rps_sign then neg_ℤ (pos (set.abs_delta_rps_minus1 + 1))
    else pos (set.abs_delta_rps_minus1 + 1)

-- row 5 of one member (7.3.7); use_delta_flag is 1 where it is absent
unfoldable pub member_flags : Table MemberFlags
member_flags = do
  used_by_curr_pic_flag ← flag_row (row 7 5)
  use_delta_flag ← when (not used_by_curr_pic_flag) true (flag_row (row 7 5))
  done (record { used_by_curr_pic_flag = used_by_curr_pic_flag; use_delta_flag = use_delta_flag })

unfoldable pub next_member_flags : ℕ → List MemberFlags → Table (List MemberFlags)
next_member_flags j flags = do
  f ← member_flags
  done (flags ++ f ∷ [])

-- row 5 for each j from 0 to NumDeltaPocs of the other set
unfoldable pub all_member_flags : ℕ → Table (List MemberFlags)
all_member_flags num_delta_pocs = repeat next_member_flags 0 (num_delta_pocs + 1) []

-- row 6, and the set with these members
unfoldable pub fitting_set : List ShortTermMember → PlainShortTermRefPicSet
    → Table PlainShortTermRefPicSet
fitting_set members set = do
  _ ← check_row (row 7 6) (has_room members)
  done (with_members set (members_before members) (members_after members))

-- rows 2 to 6 (7.3.7)
unfoldable pub predicted_set : List PlainShortTermRefPicSet → ℕ → ℕ → PlainShortTermRefPicSet
    → Table PlainShortTermRefPicSet
predicted_set sets num_short_term_ref_pic_sets st_rps_idx set = do
  set ← prediction num_short_term_ref_pic_sets st_rps_idx set
  let other : PlainShortTermRefPicSet =
      slice_index_or sets (reference_index st_rps_idx set) default_short_term_ref_pic_set
  flags ← all_member_flags other.num_delta_pocs
  fitting_set (predicted_members other (shift_of set) flags) set

-- ---- sets whose members are written out

-- the difference of the last member, else 0
abbrev pub last_delta : List ShortTermMember → ℤ
last_delta [] = pos 0
last_delta (m ∷ []) = m.delta_poc
last_delta (m ∷ n ∷ ms) = last_delta (n ∷ ms)

-- rows 9 and 10 of one member, after a difference (7-65, 7-67, 7-69)
unfoldable pub member_before : ℤ → Table ShortTermMember
member_before last = do
  delta_poc_s0_minus1 ← ue_row (row 7 9) 0 32767
  used_by_curr_pic_s0_flag ← flag_row (row 7 10)
  done (record {
    delta_poc = last -ℤ pos (delta_poc_s0_minus1 + 1);
    used_by_curr_pic = used_by_curr_pic_s0_flag;
  })

unfoldable pub next_member_before : ℕ → List ShortTermMember → Table (List ShortTermMember)
next_member_before i ms = do
  m ← member_before (last_delta ms)
  done (ms ++ m ∷ [])

-- rows 11 and 12 of one member, after a difference (7-66, 7-68, 7-70)
unfoldable pub member_after : ℤ → Table ShortTermMember
member_after last = do
  delta_poc_s1_minus1 ← ue_row (row 7 11) 0 32767
  used_by_curr_pic_s1_flag ← flag_row (row 7 12)
  done (record {
    delta_poc = last +ℤ pos (delta_poc_s1_minus1 + 1);
    used_by_curr_pic = used_by_curr_pic_s1_flag;
  })

unfoldable pub next_member_after : ℕ → List ShortTermMember → Table (List ShortTermMember)
next_member_after i ms = do
  m ← member_after (last_delta ms)
  done (ms ++ m ∷ [])

-- rows 9 and 10
unfoldable pub listed_before : ℕ → Table (List ShortTermMember)
listed_before num_negative_pics = repeat next_member_before 0 num_negative_pics []

-- rows 11 and 12
unfoldable pub listed_after : ℕ → Table (List ShortTermMember)
listed_after num_positive_pics = repeat next_member_after 0 num_positive_pics []

-- rows 7 to 12 (7.3.7), where sps_max_dec_pic_buffering_minus1
-- of the highest sub-layer bounds the members
unfoldable pub listed_set : ℕ → PlainShortTermRefPicSet → Table PlainShortTermRefPicSet
listed_set max_dec_pic_buffering_minus1 set = do
  num_negative_pics ← ue_row (row 7 7) 0 max_dec_pic_buffering_minus1
  num_positive_pics ← ue_row (row 7 8) 0 (max_dec_pic_buffering_minus1 - num_negative_pics)
  before ← listed_before num_negative_pics
  after ← listed_after num_positive_pics
  done (with_members set before after)

-- ---- the table

-- Table 7 (7.3.7): the sets before, their number in the sequence parameter set,
-- sps_max_dec_pic_buffering_minus1 of the highest sub-layer, and the number of the set
unfoldable pub short_term_ref_pic_set : List PlainShortTermRefPicSet → ℕ → ℕ → ℕ
    → Table PlainShortTermRefPicSet
short_term_ref_pic_set sets num_short_term_ref_pic_sets max_dec_pic_buffering_minus1 st_rps_idx = do
  let set = record default_short_term_ref_pic_set {
    inter_ref_pic_set_prediction_flag = (← when (not (st_rps_idx == 0)) false (flag_row (row 7 1)));
  }
  either set.inter_ref_pic_set_prediction_flag
      (predicted_set sets num_short_term_ref_pic_sets st_rps_idx set)
      (listed_set max_dec_pic_buffering_minus1 set)
