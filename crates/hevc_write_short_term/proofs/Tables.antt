-- The parts of table 7, filled in.
use Rattle.std.proofs.Common.{◌≡◌, ℕ, zero, suc, ◌+◌, ◌<◌, ◌≤◌, Bool, true, false, List, [], ◌∷◌}
use Rattle.std.proofs.Common.{◌++◌, length, take, get_or, refl, sym, ap, subst, ◌∙◌, arith, inl}
use Rattle.std.proofs.Common.{inr, append-nil, append_assoc}
use Rattle.std.specs.Prelude.{Option, Some, None, if◌then◌else◌, ℤ, pos, ◌+ℤ◌, ◌-◌, slice_index_or, not, ◌==◌}
use Rattle.hevc_spec.specs.Table.{Table, part, done}
use Rattle.hevc_spec.specs.Rows.{row, flag_row, repeat, when}
use Rattle.hevc_spec.specs.Lines.{Line, HasLines, AreGood}
use Rattle.hevc_records.specs.ShortTermRefPicSet.{PlainShortTermRefPicSet, default_short_term_ref_pic_set}
use Rattle.hevc_tables.specs.declared.member_flags.MemberFlags.{MemberFlags}
use Rattle.hevc_tables.specs.declared.short_term_member.ShortTermMember.{ShortTermMember}
use Rattle.hevc_tables.specs.ShortTermTable.{last_delta, member_before, next_member_before}
use Rattle.hevc_tables.specs.ShortTermTable.{member_after, next_member_after, listed_before}
use Rattle.hevc_tables.specs.ShortTermTable.{listed_after, listed_set, member_flags}
use Rattle.hevc_tables.specs.ShortTermTable.{next_member_flags, all_member_flags, fitting_set}
use Rattle.hevc_tables.specs.ShortTermTable.{prediction, predicted_set, short_term_ref_pic_set}
use Rattle.hevc_tables.specs.ShortTermTable.{with_members, rising, shifted, differences, shift_of}
use Rattle.hevc_tables.specs.ShortTermTable.{reference_index, members_before, members_after}
use Rattle.hevc_tables.specs.ShortTermTable.{has_room, predicted_members}
use Rattle.hevc_spec.specs.Bits.{u}
use Rattle.hevc_write_elements.specs.Choices.{IsFormed, IsFilled, is_chosen, set_flags}
use Rattle.hevc_write_elements.specs.Filling.{EachFilling, Keeps, WritesTable, WritesTurn, WritesTurns, are_first}
use Rattle.hevc_write_elements.proofs.Fillings.{weakened, then_filled, done_filled, instead_filled}
use Rattle.hevc_write_elements.proofs.RowRules.{check_held}
use Rattle.hevc_write_elements.proofs.Steps.{IsFillable, filled, IsDecided, numbers, flags}
use Rattle.hevc_write_elements.proofs.Steps.{integers, lists_decided, both_decided, flag_fillable}
use Rattle.hevc_write_elements.proofs.Steps.{ue_fillable, when_fillable, pairs, either_kept}
use Rattle.hevc_write_elements.proofs.Growing.{item_written, items_written, items_fillable, grows}
use Rattle.hevc_write_elements.proofs.Counting.{set_flags-append, one_line, no_lines}
use Rattle.hevc_write_elements.proofs.Forming.{done_formed, part_formed, flag_formed}
use Rattle.hevc_write_short_term.specs.Members.{members_of, use_of, flags_of, chosen_flags, flag_bits, WritesFlags}
use Rattle.hevc_write_short_term.proofs.Chosen.{Distinct, sides_of, one_set, all_set, chosen_give_the_same}
use Rattle.hevc_write_short_term.proofs.MemberLists.{members_same, chosen-length, bits_append}

-- ---- members that are written out

-- two members are the same or not
pub members_decided : (a b : ShortTermMember) → IsDecided a b
members_decided a b = both_decided (λ (m : ShortTermMember). m.delta_poc)
    (λ m. m.used_by_curr_pic) make (integers a.delta_poc b.delta_poc) (flags a.used_by_curr_pic b.used_by_curr_pic)
  where
    make : a.delta_poc ≡ b.delta_poc → a.used_by_curr_pic ≡ b.used_by_curr_pic → a ≡ b
    make p q = λ i. record { delta_poc = p i; used_by_curr_pic = q i }

-- there are always lines of member before to write
before_fillable : (i : ℕ) (ms : List ShortTermMember) → IsFillable (member_before (last_delta ms))
unfolding member_before
before_fillable i ms = record {
  fill = λ w. then_filled (filled (ue_fillable (row 7 9) refl 0 32767)
      (λ v all. then_filled (filled (flag_fillable (row 7 10) refl) (λ v2 more. done_filled tt))));
}

-- there are always lines of member after to write
after_fillable : (i : ℕ) (ms : List ShortTermMember) → IsFillable (member_after (last_delta ms))
unfolding member_after
after_fillable i ms = record {
  fill = λ w. then_filled (filled (ue_fillable (row 7 11) refl 0 32767)
      (λ v all. then_filled (filled (flag_fillable (row 7 12) refl) (λ v2 more. done_filled tt))));
}

-- one member before the current picture is written
pub before_written : (ms : List ShortTermMember) (i : ℕ) (d : ShortTermMember) {old new : List Bool}
    → i < length ms → WritesTable (member_before (last_delta (take i ms))) (get_or ms i d) old new
    → WritesTurn next_member_before (are_first ms) i old new
unfolding next_member_before
before_written ms i d lt writes =
    item_written (λ i ms. member_before (last_delta ms)) before_fillable ms i d
    (lists_decided members_decided) lt writes

-- one after it is
pub after_written : (ms : List ShortTermMember) (i : ℕ) (d : ShortTermMember) {old new : List Bool}
    → i < length ms → WritesTable (member_after (last_delta (take i ms))) (get_or ms i d) old new
    → WritesTurn next_member_after (are_first ms) i old new
unfolding next_member_after
after_written ms i d lt writes =
    item_written (λ i ms. member_after (last_delta ms)) after_fillable ms i d (lists_decided members_decided) lt writes

-- the whole of it is written once all its turns are
pub listed_before_written : (ms : List ShortTermMember) (n count : ℕ) {old new : List Bool}
    → WritesTurns next_member_before (are_first ms) n old new → n ≡ length ms
    → WritesTable (listed_before count) ms old new
unfolding listed_before next_member_before
listed_before_written ms n count turns e =
    items_written (λ i ms. member_before (last_delta ms)) before_fillable ms n count turns e

-- the whole of it is written once all its turns are
pub listed_after_written : (ms : List ShortTermMember) (n count : ℕ) {old new : List Bool}
    → WritesTurns next_member_after (are_first ms) n old new → n ≡ length ms
    → WritesTable (listed_after count) ms old new
unfolding listed_after next_member_after
listed_after_written ms n count turns e =
    items_written (λ i ms. member_after (last_delta ms)) after_fillable ms n count turns e

-- there are always lines of listed before to write
pub listed_before_fillable : (n : ℕ) → IsFillable (listed_before n)
unfolding listed_before next_member_before
listed_before_fillable n = items_fillable (λ i ms. member_before (last_delta ms)) before_fillable n

-- there are always lines of listed after to write
pub listed_after_fillable : (n : ℕ) → IsFillable (listed_after n)
unfolding listed_after next_member_after
listed_after_fillable n = items_fillable (λ i ms. member_after (last_delta ms)) after_fillable n

-- as many members before it as were told
pub listed_before_long : (n : ℕ) (w : List Bool) → EachFilling (listed_before n) w (λ ms _. length ms ≡ n)
unfolding listed_before next_member_before
listed_before_long n w = weakened (grows (λ i ms. member_before (last_delta ms)) before_fillable 0 n [] w)
    (λ ms all long. omega (arith, long))

-- as many after it
pub listed_after_long : (n : ℕ) (w : List Bool) → EachFilling (listed_after n) w (λ ms _. length ms ≡ n)
unfolding listed_after next_member_after
listed_after_long n w = weakened (grows (λ i ms. member_after (last_delta ms)) after_fillable 0 n [] w)
    (λ ms all long. omega (arith, long))

-- ---- row 5

-- there are always lines of member flags to write
flags_fillable : (i : ℕ) (fs : List MemberFlags) → IsFillable member_flags
unfolding member_flags
flags_fillable i fs = record {
  fill = λ w. then_filled (filled (flag_fillable (row 7 5) refl)
      (λ v all. then_filled (filled (when_fillable (not v) true (flag_fillable (row 7 5) refl))
      (λ v2 more. done_filled tt))));
}

-- there are always lines of all member flags to write
pub all_flags_fillable : (n : ℕ) → IsFillable (all_member_flags n)
unfolding all_member_flags next_member_flags
all_flags_fillable n = items_fillable (λ i fs. member_flags) flags_fillable (n + 1)

-- flags for each member of the other set, and one
all_flags_long : (n : ℕ) (w : List Bool) → EachFilling (all_member_flags n) w (λ fs _. length fs ≡ n + 1)
unfolding all_member_flags next_member_flags
all_flags_long n w = weakened (grows (λ i fs. member_flags) flags_fillable 0 (n + 1) [] w)
    (λ fs all long. omega (arith, long))

-- a member is kept where it is used
abbrev pub IsUsable : MemberFlags → Type 0
IsUsable f = f.used_by_curr_pic_flag ≡ true → f.use_delta_flag ≡ true

abbrev pub AreUsable : List MemberFlags → Type 0
AreUsable [] = Unit {0}
AreUsable (f ∷ fs) = IsUsable f × AreUsable fs

-- chosen flags can be written
pub chosen_usable : (shift : ℤ) (ds : List ℤ) (ms : List ShortTermMember) → AreUsable (chosen_flags shift ds ms)
chosen_usable shift [] ms = tt
chosen_usable shift (d ∷ ds) ms = (by_use (use_of (d +ℤ shift) ms), chosen_usable shift ds ms)
  where
    by_use : (o : Option Bool) → IsUsable (flags_of o)
    by_use None e = e
    by_use (Some used) e = refl

-- the flags of one member are written
one_formed : (f : MemberFlags) → IsUsable f → IsFormed member_flags f (flag_bits (f ∷ []))
unfolding member_flags when is_chosen
one_formed f usable = by_flags f.used_by_curr_pic_flag f.use_delta_flag usable
  where
    by_flags : (b d : Bool) → (b ≡ true → d ≡ true)
        → IsFormed member_flags (record { used_by_curr_pic_flag = b; use_delta_flag = d })
        (flag_bits (record { used_by_curr_pic_flag = b; use_delta_flag = d } ∷ []))
    by_flags true d h =
        rw (h refl) (part_formed (flag_formed (row 7 5) true refl)
        (part_formed (done_formed true) (done_formed (record { used_by_curr_pic_flag = true; use_delta_flag = true }))))
    by_flags false d h =
        part_formed (flag_formed (row 7 5) false refl)
        (part_formed (flag_formed (row 7 5) d (by_flag d))
        (done_formed (record { used_by_curr_pic_flag = false; use_delta_flag = d })))
      where
        by_flag : (b : Bool) → is_chosen (row 7 5) (u 1) (if b then 1 else 0) ≡ true
        by_flag true = refl
        by_flag false = refl

-- so are those of so many
flags_formed : (i : ℕ) (ys fs : List MemberFlags) → AreUsable fs
    → IsFormed (repeat next_member_flags i (length fs) ys) (ys ++ fs) (flag_bits fs)
unfolding repeat next_member_flags
flags_formed i ys [] usable =
    subst (λ (zs : List MemberFlags). IsFormed (done ys) zs []) (sym (append-nil ys)) (done_formed ys)
flags_formed i ys (f ∷ fs) usable =
    let first = part_formed {t = member_flags} {k = λ g. done (ys ++ g ∷ [])} (one_formed f usable.0)
    (done_formed (ys ++ f ∷ [])) in
    let all = part_formed {k = λ next. repeat next_member_flags (i + 1) (length fs) next} first
    (flags_formed (i + 1) (ys ++ f ∷ []) fs usable.1) in
    let value : (ys ++ f ∷ []) ++ fs ≡ ys ++ f ∷ fs = append_assoc ys (f ∷ []) fs in
    let bits : (flag_bits (f ∷ []) ++ []) ++ flag_bits fs ≡ flag_bits (f ∷ fs) =
    ap (λ (b : List Bool). b ++ flag_bits fs) (append-nil (flag_bits (f ∷ []))) ∙ sym (bits_append (f ∷ []) fs) in
    subst (λ (b : List Bool). IsFormed (repeat next_member_flags i (suc (length fs)) ys) (ys ++ f ∷ fs) b) bits
    (subst (λ (zs : List MemberFlags). IsFormed (repeat next_member_flags i (suc (length fs)) ys) zs
    ((flag_bits (f ∷ []) ++ []) ++ flag_bits fs)) value all)

-- so are all
all_flags_formed : (n : ℕ) (fs : List MemberFlags) → AreUsable fs → length fs ≡ n + 1
    → IsFormed (all_member_flags n) fs (flag_bits fs)
unfolding all_member_flags
all_flags_formed n fs usable long =
    subst (λ (k : ℕ). IsFormed (repeat next_member_flags 0 k []) fs (flag_bits fs)) long (flags_formed 0 [] fs usable)

-- ---- how many flags are set

-- a flag that is set counts
flag_counted : (b : Bool) (lines : List Line) → HasLines (flag_row (row 7 5)) b lines
    → set_flags lines ≡ (if b then 1 else 0)
unfolding flag_row
flag_counted b lines has =
    one_line _ lines has.3 ∙ ap (λ (t : Bool). if t then 1 else 0) has.2

-- the flags of a member count
one_counted : (f : MemberFlags) (lines : List Line) → HasLines member_flags f lines → set_flags lines ≡ one_set f
unfolding member_flags when
one_counted f lines has = by_used has.0 has.1 has.2 (flag_counted has.0 has.1 has.3) has.4 has.5
  where
    by_used : (b : Bool) (first others : List Line) → set_flags first ≡ (if b then 1 else 0)
        → HasLines (part (when (not b) true (flag_row (row 7 5)))
        (λ d. done (record { used_by_curr_pic_flag = b; use_delta_flag = d }))) f others
        → lines ≡ first ++ others → set_flags lines ≡ one_set f
    by_used true first others count has e =
        omega (
          arith,
          count,
          ap set_flags e,
          set_flags-append first others,
          ap set_flags has.5,
          set_flags-append has.1 has.2,
          no_lines has.1 has.3.1,
          no_lines has.2 has.4.1,
          ap one_set has.4.0,
        )
    by_used false first others count has e =
        omega (
          arith,
          count,
          ap set_flags e,
          set_flags-append first others,
          ap set_flags has.5,
          set_flags-append has.1 has.2,
          flag_counted has.0 has.1 has.3,
          no_lines has.2 has.4.1,
          ap one_set has.4.0,
        )

-- flags of two lists add up
all_set-append : (fs gs : List MemberFlags) → all_set (fs ++ gs) ≡ all_set fs + all_set gs
all_set-append [] gs = omega arith
all_set-append (f ∷ fs) gs = omega (arith, all_set-append fs gs)

-- so do those of turns
turns_counted : (i n : ℕ) (ys fs : List MemberFlags) (lines : List Line)
    → HasLines (repeat next_member_flags i n ys) fs lines → all_set ys + set_flags lines ≡ all_set fs
unfolding repeat next_member_flags
turns_counted i zero ys fs lines has = omega (arith, ap all_set has.0, no_lines lines has.1)
turns_counted i (suc n) ys fs lines has =
    let turn = has.3 in
    omega (
      arith,
      turns_counted (i + 1) n has.0 fs has.2 has.4,
      one_counted turn.0 turn.1 turn.3,
      all_set-append ys (turn.0 ∷ []),
      ap all_set turn.4.0,
      ap set_flags turn.5,
      set_flags-append turn.1 turn.2,
      no_lines turn.2 turn.4.1,
      ap set_flags has.5,
      set_flags-append has.1 has.2,
    )

-- the count of lines is that of the flags
flags_counted : (n : ℕ) (fs : List MemberFlags) (lines : List Line) → HasLines (all_member_flags n) fs lines
    → set_flags lines ≡ all_set fs
unfolding all_member_flags
flags_counted n fs lines has = omega (arith, turns_counted 0 (n + 1) [] fs lines has)

-- ---- row 6

-- row 6 has no bits, and the set has its members
fitting_filled : (ms : List ShortTermMember)
    (set : PlainShortTermRefPicSet) {w : List Bool} {Q : PlainShortTermRefPicSet → List Bool → Type 0}
    → Q (with_members set (members_before ms) (members_after ms)) w → EachFilling (fitting_set ms set) w Q
unfolding fitting_set
fitting_filled ms set q = then_filled (check_held (row 7 6) (has_room ms) (λ _. done_filled q))

-- ---- a predicted set

-- rows 5 and 6, from the differences of the other set and the shift
abbrev rows_five : ℕ → ℤ → List ℤ → PlainShortTermRefPicSet → Table PlainShortTermRefPicSet
rows_five n shift ds set =
    part (all_member_flags n) (λ flags. fitting_set (rising (shifted shift (ds ++ pos 0 ∷ []) flags)) set)

-- there are always flags to write
rows_five_fillable : (n : ℕ) (shift : ℤ) (ds : List ℤ) (set : PlainShortTermRefPicSet)
    (w : List Bool) {Q : PlainShortTermRefPicSet → List Bool → Type 0}
    → ((before after : List ShortTermMember) (all : List Bool) → Q (with_members set before after) all)
    → EachFilling (rows_five n shift ds set) w Q
rows_five_fillable n shift ds set w q =
    then_filled (filled (all_flags_fillable n) (λ flags all. fitting_filled _ set (q _ _ all)))

-- the chosen flags are written, and give the same set
rows_five_written : (x set : PlainShortTermRefPicSet) (n : ℕ) (shift : ℤ) (ds : List ℤ)
    (w old new : List Bool) → Distinct (ds ++ pos 0 ∷ []) → length (ds ++ pos 0 ∷ []) ≡ n + 1
    → WritesFlags (chosen_flags shift (ds ++ pos 0 ∷ []) (members_of x)) old new
    → EachFilling (rows_five n shift ds set) w (λ z all. z ≡ x → w ≡ old → all ≡ new)
rows_five_written x set n shift ds w old new apart long writes =
    instead_filled (all_member_flags n) (λ flags. fitting_set (rising (shifted shift all_ds flags)) set) w
    (λ z all. z ≡ x → w ≡ old → all ≡ new) (λ flags lines has good.
    by_decision flags lines has good (lists_decided members_decided (sides_of shift all_ds flags) (members_of x)))
  where
    all_ds : List ℤ
    all_ds = ds ++ pos 0 ∷ []

    by_decision : (flags : List MemberFlags) (lines : List Line) → HasLines (all_member_flags n) flags lines
        → AreGood lines → IsDecided (sides_of shift all_ds flags) (members_of x)
        → (other : List MemberFlags) × (bits : List Bool) × IsFilled (all_member_flags n) other lines bits
        × ((z : PlainShortTermRefPicSet) (rest : List Line)
        → HasLines (fitting_set (rising (shifted shift all_ds flags)) set) z rest
        → HasLines (fitting_set (rising (shifted shift all_ds other)) set) z rest)
        × EachFilling (fitting_set (rising (shifted shift all_ds flags)) set) (w ++ bits) (λ z all. z ≡ x
        → w ≡ old → all ≡ new)
    by_decision flags lines has good (inl same) =
        let many : length flags ≡ n + 1 = ((all_flags_long n w).all flags lines has good).2 in
        let other = chosen_flags shift all_ds (members_of x) in
        let chosen = chosen_give_the_same shift all_ds flags apart (many ∙ sym long) in
        let gives : shifted shift all_ds other ≡ shifted shift all_ds flags =
        ap (λ (ms : List ShortTermMember). shifted shift all_ds (chosen_flags shift all_ds ms)) (sym same) ∙ chosen.0 in
        let formed =
        all_flags_formed n other (chosen_usable shift all_ds (members_of x))
        (chosen-length shift all_ds (members_of x) ∙ long) in
        let set_are = ap (λ (ms : List ShortTermMember). all_set (chosen_flags shift all_ds ms)) same in (
          other,
          flag_bits other,
          record {
            formed = formed;
            fewer = omega (
              arith,
              flags_counted n other formed.lines formed.has,
              flags_counted n flags lines has,
              set_are,
              chosen.1,
            );
          },
          (λ z rest h. subst (λ (ms : List ShortTermMember). HasLines (fitting_set (rising ms) set) z rest)
              (sym gives) h),
          fitting_filled _ set (λ e at. ap (λ (b : List Bool). b ++ flag_bits other) at ∙ sym writes),
        )
    by_decision flags lines has good (inr differ) =
        let own = ((all_flags_fillable n).fill w).all flags lines has good in (
          flags,
          own.0,
          own.1,
          (λ z rest h. h),
          fitting_filled _ set (λ e at. absurd (differ (sym (members_same set _ _) ∙ ap members_of e))),
        )

-- what the rows go by: the other set and the shift
abbrev key : PlainShortTermRefPicSet → PlainShortTermRefPicSet → ℕ × (ℤ × List ℤ)
key other set = (other.num_delta_pocs, (shift_of set, differences other))

module _ (sets : List PlainShortTermRefPicSet) (idx : ℕ) where
  abbrev pub other_of : PlainShortTermRefPicSet → PlainShortTermRefPicSet
  other_of set = slice_index_or sets (reference_index idx set) default_short_term_ref_pic_set

  abbrev pub rows_from_five : PlainShortTermRefPicSet → Table PlainShortTermRefPicSet
  rows_from_five set = rows_five (other_of set).num_delta_pocs (shift_of set) (differences (other_of set)) set

  -- so they are for the set that predicts this one
  pub members_written : (x set j : PlainShortTermRefPicSet) (w old new : List Bool) → j ≡ other_of x
      → Distinct (differences j ++ pos 0 ∷ []) → length (differences j ++ pos 0 ∷ []) ≡ j.num_delta_pocs + 1
      → WritesFlags (chosen_flags (shift_of x) (differences j ++ pos 0 ∷ []) (members_of x)) old new
      → EachFilling (rows_from_five set) w (λ z all. z ≡ x → w ≡ old → all ≡ new)
  unfolding with_members shift_of
  members_written x set j w old new is apart long writes =
      by_decision (pairs (numbers (other_of set).num_delta_pocs j.num_delta_pocs)
      (pairs (integers (shift_of set) (shift_of x))
      (lists_decided integers (differences (other_of set)) (differences j))))
    where
      same_key : (before after : List ShortTermMember) → with_members set before after ≡ x
          → key (other_of set) set ≡ key j x
      same_key before after e = ap (λ r. key (other_of r) r) e ∙ ap (λ o. key o x) (sym is)

      by_decision : IsDecided (key (other_of set) set) (key j x)
          → EachFilling (rows_from_five set) w (λ z all. z ≡ x → w ≡ old → all ≡ new)
      by_decision (inl same) =
          subst (λ (k : ℕ × (ℤ × List ℤ)). EachFilling (rows_five k.0 k.1.0 k.1.1 set) w (λ z all. z ≡ x
          → w ≡ old → all ≡ new)) (sym same)
          (rows_five_written x set j.num_delta_pocs (shift_of x) (differences j) w old new apart long writes)
      by_decision (inr differ) =
          rows_five_fillable _ _ _ set w (λ before after all e at. absurd (differ (same_key before after e)))

  -- a predicted set sets its members alone
  pub members_kept : (set : PlainShortTermRefPicSet) (w : List Bool) {Q : PlainShortTermRefPicSet
      → List Bool → Type 0}
      → ((before after : List ShortTermMember) (all : List Bool) → Q (with_members set before after) all)
      → EachFilling (rows_from_five set) w Q
  members_kept set w q = rows_five_fillable _ _ _ set w q

  -- what rows 1 to 4 set is kept
  pub rows_before_kept : (set : PlainShortTermRefPicSet) (w : List Bool)
      → EachFilling (rows_from_five set) w
      (λ z _. (z.delta_idx_minus1 ≡ set.delta_idx_minus1) × (z.delta_rps_sign ≡ set.delta_rps_sign)
      × (z.abs_delta_rps_minus1 ≡ set.abs_delta_rps_minus1))
  unfolding with_members
  rows_before_kept set w = members_kept set w (λ before after all. (refl, refl, refl))

-- ---- both kinds of sets

-- all elements but that of row 1
abbrev pub members : PlainShortTermRefPicSet → PlainShortTermRefPicSet → PlainShortTermRefPicSet
members from x = record from { inter_ref_pic_set_prediction_flag = x.inter_ref_pic_set_prediction_flag }

-- rows 2 to 6 set no elements but members and prediction
pub predicted_keeps : (sets : List PlainShortTermRefPicSet) (count idx : ℕ)
    → Keeps (predicted_set sets count idx) members
unfolding predicted_set prediction with_members predicted_members
predicted_keeps sets count idx = record {
  same = λ y. refl;
  last = λ x y z. refl;
  kept = λ y w. then_filled
      (then_filled (filled (when_fillable (idx == count) 0 (ue_fillable (row 7 2) refl 0 (idx - 1))) (λ v1 b1.
      then_filled (filled (flag_fillable (row 7 3) refl) (λ v2 b2.
      then_filled (filled (ue_fillable (row 7 4) refl 0 32767) (λ v3 b3.
      done_filled (members_kept sets idx _ b3 (λ before after all. refl)))))))));
}

-- nor do rows 7 to 12
pub listed_keeps : (most : ℕ) → Keeps (listed_set most) members
unfolding listed_set with_members
listed_keeps most = record {
  same = λ y. refl;
  last = λ x y z. refl;
  kept = λ y w. then_filled (filled (ue_fillable (row 7 7) refl 0 most) (λ v1 b1.
      then_filled (filled (ue_fillable (row 7 8) refl 0 (most - v1)) (λ v2 b2.
      then_filled (filled (listed_before_fillable v1) (λ v3 b3.
      then_filled (filled (listed_after_fillable v2) (λ v4 b4. done_filled refl))))))));
}

-- there are always lines of short term ref pic set to write
pub short_term_set_fillable : (sets : List PlainShortTermRefPicSet) (count most idx : ℕ)
    → IsFillable (short_term_ref_pic_set sets count most idx)
unfolding short_term_ref_pic_set
short_term_set_fillable sets count most idx = record {
  fill = λ w. then_filled (filled (when_fillable (not (idx == 0)) false (flag_fillable (row 7 1) refl)) (λ v b.
      either_kept (predicted_set sets count idx) (listed_set most) members (predicted_keeps sets count idx)
      (listed_keeps most) _ _ (λ z all. tt)));
}
