-- The members of a predicted set, as its code lines them up.
use Rattle.std.proofs.Common.{◌≡◌, ℕ, ◌+◌, ◌<◌, ◌≤◌, ℤ, pos, ◌+ℤ◌, ◌-ℤ◌, ◌<ℤ◌, Bool, true, false}
use Rattle.std.proofs.Common.{List, [], ◌∷◌, ◌++◌, length, take, drop, reverse, get_or, refl, sym}
use Rattle.std.proofs.Common.{◌∙◌, arith}
use Rattle.std.specs.Prelude.{int_lt, if◌then◌else◌}
use Rattle.std.proofs.lemmas.List.{drop_more, append_assoc, append-nil, map-append, length-take-le, length-append}
use Rattle.hevc_records.specs.ShortTermRefPicSet.{PlainShortTermRefPicSet, Fall, Rise}
use Rattle.hevc_tables.specs.declared.member_flags.MemberFlags.{MemberFlags}
use Rattle.hevc_tables.specs.declared.short_term_member.ShortTermMember.{ShortTermMember}
use Rattle.hevc_tables.specs.ShortTermTable.{deltas, differences, shifted, shifted_one}
use Rattle.hevc_tables.specs.ShortTermTable.{insert_rising, rising, predicted_members}
use Rattle.hevc_short_term_laws.specs.Orders.{AllAbove, AllBelow, Rises, Falls}
use Rattle.hevc_short_term_laws.proofs.OrderLaws.{reverse-cons, map-reverse, AllAbove-weaken}
use Rattle.hevc_short_term_laws.proofs.OrderLaws.{AllBelow-weaken, AllAbove-append}
use Rattle.hevc_short_term_laws.proofs.OrderLaws.{AllBelow-reverse, Rises-append, Rises-reverse}
use Rattle.hevc_short_term_laws.proofs.OrderLaws.{falls_from, rises_from}

-- ---- what differences in order give

AllAbove-if : (k : Bool) (m : ShortTermMember) (rest : List ShortTermMember) (b : ℤ) → b <ℤ m.delta_poc
    → AllAbove b (deltas rest) → AllAbove b (deltas ((if k then m ∷ [] else []) ++ rest))
AllAbove-if true m rest b above h = (above, h)
AllAbove-if false m rest b above h = h

AllBelow-if : (k : Bool) (m : ShortTermMember) (rest : List ShortTermMember) (b : ℤ) → m.delta_poc <ℤ b
    → AllBelow b (deltas rest) → AllBelow b (deltas ((if k then m ∷ [] else []) ++ rest))
AllBelow-if true m rest b below h = (below, h)
AllBelow-if false m rest b below h = h

Rises-if : (k : Bool) (m : ShortTermMember) (rest : List ShortTermMember)
    → AllAbove m.delta_poc (deltas rest) → Rises (deltas rest) → Rises (deltas ((if k then m ∷ [] else []) ++ rest))
Rises-if true m rest above h = (above, h)
Rises-if false m rest above h = h

Falls-if : (k : Bool) (m : ShortTermMember) (rest : List ShortTermMember)
    → AllBelow m.delta_poc (deltas rest) → Falls (deltas rest) → Falls (deltas ((if k then m ∷ [] else []) ++ rest))
Falls-if true m rest below h = (below, h)
Falls-if false m rest below h = h

module _ (shift : ℤ) where
  AllAbove-shifted : (b : ℤ) (ds : List ℤ) (fs : List MemberFlags) → AllAbove b ds
      → AllAbove (b +ℤ shift) (deltas (shifted shift ds fs))
  unfolding shifted shifted_one
  AllAbove-shifted b [] fs h = tt
  AllAbove-shifted b (d ∷ ds) [] h = tt
  AllAbove-shifted b (d ∷ ds) (f ∷ fs) h =
      AllAbove-if _ _ (shifted shift ds fs) (b +ℤ shift) (grind (arith, h.0)) (AllAbove-shifted b ds fs h.1)

  AllBelow-shifted : (b : ℤ) (ds : List ℤ) (fs : List MemberFlags) → AllBelow b ds
      → AllBelow (b +ℤ shift) (deltas (shifted shift ds fs))
  unfolding shifted shifted_one
  AllBelow-shifted b [] fs h = tt
  AllBelow-shifted b (d ∷ ds) [] h = tt
  AllBelow-shifted b (d ∷ ds) (f ∷ fs) h =
      AllBelow-if _ _ (shifted shift ds fs) (b +ℤ shift) (grind (arith, h.0)) (AllBelow-shifted b ds fs h.1)

  Rises-shifted : (ds : List ℤ) (fs : List MemberFlags) → Rises ds → Rises (deltas (shifted shift ds fs))
  unfolding shifted shifted_one
  Rises-shifted [] fs h = tt
  Rises-shifted (d ∷ ds) [] h = tt
  Rises-shifted (d ∷ ds) (f ∷ fs) h =
      Rises-if _ _ (shifted shift ds fs) (AllAbove-shifted d ds fs h.0) (Rises-shifted ds fs h.1)

  Falls-shifted : (ds : List ℤ) (fs : List MemberFlags) → Falls ds → Falls (deltas (shifted shift ds fs))
  unfolding shifted shifted_one
  Falls-shifted [] fs h = tt
  Falls-shifted (d ∷ ds) [] h = tt
  Falls-shifted (d ∷ ds) (f ∷ fs) h =
      Falls-if _ _ (shifted shift ds fs) (AllBelow-shifted d ds fs h.0) (Falls-shifted ds fs h.1)

  shifted_no_flags : (ds : List ℤ) → shifted shift ds [] ≡ []
  unfolding shifted
  shifted_no_flags [] = refl
  shifted_no_flags (d ∷ ds) = refl

  shifted-append : (xs ys : List ℤ) (fs : List MemberFlags)
      → shifted shift (xs ++ ys) fs ≡ shifted shift xs fs ++ shifted shift ys (drop (length xs) fs)
  unfolding shifted
  shifted-append [] ys fs = refl
  shifted-append (x ∷ xs) ys [] = sym (shifted_no_flags ys)
  shifted-append (x ∷ xs) ys (f ∷ fs) = rw (shifted-append xs ys fs, append_assoc) refl

  shifted_single : (d : ℤ) (fs : List MemberFlags) (i : ℕ) (f : MemberFlags) → i < length fs
      → shifted shift (d ∷ []) (drop i fs) ≡ shifted_one shift d (get_or fs i f)
  unfolding shifted
  shifted_single d fs i f in_fs = rw (drop_more fs i f in_fs, append-nil) refl

-- ---- members put in rising order

insert_behind : (m : ShortTermMember) (xs ys : List ShortTermMember) → AllBelow m.delta_poc (deltas xs)
    → insert_rising m (xs ++ ys) ≡ xs ++ insert_rising m ys
insert_behind m [] ys h = refl
insert_behind m (x ∷ xs) ys h = let last : int_lt m.delta_poc x.delta_poc ≡ false =
    grind (arith, h.0) in rw (last, insert_behind m xs ys h.1) refl

insert_before : (m : ShortTermMember) (ys : List ShortTermMember) → AllAbove m.delta_poc (deltas ys)
    → insert_rising m ys ≡ m ∷ ys
insert_before m [] h = refl
insert_before m (y ∷ ys) h = let first : int_lt m.delta_poc y.delta_poc ≡ true = grind (arith, h.0) in rw first refl

-- rising members are put after those that don't lie above a bound below them
rising_behind : (b : ℤ) (xs ys : List ShortTermMember) → Rises (deltas xs) → AllAbove b (deltas xs)
    → AllBelow (b +ℤ pos 1) (deltas (rising ys)) → rising (xs ++ ys) ≡ rising ys ++ xs
unfolding rising
rising_behind b [] ys rises above below = sym (append-nil (rising ys))
rising_behind b (x ∷ xs) ys rises above below =
    rw (
      rising_behind b xs ys rises.1 above.1 below,
      insert_behind x (rising ys) xs
          (AllBelow-weaken (b +ℤ pos 1) x.delta_poc (deltas (rising ys)) (grind (arith, above.0)) below),
      insert_before x xs rises.0,
    ) refl

-- falling members are put before those that don't lie below a bound above them
rising_before : (b : ℤ) (xs ys : List ShortTermMember) → Falls (deltas xs) → AllBelow b (deltas xs)
    → AllAbove (b -ℤ pos 1) (deltas (rising ys)) → rising (xs ++ ys) ≡ reverse xs ++ rising ys
unfolding rising
rising_before b [] ys falls below above = refl
rising_before b (x ∷ xs) ys falls below above =
    rw (
      rising_before b xs ys falls.1 below.1 above,
      insert_behind x (reverse xs) (rising ys)
          (rw (map-reverse (λ (m : ShortTermMember). m.delta_poc) xs)
          (AllBelow-reverse x.delta_poc (deltas xs) falls.0)),
      insert_before x (rising ys)
          (AllAbove-weaken (b -ℤ pos 1) x.delta_poc (deltas (rising ys)) (grind (arith, below.0)) above),
      reverse-cons x xs,
      append_assoc,
    ) refl

-- ---- one member at most

rising_if : (k : Bool) (m : ShortTermMember) → rising (if k then m ∷ [] else []) ≡ (if k then m ∷ [] else [])
unfolding rising
rising_if true m = refl
rising_if false m = refl

rising_one : (shift d : ℤ) (f : MemberFlags) → rising (shifted_one shift d f) ≡ shifted_one shift d f
unfolding shifted_one
rising_one shift d f = rising_if _ _

module _ (k : Bool) (m : ShortTermMember) (b : ℤ) (is : m.delta_poc ≡ b) where
  one_above : AllAbove (b -ℤ pos 1) (deltas (if k then m ∷ [] else []))
  one_above = elim k as
      (λ v. AllAbove (b -ℤ pos 1) (deltas (if v then m ∷ [] else []))) [ true ↦ (grind (arith, is), tt) | false ↦ tt ]

  one_below : AllBelow (b +ℤ pos 1) (deltas (if k then m ∷ [] else []))
  one_below = elim k as
      (λ v. AllBelow (b +ℤ pos 1) (deltas (if v then m ∷ [] else []))) [ true ↦ (grind (arith, is), tt) | false ↦ tt ]

one_rises : (k : Bool) (m : ShortTermMember) → Rises (deltas (if k then m ∷ [] else []))
one_rises true m = (tt, tt)
one_rises false m = tt

picture_above : (shift : ℤ) (f : MemberFlags)
    → AllAbove ((pos 0 +ℤ shift) -ℤ pos 1) (deltas (shifted_one shift (pos 0) f))
unfolding shifted_one
picture_above shift f = one_above _ _ (pos 0 +ℤ shift) refl

picture_below : (shift : ℤ) (f : MemberFlags)
    → AllBelow ((pos 0 +ℤ shift) +ℤ pos 1) (deltas (shifted_one shift (pos 0) f))
unfolding shifted_one
picture_below shift f = one_below _ _ (pos 0 +ℤ shift) refl

picture_rises : (shift : ℤ) (f : MemberFlags) → Rises (deltas (shifted_one shift (pos 0) f))
unfolding shifted_one
picture_rises shift f = one_rises _ _

-- ---- all members

-- members of a falling list that lie below a bound, at most one member that lies at the bound, and those of a rising list above it
module _ (b : ℤ) (n z p : List ShortTermMember) (n_falls : Falls (deltas n))
    (n_below : AllBelow b (deltas n)) (z_rises : Rises (deltas z))
    (z_above : AllAbove (b -ℤ pos 1) (deltas z)) (z_below : AllBelow (b +ℤ pos 1) (deltas z)) (z_is : rising z ≡ z)
    (p_rises : Rises (deltas p)) (p_above : AllAbove b (deltas p)) where
  above_bound : AllAbove (b -ℤ pos 1) (deltas (z ++ p))
  above_bound =
      rw (map-append (λ (m : ShortTermMember). m.delta_poc) z p)
      (AllAbove-append (b -ℤ pos 1) (deltas z) (deltas p) z_above
      (AllAbove-weaken b (b -ℤ pos 1) (deltas p) (grind arith) p_above))

  rising_parts : rising (n ++ (p ++ z)) ≡ (reverse n ++ z) ++ p
  rising_parts =
      let behind : rising (p ++ z) ≡ z ++ p = (rising_behind b p z p_rises p_above (rw z_is z_below)) ∙ rw z_is refl in
      rising_before b n (p ++ z) n_falls n_below (rw behind above_bound)
      ∙ (rw behind (sym (append_assoc (reverse n) z p)))

  parts_rise : Rises (deltas ((reverse n ++ z) ++ p))
  parts_rise =
      rw (
        append_assoc (reverse n) z p,
        map-append (λ (m : ShortTermMember). m.delta_poc) (reverse n)
            (z ++ p),
        map-reverse (λ (m : ShortTermMember). m.delta_poc) n,
      )
      (Rises-append b (reverse (deltas n)) (deltas (z ++ p)) (Rises-reverse (deltas n) n_falls)
      (AllBelow-reverse b (deltas n) n_below)
      (rw (map-append (λ (m : ShortTermMember). m.delta_poc) z p)
      (Rises-append (b +ℤ pos 1) (deltas z) (deltas p) z_rises z_below p_rises
      (AllAbove-weaken b ((b +ℤ pos 1) -ℤ pos 1) (deltas p) (grind arith) p_above)))
      above_bound)

module _ (s : PlainShortTermRefPicSet) (shift : ℤ) (flags : List MemberFlags) (f : MemberFlags)
    (falls : Fall s.num_negative_pics s.delta_poc_s0) (rises : Rise s.num_positive_pics s.delta_poc_s1)
    (in_before : s.num_negative_pics ≤ length s.delta_poc_s0)
    (in_after : s.num_positive_pics ≤ length s.delta_poc_s1)
    (enough : s.num_negative_pics + s.num_positive_pics < length flags) where
  in_order : shifted shift (differences s ++ pos 0 ∷ []) flags ≡ shifted shift
      (take s.num_negative_pics s.delta_poc_s0) flags
      ++ (shifted shift (take s.num_positive_pics s.delta_poc_s1) (drop s.num_negative_pics flags)
      ++ shifted_one shift (pos 0) (get_or flags (s.num_negative_pics + s.num_positive_pics) f))
  unfolding differences
  in_order =
      let n = take s.num_negative_pics s.delta_poc_s0 in
      let p = take s.num_positive_pics s.delta_poc_s1 in
      rw (
        shifted-append shift (n ++ p) (pos 0 ∷ []) flags,
        shifted-append shift n p flags,
        length-append n p,
        length-take-le s.num_negative_pics s.delta_poc_s0 in_before,
        length-take-le s.num_positive_pics s.delta_poc_s1 in_after,
        shifted_single shift (pos 0) flags (s.num_negative_pics + s.num_positive_pics) f enough,
        append_assoc,
      ) refl

  pub predicted_is : predicted_members s shift flags
      ≡ (reverse (shifted shift (take s.num_negative_pics s.delta_poc_s0) flags)
      ++ shifted_one shift (pos 0) (get_or flags (s.num_negative_pics + s.num_positive_pics) f))
      ++ shifted shift (take s.num_positive_pics s.delta_poc_s1) (drop s.num_negative_pics flags)
  unfolding predicted_members
  predicted_is =
      let n = falls_from s.num_negative_pics s.delta_poc_s0 in_before falls in
      let p = rises_from s.num_positive_pics s.delta_poc_s1 in_after rises in
      rw in_order (rising_parts (pos 0 +ℤ shift) _ _ _ (Falls-shifted shift _ flags n.1)
      (AllBelow-shifted shift (pos 0) _ flags n.0) (picture_rises shift _) (picture_above shift _)
      (picture_below shift _) (rising_one shift (pos 0) _) (Rises-shifted shift _ _ p.1)
      (AllAbove-shifted shift (pos 0) _ _ p.0))

  pub predicted_rises : Rises (deltas (predicted_members s shift flags))
  predicted_rises =
      let n = falls_from s.num_negative_pics s.delta_poc_s0 in_before falls in
      let p = rises_from s.num_positive_pics s.delta_poc_s1 in_after rises in
      rw predicted_is
      (parts_rise (pos 0 +ℤ shift) _ _ _ (Falls-shifted shift _ flags n.1)
      (AllBelow-shifted shift (pos 0) _ flags n.0) (picture_rises shift _) (picture_above shift _)
      (picture_below shift _) (rising_one shift (pos 0) _) (Rises-shifted shift _ _ p.1)
      (AllAbove-shifted shift (pos 0) _ _ p.0))
