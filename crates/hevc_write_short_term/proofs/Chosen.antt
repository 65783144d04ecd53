-- The flags of row 5 that are written give the members that any flags give (7.4.8).
use Rattle.std.proofs.Common.{◌≡◌, ◌≢◌, ℕ, ◌+◌, ◌≤◌, zero, suc, Bool, true, false, cond, List, [], ◌∷◌, ◌++◌, length, refl, sym, ap, ap₂, subst, ◌∙◌, arith, inl, inr, Some, None, Option, negsuc}
use Rattle.std.specs.Prelude.{◌⊎◌, ℤ, pos, ◌+ℤ◌, int_lt, filter, reverse, not, ◌&&◌, if◌then◌else◌}
use Rattle.std.specs.Ordering.{int_eq}
use Rattle.std.proofs.lemmas.Int.{ints}
use Rattle.std.proofs.lemmas.Bool.{true≢false}
use Rattle.std.proofs.lemmas.Bool.Decides.{Decides-int_eq}
use Rattle.std.proofs.lemmas.List.{reverse-append}
use Rattle.hevc_tables.specs.declared.member_flags.MemberFlags.{MemberFlags}
use Rattle.hevc_tables.specs.declared.short_term_member.ShortTermMember.{ShortTermMember}
use Rattle.hevc_tables.specs.ShortTermTable.{shifted, shifted_one, rising, insert_rising, members_before, members_after}
use Rattle.hevc_write_short_term.specs.Members.{use_of, flags_of, chosen_flags}

-- ---- what is said of lists

abbrev pub In : {X : Type 0} → X → List X → Type 0
In x [] = ⊥
In x (y ∷ ys) = (x ≡ y) ⊎ In x ys

abbrev pub Distinct : List ℤ → Type 0
Distinct [] = Unit {0}
Distinct (d ∷ ds) = (In d ds → ⊥) × Distinct ds

-- how many flags are set: at most one of each difference (7.3.7)
abbrev pub one_set : MemberFlags → ℕ
one_set f = if f.used_by_curr_pic_flag then 1 else if f.use_delta_flag then 1 else 0

abbrev pub all_set : List MemberFlags → ℕ
all_set [] = 0
all_set (f ∷ fs) = one_set f + all_set fs

-- the members on both sides of the set that flags give
abbrev pub sides_of : ℤ → List ℤ → List MemberFlags → List ShortTermMember
sides_of shift ds flags = members_before (rising (shifted shift ds flags)) ++ members_after (rising (shifted shift ds flags))

-- ---- members of lists

-- what is in the first list is in both together
in_append_first : {X : Type 0} (x : X) (a b : List X) → In x a → In x (a ++ b)
in_append_first x [] b h = absurd h
in_append_first x (y ∷ a) b (inl e) = inl e
in_append_first x (y ∷ a) b (inr h) = inr (in_append_first x a b h)

-- so is what is in the second
in_append_second : {X : Type 0} (x : X) (a b : List X) → In x b → In x (a ++ b)
in_append_second x [] b h = h
in_append_second x (y ∷ a) b h = inr (in_append_second x a b h)

-- what is in both together is in one of them
pub in_append : {X : Type 0} (x : X) (a b : List X) → In x (a ++ b) → In x a ⊎ In x b
in_append x [] b h = inr h
in_append x (y ∷ a) b (inl e) = inl (inl e)
in_append x (y ∷ a) b (inr h) = elim (in_append x a b h) [ inl p ↦ inl (inr p) | inr q ↦ inr q ]

-- the first item comes last
reverse-cons : {X : Type 0} (x : X) (xs : List X) → reverse (x ∷ xs) ≡ reverse xs ++ x ∷ []
reverse-cons x xs = reverse-append (x ∷ []) xs

-- what is in a list is in it reversed
in_reverse : {X : Type 0} (x : X) (a : List X) → In x a → In x (reverse a)
in_reverse x [] h = absurd h
in_reverse x (y ∷ a) (inl e) = rw (reverse-cons y a) (in_append_second x (reverse a) (y ∷ []) (inl e))
in_reverse x (y ∷ a) (inr h) = rw (reverse-cons y a) (in_append_first x (reverse a) (y ∷ []) (in_reverse x a h))

-- and the other way round
from_reverse : {X : Type 0} (x : X) (a : List X) → In x (reverse a) → In x a
from_reverse x [] h = h
from_reverse x (y ∷ a) h = elim (in_append x (reverse a) (y ∷ []) (rw (reverse-cons y a) at h)) [ inl p ↦ inr (from_reverse x a p) | inr (inl e) ↦ inl e | inr (inr q) ↦ absurd q ]

-- what is in a list and passes the test is in what the test leaves
in_filter : {X : Type 0} (p : X → Bool) (x : X) (a : List X) → p x ≡ true → In x a → In x (filter p a)
in_filter p x [] e h = absurd h
in_filter p x (y ∷ a) e (inl same) = rw (ap p (sym same) ∙ e) (inl same)
in_filter p x (y ∷ a) e (inr h) = by_test (p y) (in_filter p x a e h)
  where
    by_test : (t : Bool) → In x (filter p a) → In x (cond t (y ∷ filter p a) (filter p a))
    by_test true h = inr h
    by_test false h = h

-- what is left was in the list
from_filter : {X : Type 0} (p : X → Bool) (x : X) (a : List X) → In x (filter p a) → In x a
from_filter p x [] h = h
from_filter p x (y ∷ a) h = by_test (λ q. from_filter p x a q) (p y) h
  where
    by_test : (In x (filter p a) → In x a) → (t : Bool) → In x (cond t (y ∷ filter p a) (filter p a)) → In x (y ∷ a)
    by_test again true (inl e) = inl e
    by_test again true (inr h) = inr (again h)
    by_test again false h = inr (again h)

-- a member that is put in is there, as are the others
in_insert : (x m : ShortTermMember) (ns : List ShortTermMember) → In x (m ∷ ns) → In x (insert_rising m ns)
in_insert x m [] h = h
in_insert x m (n ∷ ns) h = by_test (λ q. in_insert x m ns q) (int_lt m.delta_poc n.delta_poc) h
  where
    by_test : (In x (m ∷ ns) → In x (insert_rising m ns)) → (t : Bool) → In x (m ∷ n ∷ ns) → In x (cond t (m ∷ n ∷ ns) (n ∷ insert_rising m ns))
    by_test again true h = h
    by_test again false (inl e) = inr (again (inl e))
    by_test again false (inr (inl e)) = inl e
    by_test again false (inr (inr h)) = inr (again (inr h))

-- and no other is
from_insert : (x m : ShortTermMember) (ns : List ShortTermMember) → In x (insert_rising m ns) → In x (m ∷ ns)
from_insert x m [] h = h
from_insert x m (n ∷ ns) h = by_test (λ q. from_insert x m ns q) (int_lt m.delta_poc n.delta_poc) h
  where
    by_test : (In x (insert_rising m ns) → In x (m ∷ ns)) → (t : Bool) → In x (cond t (m ∷ n ∷ ns) (n ∷ insert_rising m ns)) → In x (m ∷ n ∷ ns)
    by_test again true h = h
    by_test again false (inl e) = inr (inl e)
    by_test again false (inr h) = elim (again h) [ inl e ↦ inl e | inr q ↦ inr (inr q) ]

-- rising order loses no member
in_rising : (x : ShortTermMember) (ms : List ShortTermMember) → In x ms → In x (rising ms)
unfolding rising
in_rising x [] h = absurd h
in_rising x (m ∷ ms) (inl e) = in_insert x m (rising ms) (inl e)
in_rising x (m ∷ ms) (inr h) = in_insert x m (rising ms) (inr (in_rising x ms h))

-- and adds none
from_rising : (x : ShortTermMember) (ms : List ShortTermMember) → In x (rising ms) → In x ms
unfolding rising
from_rising x [] h = h
from_rising x (m ∷ ms) h = elim (from_insert x m (rising ms) h) [ inl e ↦ inl e | inr q ↦ inr (from_rising x ms q) ]

-- a number that is not 0 and not below it is above it
above : (d : ℤ) → d ≢ pos 0 → int_lt d (pos 0) ≡ false → int_lt (pos 0) d ≡ true
above (pos zero) some e = absurd (some refl)
above (pos (suc n)) some e = grind arith
above (negsuc n) some e = absurd cc

-- the members of both sides are those of differences that aren't 0
in_sides : (x : ShortTermMember) (ms : List ShortTermMember) → x.delta_poc ≢ pos 0 → In x ms → In x (members_before ms ++ members_after ms)
unfolding members_before members_after
in_sides x ms some h = by_sign (int_lt x.delta_poc (pos 0)) refl
  where
    by_sign : (t : Bool) → int_lt x.delta_poc (pos 0) ≡ t → In x (reverse (filter (λ m. int_lt m.delta_poc (pos 0)) ms) ++ filter (λ m. int_lt (pos 0) m.delta_poc) ms)
    by_sign true e = in_append_first x _ _ (in_reverse x _ (in_filter (λ (m : ShortTermMember). int_lt m.delta_poc (pos 0)) x ms e h))
    by_sign false e = in_append_second x _ _ (in_filter (λ (m : ShortTermMember). int_lt (pos 0) m.delta_poc) x ms (above x.delta_poc some e) h)

-- members before and after the current picture are members
from_sides : (x : ShortTermMember) (ms : List ShortTermMember) → In x (members_before ms ++ members_after ms) → In x ms
unfolding members_before members_after
from_sides x ms h = elim (in_append x (reverse (filter (λ m. int_lt m.delta_poc (pos 0)) ms)) (filter (λ m. int_lt (pos 0) m.delta_poc) ms) h) [
  | inl p ↦ from_filter (λ (m : ShortTermMember). int_lt m.delta_poc (pos 0)) x ms (from_reverse x _ p)
  | inr q ↦ from_filter (λ (m : ShortTermMember). int_lt (pos 0) m.delta_poc) x ms q
]

-- ---- what is found

-- a number is equal to itself
int_eq-same : (d : ℤ) → int_eq d d ≡ true
int_eq-same d = (Decides-int_eq d d).1 refl

-- the test tells equal numbers
int_eq-true : (d e : ℤ) → int_eq d e ≡ true → d ≡ e
int_eq-true d e h = (Decides-int_eq d e).0 h

-- and others
int_eq-false : (d e : ℤ) → int_eq d e ≡ false → d ≢ e
int_eq-false d e h = λ same. true≢false (sym (int_eq-same d) ∙ ap (λ (z : ℤ). int_eq d z) same ∙ h)

-- a member that is found is there
use_found : (d : ℤ) (u : Bool) (ms : List ShortTermMember) → use_of d ms ≡ Some u → In (record { delta_poc = d; used_by_curr_pic = u }) ms
use_found d u [] e = absurd cc
use_found d u (m ∷ ms) e = by_test (λ q. use_found d u ms q) (int_eq m.delta_poc d) refl e
  where
    by_test : (use_of d ms ≡ Some u → In (record { delta_poc = d; used_by_curr_pic = u }) ms) → (t : Bool) → int_eq m.delta_poc d ≡ t → cond t (Some m.used_by_curr_pic) (use_of d ms) ≡ Some u → In (record { delta_poc = d; used_by_curr_pic = u }) (m ∷ ms)
    by_test again true same e =
        let at : m.delta_poc ≡ d = int_eq-true m.delta_poc d same in
        let used : m.used_by_curr_pic ≡ u = cc in
        inl (ap₂ make (sym at) (sym used))
      where
        make : ℤ → Bool → ShortTermMember
        make z b = record { delta_poc = z; used_by_curr_pic = b }
    by_test again false same e = inr (again e)

-- a member that is there is found
use_some : (d : ℤ) (u : Bool) (ms : List ShortTermMember) → In (record { delta_poc = d; used_by_curr_pic = u }) ms → (v : Bool) × (use_of d ms ≡ Some v)
use_some d u [] h = absurd h
use_some d u (m ∷ ms) h = by_test (λ q. use_some d u ms q) (int_eq m.delta_poc d) refl h
  where
    by_test : (In (record { delta_poc = d; used_by_curr_pic = u }) ms → (v : Bool) × (use_of d ms ≡ Some v)) → (t : Bool) → int_eq m.delta_poc d ≡ t → In (record { delta_poc = d; used_by_curr_pic = u }) (m ∷ ms) → (v : Bool) × (cond t (Some m.used_by_curr_pic) (use_of d ms) ≡ Some v)
    by_test again true same h = (m.used_by_curr_pic, refl)
    by_test again false same (inl e) = let at : m.delta_poc ≡ d = ap (λ (n : ShortTermMember). n.delta_poc) (sym e) in absurd (true≢false (sym (ap (λ (z : ℤ). int_eq z d) at ∙ int_eq-same d) ∙ same))
    by_test again false same (inr h) = again h

-- ---- shifted members

-- a shifted difference is one with the shift added
one_is : (shift d : ℤ) (f : MemberFlags) (m : ShortTermMember) → In m (shifted_one shift d f) → m.delta_poc ≡ d +ℤ shift
unfolding shifted_one
one_is shift d f m h = by_test (f.use_delta_flag && not (int_eq (d +ℤ shift) (pos 0))) h
  where
    by_test : (t : Bool) → In m (cond t (record { delta_poc = d +ℤ shift; used_by_curr_pic = f.used_by_curr_pic_flag } ∷ []) []) → m.delta_poc ≡ d +ℤ shift
    by_test true (inl e) = ap (λ (n : ShortTermMember). n.delta_poc) e
    by_test true (inr h) = absurd h
    by_test false h = absurd h

-- what is not so is not so with more
and_false : (t : Bool) → (t && false) ≡ false
and_false true = refl
and_false false = refl

-- a member whose difference is shifted from none of these is none of them
not_shifted : (shift d : ℤ) (ds : List ℤ) (fs : List MemberFlags) (m : ShortTermMember) → (In d ds → ⊥) → In m (shifted shift ds fs) → m.delta_poc ≡ d +ℤ shift → ⊥
unfolding shifted
not_shifted shift d [] fs m none h e = h
not_shifted shift d (c ∷ ds) [] m none h e = h
not_shifted shift d (c ∷ ds) (f ∷ fs) m none h e = elim (in_append m (shifted_one shift c f) (shifted shift ds fs) h) [
  | inl p ↦ none (inl (same_shift (one_is shift c f m p)))
  | inr q ↦ not_shifted shift d ds fs m (λ i. none (inr i)) q e
]
  where
    same_shift : m.delta_poc ≡ c +ℤ shift → d ≡ c
    same_shift a = omega (arith, ints)

module _ (shift : ℤ) (all : List ShortTermMember) where
  -- what is found for a difference, where members are found exactly where flags give them
  same_one : (d : ℤ) (f : MemberFlags) (rest : List ShortTermMember) → ((m : ShortTermMember) → m.delta_poc ≢ pos 0 → In m (shifted_one shift d f ++ rest) → In m all)
      → ((m : ShortTermMember) → m.delta_poc ≡ d +ℤ shift → In m all → In m (shifted_one shift d f)) → shifted_one shift d (flags_of (use_of (d +ℤ shift) all)) ≡ shifted_one shift d f
  unfolding shifted_one
  same_one d f rest there back = by_zero (int_eq (d +ℤ shift) (pos 0)) refl (use_of (d +ℤ shift) all) refl f.use_delta_flag refl there back
    where
      make : Bool → ShortTermMember
      make u = record { delta_poc = d +ℤ shift; used_by_curr_pic = u }

      by_zero : (z : Bool) → int_eq (d +ℤ shift) (pos 0) ≡ z → (o : Option Bool) → use_of (d +ℤ shift) all ≡ o → (t : Bool) → f.use_delta_flag ≡ t
          → ((m : ShortTermMember) → m.delta_poc ≢ pos 0 → In m (cond (t && not z) (make f.used_by_curr_pic_flag ∷ []) [] ++ rest) → In m all)
          → ((m : ShortTermMember) → m.delta_poc ≡ d +ℤ shift → In m all → In m (cond (t && not z) (make f.used_by_curr_pic_flag ∷ []) []))
          → cond ((flags_of o).use_delta_flag && not z) (make (flags_of o).used_by_curr_pic_flag ∷ []) [] ≡ cond (t && not z) (make f.used_by_curr_pic_flag ∷ []) []
      by_zero true e None g true h there back = refl
      by_zero true e None g false h there back = refl
      by_zero true e (Some u) g true h there back = refl
      by_zero true e (Some u) g false h there back = refl
      by_zero false e None g false h there back = refl
      by_zero false e None g true h there back =
          let s = use_some (d +ℤ shift) f.used_by_curr_pic_flag all (there (make f.used_by_curr_pic_flag) (int_eq-false (d +ℤ shift) (pos 0) e) (inl refl)) in
          absurd (cc (s.1))
      by_zero false e (Some u) g true h there back =
          elim (back (make u) refl (use_found (d +ℤ shift) u all g)) [ inl same ↦ ap (λ (m : ShortTermMember). m ∷ []) same | inr none ↦ absurd none ]
      by_zero false e (Some u) g false h there back = absurd (back (make u) refl (use_found (d +ℤ shift) u all g))

  -- no flag is set where no member is found
  fewer_one : (d : ℤ) (f : MemberFlags) → ((m : ShortTermMember) → m.delta_poc ≡ d +ℤ shift → In m all → In m (shifted_one shift d f)) → one_set (flags_of (use_of (d +ℤ shift) all)) ≤ one_set f
  unfolding shifted_one
  fewer_one d f back = by_use (use_of (d +ℤ shift) all) refl f.used_by_curr_pic_flag f.use_delta_flag back
    where
      by_use : (o : Option Bool) → use_of (d +ℤ shift) all ≡ o → (u t : Bool)
          → ((m : ShortTermMember) → m.delta_poc ≡ d +ℤ shift → In m all → In m (cond (t && not (int_eq (d +ℤ shift) (pos 0))) (record { delta_poc = d +ℤ shift; used_by_curr_pic = u } ∷ []) []))
          → one_set (flags_of o) ≤ one_set (record { used_by_curr_pic_flag = u; use_delta_flag = t })
      by_use None e u t back = omega arith
      by_use (Some v) e u false back = absurd (back (record { delta_poc = d +ℤ shift; used_by_curr_pic = v }) refl (use_found (d +ℤ shift) v all e))
      by_use (Some true) e true true back = omega arith
      by_use (Some true) e false true back = omega arith
      by_use (Some false) e true true back = omega arith
      by_use (Some false) e false true back = omega arith

  -- the members that chosen flags give are those that any flags give
  same_shifted : (ds : List ℤ) (fs : List MemberFlags) → Distinct ds → length fs ≡ length ds → ((m : ShortTermMember) → m.delta_poc ≢ pos 0 → In m (shifted shift ds fs) → In m all)
      → ((m : ShortTermMember) (d : ℤ) → In d ds → m.delta_poc ≡ d +ℤ shift → In m all → In m (shifted shift ds fs)) → (shifted shift ds (chosen_flags shift ds all) ≡ shifted shift ds fs) × (all_set (chosen_flags shift ds all) ≤ all_set fs)
  unfolding shifted
  same_shifted [] fs apart long there back = (refl, omega arith)
  same_shifted (d ∷ ds) [] apart long there back = absurd (omega arith)
  same_shifted (d ∷ ds) (f ∷ fs) apart long there back =
      let own : (m : ShortTermMember) → m.delta_poc ≡ d +ℤ shift → In m all → In m (shifted_one shift d f) =
      λ m e h. elim (in_append m (shifted_one shift d f) (shifted shift ds fs) (back m d (inl refl) e h)) [ inl p ↦ p | inr q ↦ absurd (not_shifted shift d ds fs m apart.0 q e) ] in
      let first = same_one d f (shifted shift ds fs) there own in
      let rest = same_shifted ds fs apart.1 (omega arith) (λ m some h. there m some (in_append_second m (shifted_one shift d f) (shifted shift ds fs) h))
      (λ m c i e h. elim (in_append m (shifted_one shift d f) (shifted shift ds fs) (back m c (inr i) e h)) [
        | inl p ↦ absurd (apart.0 (subst (λ (x : ℤ). In x ds) (same_place c m e (one_is shift d f m p)) i))
        | inr q ↦ q
      ]) in
      (ap₂ (λ (p q : List ShortTermMember). p ++ q) first rest.0, omega (arith, fewer_one d f own, rest.1))
    where
      same_place : (c : ℤ) (m : ShortTermMember) → m.delta_poc ≡ c +ℤ shift → m.delta_poc ≡ d +ℤ shift → c ≡ d
      same_place c m a b = omega (arith, ints)

-- The flags that are written for the set that any flags give, give the same members, and no more of them are set.
pub chosen_give_the_same : (shift : ℤ) (ds : List ℤ) (flags : List MemberFlags) → Distinct ds → length flags ≡ length ds
    → (shifted shift ds (chosen_flags shift ds (sides_of shift ds flags)) ≡ shifted shift ds flags) × (all_set (chosen_flags shift ds (sides_of shift ds flags)) ≤ all_set flags)
chosen_give_the_same shift ds flags apart long =
    let ms = shifted shift ds flags in
    same_shifted shift (members_before (rising ms) ++ members_after (rising ms)) ds flags apart long
    (λ m some h. in_sides m (rising ms) some (in_rising m ms h))
    (λ m d i e h. from_rising m ms (from_sides m (rising ms) h))
