-- What is used for reference is stored, and so is what sets and lists of such pictures name.
use Rattle.std.proofs.Common.{◌≡◌, ◌⊎◌, inl, inr, ⊎_elim, ℕ, Bool, true, false, cond, ◌&&◌, ◌||◌}
use Rattle.std.proofs.Common.{eqb, List, [], ◌∷◌, filter, refl, subst, arith}
use Rattle.std.specs.Prelude.{Contains}
use Rattle.std.proofs.lemmas.Bool.Decides.{nat_tests}
use Rattle.hevc_walk.specs.Meanings.{Slice}
use Rattle.hevc_walk.specs.Buffer as walk
use Rattle.hevc_walk.specs.ReferenceSets.{names, all_members, no_references}
use Rattle.hevc_walk.specs.ReferenceLists.{ref_pic_list0, ref_pic_list1}
use Rattle.hevc_walk_marks.specs.Marked.{has_reference}
use Rattle.hevc_walk_marks.specs.Listed.{lists}
use Rattle.hevc_walk_marks.proofs.Lists.{list0_named, list1_named}
use Rattle.hevc_pictures.specs.declared.reference.Reference.{Reference}
use Rattle.hevc_pictures.specs.declared.reference.Reference.TheVariants.{None, ShortTerm, LongTerm}
use Rattle.hevc_pictures.specs.Marks.{is_reference, reference_of, mark_of}
use Rattle.hevc_dpb.specs.declared.entry.DpbEntry.{DpbEntry}
use Rattle.hevc_dpb.specs.Entries.{numbers, is_ref, reference_numbers}
use Rattle.hevc_dpb.specs.Plain.{plain_entries}
use Rattle.hevc_dpb.proofs.EntryLaws.{map_filter_part}
use Rattle.hevc_dpb.proofs.Members.{contains_first, contains_later}
use Rattle.hevc_refs.specs.declared.ref_pic_set.RefPicSet.{RefPicSet}
use Rattle.hevc_refs.specs.declared.ref_pic_list.RefPicList.{RefPicList}
use Rattle.hevc_refs.specs.Sets.{plain_set}
use Rattle.hevc_refs.specs.Lists.{places_of, plain_places}
use Rattle.hevc_backend.specs.Named.{SetNamesAmong, ListNamesAmong}

-- a set of five empty lists, or an empty list, names nothing
pub no_set_among : (ns : List ℕ) (set : RefPicSet) → plain_set set ≡ no_references → SetNamesAmong ns set
no_set_among ns set is n h = let k : false ≡ true = subst (λ s. names n (all_members s) ≡ true) is h in absurd (cc k)

pub no_list_among : (ns : List ℕ) (list : RefPicList) → places_of list ≡ [] → ListNamesAmong ns list
no_list_among ns list is n h = let k : false ≡ true = subst (λ l. lists n (plain_places l) ≡ true) is h in absurd (cc k)

or_cases : (a b : Bool) → (a || b) ≡ true → (a ≡ true) ⊎ (b ≡ true)
or_cases true b h = inl refl
or_cases false b h = inr h

and_left : (a b : Bool) → (a && b) ≡ true → a ≡ true
and_left true b h = refl
and_left false b h = h

and_false : (a b : Bool) → ((a && false) || b) ≡ true → b ≡ true
and_false true b h = h
and_false false b h = h

-- the walk's mark says the same
same_mark : (r : Reference) → walk.is_reference (mark_of r) ≡ is_reference r
same_mark None = refl
same_mark ShortTerm = refl
same_mark LongTerm = refl

module _ {T : Type 0} where
  one_more : (n : ℕ) (e : DpbEntry T) (fs : List (DpbEntry T)) (b c : Bool)
      → ((eqb e.number n && b) || c) ≡ true → (c ≡ true → Contains (numbers fs) n)
      → Contains (numbers (cond b (e ∷ fs) fs)) n
  one_more n e fs true c h later =
      ⊎_elim
      (λ here. let k : eqb e.number n ≡ true = and_left (eqb e.number n) true here in
      let same : e.number ≡ n = grind (arith, nat_tests, k) in
      subst (Contains (numbers (e ∷ fs))) same (contains_first e.number (numbers fs)))
      (λ there. contains_later e.number n (numbers fs) (later there))
      (or_cases (eqb e.number n && true) c h)
  one_more n e fs false c h later = later (and_false (eqb e.number n) c h)

  reference_is_stored : (n : ℕ) (es : List (DpbEntry T)) → has_reference n (plain_entries es) ≡ true
      → Contains (reference_numbers es) n
  reference_is_stored n [] h = absurd (cc h)
  reference_is_stored n (e ∷ es) h =
      one_more n e (filter is_ref es) (is_ref e) (has_reference n (plain_entries es))
      (subst (λ b. ((eqb e.number n && b) || has_reference n (plain_entries es)) ≡ true)
      (same_mark (reference_of e.picture)) h)
      (reference_is_stored n es)

  -- after the marks that a set leaves
  pub set_among : (set : RefPicSet) (es : List (DpbEntry T))
      → ((n : ℕ) → names n (all_members (plain_set set)) ≡ true → has_reference n (plain_entries es) ≡ true)
      → SetNamesAmong (reference_numbers es) set
  set_among set es are n h = reference_is_stored n es (are n h)

  pub set_stored : (set : RefPicSet) (es : List (DpbEntry T)) → SetNamesAmong (reference_numbers es) set
      → SetNamesAmong (numbers es) set
  set_stored set es among n h = map_filter_part (λ e. e.number) is_ref es n (among n h)

pub list0_among : (ns : List ℕ) (set : RefPicSet) (s : Slice) (list : RefPicList)
    → plain_places (places_of list) ≡ ref_pic_list0 (plain_set set) s → SetNamesAmong ns set → ListNamesAmong ns list
list0_among ns set s list is among n h = among n (list0_named (plain_set set) s n (subst (λ l. lists n l ≡ true) is h))

pub list1_among : (ns : List ℕ) (set : RefPicSet) (s : Slice) (list : RefPicList)
    → plain_places (places_of list) ≡ ref_pic_list1 (plain_set set) s → SetNamesAmong ns set → ListNamesAmong ns list
list1_among ns set s list is among n h = among n (list1_named (plain_set set) s n (subst (λ l. lists n l ≡ true) is h))
