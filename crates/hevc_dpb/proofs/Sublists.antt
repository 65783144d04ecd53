-- What a list keeps as some of its members are left out.
use Rattle.std.proofs.Common.{⊎_elim, ℕ, ◌≤◌, Bool, true, false, cond, List, [], ◌∷◌, length, map, subst, arith}
use Rattle.std.specs.Prelude.{Contains, filter}
use Rattle.hevc_dpb.specs.Entries.{IsPartOf}
use Rattle.hevc_dpb.specs.Numbers.{Absent, Distinct}
use Rattle.hevc_dpb.specs.Sublists.{IsSublist, nothing, kept, left_out}
use Rattle.hevc_dpb.proofs.Members.{contains_first, contains_later, contains_cases}

module _ {X : Type 0} where
  pub sublist_all : (xs : List X) → IsSublist xs xs
  sublist_all [] = nothing
  sublist_all (x ∷ xs) = kept x xs xs (sublist_all xs)

  pub sublist_few : {xs ys : List X} → IsSublist xs ys → length xs ≤ length ys
  sublist_few nothing = omega arith
  sublist_few (kept x xs ys s) = let l = sublist_few s in omega (arith, l)
  sublist_few (left_out y xs ys s) = let l = sublist_few s in omega (arith, l)

  pub sublist_part : {xs ys : List X} → IsSublist xs ys → IsPartOf xs ys
  sublist_part nothing = λ z h. h
  sublist_part (kept x xs ys s) = λ z h. ⊎_elim (λ is. subst (Contains (x ∷ ys)) is (contains_first x ys))
      (λ k. contains_later x z ys (sublist_part s z k)) (contains_cases x z xs h)
  sublist_part (left_out y xs ys s) = λ z h. contains_later y z ys (sublist_part s z h)

  sublist_absent : (f : X → ℕ) (n : ℕ) {xs ys : List X} → IsSublist xs ys → Absent n (map f ys) → Absent n (map f xs)
  sublist_absent f n nothing h = h
  sublist_absent f n (kept x xs ys s) h = (h.0, sublist_absent f n s h.1)
  sublist_absent f n (left_out y xs ys s) h = sublist_absent f n s h.1

  pub sublist_distinct : (f : X → ℕ) {xs ys : List X} → IsSublist xs ys → Distinct (map f ys) → Distinct (map f xs)
  sublist_distinct f nothing h = h
  sublist_distinct f (kept x xs ys s) h = (sublist_absent f (f x) s h.0, sublist_distinct f s h.1)
  sublist_distinct f (left_out y xs ys s) h = sublist_distinct f s h.1

  filter_by_test : {Y : Type 0} (f : X → Y) (x : X) (xs : List X) (ys : List Y) (b : Bool)
      → IsSublist (map f xs) ys → IsSublist (map f (cond b (x ∷ xs) xs)) (f x ∷ ys)
  filter_by_test f x xs ys true s = kept (f x) (map f xs) ys s
  filter_by_test f x xs ys false s = left_out (f x) (map f xs) ys s

  pub filter_sublist : {Y : Type 0} (f : X → Y) (p : X → Bool) (xs : List X)
      → IsSublist (map f (filter p xs)) (map f xs)
  filter_sublist f p [] = nothing
  filter_sublist f p (x ∷ xs) = filter_by_test f x (filter p xs) (map f xs) (p x) (filter_sublist f p xs)
