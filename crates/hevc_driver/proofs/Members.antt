-- Members of joined lists.
use Rattle.std.proofs.Common.{◌⊎◌, inl, inr, ⊎_elim, List, [], ◌∷◌, ◌++◌, subst, arith}
use Rattle.std.specs.Prelude.{Contains}
use Rattle.hevc_dpb.proofs.Members.{contains_first, contains_later, contains_cases}

module _ {X : Type 0} where
  pub part_left : (x : X) (xs ys : List X) → Contains xs x → Contains (xs ++ ys) x
  part_left x [] ys h = absurd (let l = h.1 in omega arith)
  part_left x (z ∷ xs) ys h = ⊎_elim (λ e. subst (Contains (z ∷ xs ++ ys)) e (contains_first z (xs ++ ys)))
      (λ k. contains_later z x (xs ++ ys) (part_left x xs ys k)) (contains_cases z x xs h)

  pub part_right : (x : X) (xs ys : List X) → Contains ys x → Contains (xs ++ ys) x
  part_right x [] ys h = h
  part_right x (z ∷ xs) ys h = contains_later z x (xs ++ ys) (part_right x xs ys h)

  pub part_either : (x : X) (xs ys : List X) → Contains (xs ++ ys) x → Contains xs x ⊎ Contains ys x
  part_either x [] ys h = inr h
  part_either x (z ∷ xs) ys h = ⊎_elim (λ e. inl (subst (Contains (z ∷ xs)) e (contains_first z xs)))
      (λ k. ⊎_elim (λ a. inl (contains_later z x xs a)) (λ b. inr b) (part_either x xs ys k))
      (contains_cases z x (xs ++ ys) h)
