-- Which numbers some members name.
use Rattle.std.proofs.Common.{◌≡◌, ℕ, Bool, true, false, cond, not, ◌||◌, eqb, List, [], ◌∷◌, ◌++◌}
use Rattle.std.proofs.Common.{map, filter, refl, sym, ap, ◌∙◌}
use Rattle.std.specs.Prelude.{Option, Some, None}
use Rattle.hevc_walk.specs.ReferenceSets.{names}

or_assoc : (a b c : Bool) → (a || (b || c)) ≡ ((a || b) || c)
or_assoc true b c = refl
or_assoc false b c = refl

pub names_append : (n : ℕ) (xs ys : List (Option ℕ)) → names n (xs ++ ys) ≡ (names n xs || names n ys)
names_append n [] ys = refl
names_append n (None ∷ xs) ys = names_append n xs ys
names_append n (Some m ∷ xs) ys = ap (λ b. eqb m n || b) (names_append n xs ys)
    ∙ or_assoc (eqb m n) (names n xs) (names n ys)

names_first : (n : ℕ) (o : Option ℕ) (xs : List (Option ℕ)) → names n (o ∷ xs) ≡ (names n (o ∷ []) || names n xs)
names_first n o xs = names_append n (o ∷ []) xs

later : (a b c : Bool) → (a || (b || c)) ≡ (b || (a || c))
later true true c = refl
later true false c = refl
later false b c = refl

-- members of two kinds, apart, name the same
pub names_split : {X : Type 0} (n : ℕ) (f : X → Option ℕ) (u : X → Bool) (ms : List X)
    → (names n (map f (filter u ms)) || names n (map f (filter (λ m. not (u m)) ms))) ≡ names n (map f ms)
names_split n f u [] = refl
names_split n f u (m ∷ ms) = by_test (u m) ∙ ap (λ b. names n (f m ∷ []) || b) (names_split n f u ms)
    ∙ sym (names_first n (f m) (map f ms))
  where
    by_test : (b : Bool)
        → (names n (map f (cond b (m ∷ filter u ms) (filter u ms))) || names n
        (map f (cond (not b) (m ∷ filter (λ x. not (u x)) ms) (filter (λ x. not (u x)) ms))))
        ≡ (names n (f m ∷ []) || (names n (map f (filter u ms)) || names n (map f (filter (λ x. not (u x)) ms))))
    by_test true =
        ap (λ b. b || names n (map f (filter (λ x. not (u x)) ms)))
        (names_first n (f m) (map f (filter u ms)))
        ∙ sym (or_assoc (names n (f m ∷ [])) (names n (map f (filter u ms)))
        (names n (map f (filter (λ x. not (u x)) ms))))
    by_test false =
        ap (λ b. names n (map f (filter u ms)) || b)
        (names_first n (f m) (map f (filter (λ x. not (u x)) ms)))
        ∙ later (names n (map f (filter u ms))) (names n (f m ∷ [])) (names n (map f (filter (λ x. not (u x)) ms)))
