-- Members that are gone through one by one.
use Rattle.std.proofs.Common.{◌≡◌, ℕ, ◌+◌, add-one, Bool, true, false, cond, List, [], ◌∷◌, ◌++◌}
use Rattle.std.proofs.Common.{map, filter, refl, sym, ap, ◌∙◌}
use Rattle.std.specs.Prelude.{Some}
use Rattle.std.proofs.lemmas.List.{map-append, append_assoc, append-nil}
use Rattle.std.proofs.lemmas.List.Elements.{filter-append}
use Rattle.hevc_walk.specs.Buffer.{Buffer, Entry}
use Rattle.hevc_walk.specs.ReferenceSets.{first_number}
use Rattle.hevc_walk.specs.ReferenceLists.{numbers_below}

-- two tests that say the same find the same
pub first_number_same : (p q : Entry → Bool) → ((e : Entry) → p e ≡ q e) → (es : Buffer)
    → first_number p es ≡ first_number q es
first_number_same p q same [] = refl
first_number_same p q same (e ∷ es) = ap (λ b. cond b (Some e.number) (first_number p es)) (same e)
    ∙ ap (λ o. cond (q e) (Some e.number) o) (first_number_same p q same es)

pub below_more : (i : ℕ) → numbers_below (i + 1) ≡ numbers_below i ++ i ∷ []
below_more i = ap numbers_below (add-one i)

-- one member more, where it is wanted
pub wanted_more : {X Y : Type 0} (f : X → Y) (p : X → Bool) (member : ℕ → X) (first : List Y) (i : ℕ)
    (old new : List Y) (y : Y) (b : Bool)
    → old ≡ first ++ map f (filter p (map member (numbers_below i))) → y ≡ f (member i) → b ≡ p (member i)
    → new ≡ cond b (old ++ y ∷ []) old
    → new ≡ first ++ map f (filter p (map member (numbers_below (i + 1))))
wanted_more f p member first i old new y b so_far is is_b last =
    last
    ∙ ap (λ c. cond c (old ++ y ∷ []) old) is_b
    ∙ ap (λ z. cond (p (member i)) (old ++ z ∷ []) old) is
    ∙ by_test (p (member i))
    ∙ ap (λ l. first ++ map f l)
    (sym (ap (filter p) (ap (map member) (below_more i) ∙ map-append member (numbers_below i) (i ∷ []))
    ∙ filter-append p (map member (numbers_below i)) (member i ∷ [])))
  where
    by_test : (c : Bool)
        → cond c (old ++ f (member i) ∷ []) old ≡ first
        ++ map f (filter p (map member (numbers_below i)) ++ cond c (member i ∷ []) [])
    by_test true = ap (λ l. l ++ f (member i) ∷ []) so_far
        ∙ append_assoc first (map f (filter p (map member (numbers_below i)))) (f (member i) ∷ [])
        ∙ ap (λ l. first ++ l) (sym (map-append f (filter p (map member (numbers_below i))) (member i ∷ [])))
    by_test false =
        so_far ∙ ap (λ l. first ++ l) (sym (ap (map f) (append-nil (filter p (map member (numbers_below i))))))
