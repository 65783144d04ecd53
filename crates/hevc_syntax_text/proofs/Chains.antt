-- Texts that are added one after the other.
use Rattle.std.proofs.Common.{◌≡◌, ◌++◌, ℕ, List, ap, ◌∙◌, append_assoc, Result, Ok, Err}
use Rattle.std.specs.Prelude.{OnOk, is_ok, if◌then◌else◌}

-- four of them
pub four : (old a b c d t u v w : List ℕ) → t ≡ old ++ a → u ≡ t ++ b → v ≡ u ++ c → w ≡ v ++ d
    → w ≡ old ++ (a ++ b ++ c ++ d)
four old a b c d t u v w e f g h =
    h ∙ ap (λ (x : List ℕ). x ++ d) (g ∙ ap (λ (x : List ℕ). x ++ c) (f ∙ ap (λ (x : List ℕ). x ++ b) e))
    ∙ simp append_assoc

-- three of them
pub three : (old a b c : List ℕ) → ((old ++ a) ++ b) ++ c ≡ old ++ (a ++ b ++ c)
three old a b c = simp append_assoc

-- and step by step
pub three_steps : (old a b c t u w : List ℕ) → t ≡ old ++ a → u ≡ t ++ b → w ≡ u ++ c → w ≡ old ++ (a ++ b ++ c)
three_steps old a b c t u w e f g =
    g ∙ ap (λ (x : List ℕ). x ++ c) (f ∙ ap (λ (x : List ℕ). x ++ b) e) ∙ three old a b c

-- what is added where nothing fails
pub grown : {T E : Type 0} (r : Result T E) (t u x : List ℕ) → u ≡ (if is_ok r then t ++ x else t)
    → OnOk r (u ≡ t ++ x)
grown (Ok y) t u x e = e
grown (Err f) t u x e = tt

-- five texts, one after the other
pub five_parts : (old a b c d e : List ℕ)
    → ((((old ++ a) ++ b) ++ c) ++ d) ++ e ≡ old ++ (a ++ b ++ c ++ d ++ e)
five_parts old a b c d e = simp append_assoc
