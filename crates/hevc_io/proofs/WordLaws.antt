-- The words of a command line, one after another.
use Rattle.std.proofs.Common.{◌≡◌, ℕ, zero, suc, ◌+◌, ◌*◌, ◌^◌, ◌%◌, ◌<◌, ◌≤◌, List, [], ◌∷◌, ◌++◌}
use Rattle.std.proofs.Common.{length, take, refl, ap, sym, ◌∙◌, subst, arith, Option, Some, None}
use Rattle.std.proofs.Math.Nat.{mod-eq_of_lt, pow-suc}
use Rattle.std.proofs.Math.Numerals.{suc-eq-add-one}
use Rattle.std.proofs.Math.Pow.{pow_mono}
use Rattle.std.specs.Prelude.{IsSomeAnd, IfSome, slice_get}
use Rattle.std.specs.declared.env.FillError.TheVariants.{TooLong}
use Rattle.hevc_io.specs.Words.{HandsOver}

-- a word is longer than a room that it doesn't fit
pub longer_than : (word : Option (List ℕ)) (room : List ℕ) (n : ℕ)
    → HandsOver word (Rattle.std.specs.Prelude.Err TooLong) room → n ≡ length room → IsSomeAnd word (λ w. n < length w)
longer_than None room n h is = absurd h
longer_than (Some w) room n h is = subst (λ (k : ℕ). k < length w) (sym is) h

pub longer_as : (word : Option (List ℕ)) (n m : ℕ) → n ≡ m → IsSomeAnd word (λ w. n < length w)
    → IsSomeAnd word (λ w. m < length w)
longer_as word n m is h = subst (λ (k : ℕ). IsSomeAnd word (λ w. k < length w)) is h

-- one word more
pub take_more : (n : ℕ) (words : List (List ℕ)) (word : List ℕ) → Some word ≡ slice_get words n
    → take n words ++ word ∷ [] ≡ take (suc n) words
take_more n [] word is = absurd (cc is)
take_more zero (w ∷ ws) word is = let same : word ≡ w = cc is in ap (λ (x : List ℕ). x ∷ []) same
take_more (suc n) (w ∷ ws) word is = ap (λ (xs : List (List ℕ)). w ∷ xs) (take_more n ws word is)

-- all of them
pub take_all : (n : ℕ) (words : List (List ℕ)) → None ≡ slice_get words n → take n words ≡ words
take_all zero [] is = refl
take_all (suc n) [] is = refl
take_all zero (w ∷ ws) is = absurd (cc is)
take_all (suc n) (w ∷ ws) is = ap (λ (xs : List (List ℕ)). w ∷ xs) (take_all n ws is)

-- what follows of the words, where they are exposed
pub told_by : (told : Option (List (List ℕ))) (P Q : List (List ℕ) → Type 0)
    → ((words : List (List ℕ)) → P words → Q words) → IfSome told P → IfSome told Q
told_by None P Q follows p = tt
told_by (Some words) P Q follows p = follows words p

pub told_both : (told : Option (List (List ℕ))) (P Q R : List (List ℕ) → Type 0)
    → ((words : List (List ℕ)) → P words → Q words → R words) → IfSome told P → IfSome told Q → IfSome told R
told_both None P Q R follows p q = tt
told_both (Some words) P Q R follows p q = follows words p q

pub told_all : (told : Option (List (List ℕ))) (P : List (List ℕ) → Type 0)
    → ((words : List (List ℕ)) → P words) → IfSome told P
told_all None P holds = tt
told_all (Some words) P holds = holds words

-- the room that was tried is half of the next one
pub doubled : (d : ℕ) → d < 16 → (64 * 2 ^ d) % 18446744073709551616 ≡ 32 * 2 ^ (d + 1)
doubled d less =
    let few : 2 ^ d ≤ 32768 = pow_mono {i = d} {j = 15} (omega (arith, less)) in
    let small : 64 * 2 ^ d < 18446744073709551616 = omega (arith, few) in
    let more : 2 ^ (d + 1) ≡ 2 ^ d * 2 = ap (λ (k : ℕ). 2 ^ k) (sym (suc-eq-add-one d)) ∙ pow-suc 2 d in
    mod-eq_of_lt small ∙ omega (arith, more)
