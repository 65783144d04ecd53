-- The arrays of a side.
use Rattle.std.proofs.Common.{◌≡◌, ℕ, suc, ◌+◌, ◌-◌, ◌<◌, List, [], ◌∷◌, ◌++◌, length, set, map}
use Rattle.std.proofs.Common.{replicate, refl, ◌∙◌, arith}
use Rattle.std.proofs.lemmas.List.{set_at, append_assoc, length-append, length-map, map-append}
use Rattle.hevc_tables.specs.declared.short_term_member.ShortTermMember.{ShortTermMember}
use Rattle.hevc_tables.specs.ShortTermTable.{array_of}

-- an element after those that an array begins with
array_more : {A : Type 0} (empty : A) (xs : List A) (v : A) → length xs < 16
    → set (array_of empty xs) (length xs) v ≡ array_of empty (xs ++ v ∷ [])
array_more empty xs v room =
    let k : 16 - length xs ≡ suc (16 - (length xs + 1)) = omega arith in
    rw (
      k,
      set_at xs empty (replicate (16 - (length xs + 1)) empty) v (length xs) refl,
      length-append xs (v ∷ []),
      append_assoc,
    ) refl

pub seen_more : {A : Type 0} (f : ShortTermMember → A) (empty : A) (ms : List ShortTermMember)
    (m : ShortTermMember) (place : ℕ) → place ≡ length ms → place < 16
    → set (array_of empty (map f ms)) place (f m) ≡ array_of empty (map f (ms ++ m ∷ []))
seen_more f empty ms m place is room =
    let long : place ≡ length (map f ms) = is ∙ rw length-map refl in
    rw (map-append f ms (m ∷ []), long) (array_more empty (map f ms) (f m) (omega (arith, long)))
