-- Units that wait are tried once more, one after the other.
use Rattle.std.proofs.Common.{◌≡◌, ℕ, suc, List, [], ◌∷◌, ◌++◌, length, refl, ap, sym, ◌∙◌, arith}
use Rattle.std.specs.Prelude.{fold}
use Rattle.std.proofs.lemmas.List.Sums.{fold_push}
use Rattle.hevc_stream.specs.Options.{Options}
use Rattle.hevc_stream.specs.Kept.{Kept}
use Rattle.hevc_stream.specs.Contents.{Content, refused, video_set, sequence_set, picture_set}
use Rattle.hevc_stream.specs.Contents.{unread_picture_set, slice, end_of_sequence, end_of_bitstream}
use Rattle.hevc_stream.specs.Contents.{nothing, content}
use Rattle.hevc_stream.specs.Stream.{with_picture_set_unit, with_waited, with_all_waited}
use Rattle.hevc_kept_sets.specs.Takes.{first_waited}

append_nil : {A : Type 0} (xs : List A) → xs ++ [] ≡ xs
append_nil [] = refl
append_nil (x ∷ xs) = ap (λ ys. x ∷ ys) (append_nil xs)

append_assoc : {A : Type 0} (xs ys zs : List A) → (xs ++ ys) ++ zs ≡ xs ++ (ys ++ zs)
append_assoc [] ys zs = refl
append_assoc (x ∷ xs) ys zs = ap (λ rest. x ∷ rest) (append_assoc xs ys zs)

-- ---- other units that wait

-- these wait in place of those that wait
abbrev pub waited_by : List (List ℕ) → Kept → Kept
waited_by waiting kept = record kept { waiting = waiting }

-- what a unit is doesn't depend on the units that wait
pub same_content : (options : Options) (kept : Kept) (waiting : List (List ℕ)) (bytes : List ℕ)
    → content options (waited_by waiting kept) bytes ≡ content options kept bytes
unfolding content
same_content options kept waiting bytes = refl

unit_behind : (front : List (List ℕ)) (bytes : List ℕ) (c : Content) (kept : Kept)
    → with_picture_set_unit bytes c (waited_by (front ++ kept.waiting) kept) ≡ waited_by
    (front ++ (with_picture_set_unit bytes c kept).waiting) (with_picture_set_unit bytes c kept)
unit_behind front bytes (picture_set set) kept = refl
unit_behind front bytes unread_picture_set kept =
    ap (λ (ws : List (List ℕ)). waited_by ws kept) (append_assoc front kept.waiting (bytes ∷ []))
unit_behind front bytes (refused cause) kept = refl
unit_behind front bytes (video_set set) kept = refl
unit_behind front bytes (sequence_set set) kept = refl
unit_behind front bytes (slice header segment) kept = refl
unit_behind front bytes end_of_sequence kept = refl
unit_behind front bytes end_of_bitstream kept = refl
unit_behind front bytes nothing kept = refl

module _ (options : Options) where
  waited_behind : (front : List (List ℕ)) (bytes : List ℕ) (kept : Kept)
      → with_waited options (waited_by (front ++ kept.waiting) kept) bytes ≡ waited_by
      (front ++ (with_waited options kept bytes).waiting) (with_waited options kept bytes)
  waited_behind front bytes kept =
      ap (λ (c : Content). with_picture_set_unit bytes c (waited_by (front ++ kept.waiting) kept))
      (same_content options kept (front ++ kept.waiting) bytes)
      ∙ unit_behind front bytes (content options kept bytes) kept

  module _ (old : Kept) where
    -- what is kept once these units were tried
    abbrev behind : List (List ℕ) → Kept
    behind tried = fold (with_waited options) (waited_by [] old) tried

    behind_push : (tried : List (List ℕ)) (bytes : List ℕ)
        → behind (tried ++ bytes ∷ []) ≡ with_waited options (behind tried) bytes
    behind_push tried bytes = fold_push (with_waited options) (waited_by [] old) tried bytes

    -- all units but as many were tried; these are before those that wait still
    pub record IsUnderway (now : Kept) (left : ℕ) : Type 0 where
      pub tried : List (List ℕ)
      pub others : List (List ℕ)
      pub split : old.waiting ≡ tried ++ others
      pub count : length others ≡ left
      pub stands : now ≡ waited_by (others ++ (behind tried).waiting) (behind tried)

    one_more : (now new : Kept) (left : ℕ) (tried others : List (List ℕ)) → old.waiting ≡ tried ++ others
        → length others ≡ suc left → now ≡ waited_by (others ++ (behind tried).waiting) (behind tried)
        → new ≡ first_waited options now.waiting now → IsUnderway new left
    one_more now new left tried [] split count stands is = absurd (omega (arith, count))
    one_more now new left tried (bytes ∷ others) split count stands is =
        let step : new ≡ with_waited options (waited_by (others ++ (behind tried).waiting) (behind tried))
        bytes = is ∙ ap (λ (k : Kept). first_waited options k.waiting k) stands in
        record {
          tried = tried ++ bytes ∷ [];
          others = others;
          split = split ∙ sym (append_assoc tried (bytes ∷ []) others);
          count = omega (arith, count);
          stands = step ∙ waited_behind others bytes (behind tried)
              ∙ ap (λ (k : Kept). waited_by (others ++ k.waiting) k) (sym (behind_push tried bytes));
        }

    pub moved_on : (now new : Kept) (more left : ℕ) → more ≡ suc left → IsUnderway now more
        → new ≡ first_waited options now.waiting now → IsUnderway new left
    moved_on now new more left same is by =
        one_more now new left is.tried is.others is.split (is.count ∙ same) is.stands by

    -- none is left to try
    pub finished : (now : Kept) (left : ℕ) → left ≡ 0 → IsUnderway now left → now ≡ with_all_waited options old
    finished now left none is = by_others is.others (is.count ∙ none) is.split is.stands
      where
        by_others : (others : List (List ℕ)) → length others ≡ 0 → old.waiting ≡ is.tried ++ others
            → now ≡ waited_by (others ++ (behind is.tried).waiting) (behind is.tried)
            → now ≡ with_all_waited options old
        by_others [] count split stands = stands ∙ ap behind (sym (split ∙ append_nil is.tried))
        by_others (bytes ∷ others) count split stands = absurd (omega (arith, count))

-- the first unit waits on, unread
pub untried : (options : Options) (others : List (List ℕ)) (bytes : List ℕ) (kept : Kept)
    → content options kept bytes ≡ unread_picture_set
    → waited_by (others ++ bytes ∷ []) kept ≡ with_waited options (waited_by others kept) bytes
untried options others bytes kept unread =
    sym (ap (λ (c : Content). with_picture_set_unit bytes c (waited_by others kept))
    (same_content options kept others bytes ∙ unread))
