-- What has the same content is kept alike, and means the same for the pictures.
use Rattle.std.proofs.Common.{◌≡◌, ℕ, true, List, [], ◌∷◌, refl, ap, ap₂, ◌∙◌, inl, inr}
use Rattle.std.specs.Prelude.{◌⊎◌}
use Rattle.hevc_spec.specs.Units.{NalUnit}
use Rattle.hevc_walk.specs.Meanings.{Meaning}
use Rattle.hevc_stream.specs.Options.{Options}
use Rattle.hevc_stream.specs.Kept.{Kept}
use Rattle.hevc_stream.specs.Contents.{Content, refused, video_set, sequence_set, picture_set}
use Rattle.hevc_stream.specs.Contents.{unread_picture_set, slice, end_of_sequence, end_of_bitstream}
use Rattle.hevc_stream.specs.Contents.{nothing, content}
use Rattle.hevc_stream.specs.Stream.{with_content, kept_behind, meaning_of, meaning, meanings_behind}
use Rattle.hevc_rewrite_laws.specs.Replaced.{is_all, MeansTheSame, StandFor}

module _ (options : Options) (kept : Kept) (bytes others : List ℕ) where
  -- content of all sub-layers is kept whatever the bytes are
  kept_alike : (c : Content) → is_all c ≡ true → with_content options others c kept ≡ with_content options bytes c kept
  kept_alike (refused cause) e = refl
  kept_alike (video_set set) e = refl
  kept_alike (sequence_set set) e = refl
  kept_alike (picture_set set) e = refl
  kept_alike unread_picture_set e = absurd cc
  kept_alike (slice h s) e = absurd cc
  kept_alike end_of_sequence e = refl
  kept_alike end_of_bitstream e = refl
  kept_alike nothing e = refl

  -- and means the same
  meaning_alike : (c : Content) → is_all c ≡ true → meaning_of options kept others c ≡ meaning_of options kept bytes c
  meaning_alike (refused cause) e = refl
  meaning_alike (video_set set) e = refl
  meaning_alike (sequence_set set) e = refl
  meaning_alike (picture_set set) e = refl
  meaning_alike unread_picture_set e = absurd cc
  meaning_alike (slice h s) e = absurd cc
  meaning_alike end_of_sequence e = refl
  meaning_alike end_of_bitstream e = refl
  meaning_alike nothing e = refl

  -- after a unit that stands for another the same is kept
  one_kept : (others ≡ bytes) ⊎ MeansTheSame options kept bytes others
      → kept_behind options kept others ≡ kept_behind options kept bytes
  unfolding kept_behind
  one_kept (inl e) = ap (λ (b : List ℕ). with_content options b (content options kept b) kept) e
  one_kept (inr h) = ap (λ (c : Content). with_content options others c kept) h.same
      ∙ kept_alike (content options kept bytes) h.all

  -- and it means the same
  one_meaning : (others ≡ bytes) ⊎ MeansTheSame options kept bytes others
      → meaning options kept others ≡ meaning options kept bytes
  unfolding meaning
  one_meaning (inl e) = ap (λ (b : List ℕ). meaning_of options kept b (content options kept b)) e
  one_meaning (inr h) = ap (λ (c : Content). meaning_of options kept others c) h.same
      ∙ meaning_alike (content options kept bytes) h.all

-- so do all units after it
pub same_meanings : (options : Options) (kept : Kept) (us vs : List NalUnit) → StandFor options kept us vs
    → meanings_behind options kept vs ≡ meanings_behind options kept us
same_meanings options kept [] [] h = refl
same_meanings options kept [] (v ∷ vs) h = absurd h
same_meanings options kept (u ∷ us) [] h = absurd h
same_meanings options kept (u ∷ us) (v ∷ vs) h =
    let rest = same_meanings options (kept_behind options kept u.bytes) us vs h.1 in
    let kept_is = one_kept options kept u.bytes v.bytes h.0 in
    ap₂ (λ (m : Meaning) (ms : List Meaning). m ∷ ms) (one_meaning options kept u.bytes v.bytes h.0)
    (ap (λ (k : Kept). meanings_behind options k vs) kept_is ∙ rest)
