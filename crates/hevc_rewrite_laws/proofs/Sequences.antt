-- Which sequence sets are kept after a unit.
use Rattle.std.proofs.Common.{◌≡◌, ℕ, Bool, true, false, List, [], ◌∷◌, refl, ap, ◌∙◌}
use Rattle.std.specs.Prelude.{fold}
use Rattle.hevc_records.specs.Sps.{PlainSps}
use Rattle.hevc_stream.specs.Contents.{Content, refused, video_set, sequence_set, picture_set}
use Rattle.hevc_stream.specs.Contents.{unread_picture_set, slice, end_of_sequence, end_of_bitstream}
use Rattle.hevc_stream.specs.Contents.{nothing, content}
use Rattle.hevc_stream.specs.Kept.{Kept, with_sequence_set, with_set}
use Rattle.hevc_stream.specs.Options.{default_options}
use Rattle.hevc_stream.specs.Stream.{kept_behind, with_content, with_picture_set_unit, with_waited}

abbrev pub is_sequence_set : Content → Bool
is_sequence_set (sequence_set set) = true
is_sequence_set other = false

-- a picture set changes no sequence set
unit_sequences : (bytes : List ℕ) (kept : Kept) (c : Content)
    → (with_picture_set_unit bytes c kept).sequence_sets ≡ kept.sequence_sets
unit_sequences bytes kept (refused cause) = refl
unit_sequences bytes kept (video_set set) = refl
unit_sequences bytes kept (sequence_set set) = refl
unit_sequences bytes kept (picture_set set) = refl
unit_sequences bytes kept unread_picture_set = refl
unit_sequences bytes kept (slice h s) = refl
unit_sequences bytes kept end_of_sequence = refl
unit_sequences bytes kept end_of_bitstream = refl
unit_sequences bytes kept nothing = refl

-- nor do picture sets that waited
waited_sequences : (waiting : List (List ℕ)) (kept : Kept)
    → (fold (with_waited default_options) kept waiting).sequence_sets ≡ kept.sequence_sets
waited_sequences [] kept = refl
waited_sequences (bytes ∷ waiting) kept = waited_sequences waiting (with_waited default_options kept bytes)
    ∙ unit_sequences bytes kept (content default_options kept bytes)

-- nor does anything but a sequence set
content_sequences : (bytes : List ℕ) (kept : Kept) (c : Content) → is_sequence_set c ≡ false
    → (with_content default_options bytes c kept).sequence_sets ≡ kept.sequence_sets
content_sequences bytes kept (refused cause) e = refl
content_sequences bytes kept (video_set set) e = refl
content_sequences bytes kept (sequence_set set) e = absurd cc
content_sequences bytes kept (picture_set set) e = refl
content_sequences bytes kept unread_picture_set e = refl
content_sequences bytes kept (slice h s) e = refl
content_sequences bytes kept end_of_sequence e = refl
content_sequences bytes kept end_of_bitstream e = refl
content_sequences bytes kept nothing e = refl

-- nor does a unit without one
pub other_sequences : (bytes : List ℕ) (kept : Kept) (c : Content) → content default_options kept bytes ≡ c
    → is_sequence_set c ≡ false → (kept_behind default_options kept bytes).sequence_sets ≡ kept.sequence_sets
unfolding kept_behind
other_sequences bytes kept c e other =
    content_sequences bytes kept (content default_options kept bytes) (ap is_sequence_set e ∙ other)

-- a sequence set is kept under its id
pub own_sequences : (bytes : List ℕ) (kept : Kept) (set : PlainSps)
    → content default_options kept bytes ≡ sequence_set set
    → (kept_behind default_options kept bytes).sequence_sets ≡ with_set set.seq_parameter_set_id set kept.sequence_sets
unfolding kept_behind
own_sequences bytes kept set e =
    ap (λ (c : Content). (with_content default_options bytes c kept).sequence_sets) e
    ∙ waited_sequences kept.waiting (record (with_sequence_set set kept) { waiting = [] })
