-- What waits can't be read yet.
use Rattle.std.proofs.Common.{◌≡◌, ℕ, List, [], ◌∷◌, refl, subst}
use Rattle.std.specs.Prelude.{All, Option, fold}
use Rattle.std.proofs.lemmas.List.Elements.{All-nil, All-push, All-weaker}
use Rattle.hevc_spec.specs.Units.{NalUnit}
use Rattle.hevc_spec.specs.Payload.{payload}
use Rattle.hevc_records.specs.Sps.{PlainSps}
use Rattle.hevc_tables.specs.PpsTable.{picture_parameter_set}
use Rattle.hevc_stream.specs.Options.{Options}
use Rattle.hevc_stream.specs.Kept.{Kept, none_kept, with_sequence_set}
use Rattle.hevc_stream.specs.Slices.{temporal_id}
use Rattle.hevc_stream.specs.Contents.{Content, refused, video_set, sequence_set, picture_set}
use Rattle.hevc_stream.specs.Contents.{unread_picture_set, slice, end_of_sequence, end_of_bitstream}
use Rattle.hevc_stream.specs.Contents.{nothing, content}
use Rattle.hevc_stream.specs.Stream.{with_picture_set_unit, with_waited, with_content, kept_behind, kept_behind_all}
use Rattle.hevc_stream_laws.specs.UnitMeans.{MeansBy, spells, breaks_off, unread, is_video_set}
use Rattle.hevc_stream_laws.specs.UnitMeans.{is_sequence_set, is_picture_set, is_slice_segment}
use Rattle.hevc_stream_laws.specs.UnitMeans.{ends_sequence, ends_bitstream, comes_first, is_other}
use Rattle.hevc_stream_laws.specs.UnitMeans.{Means, is_faulty, is_unwanted, is_wanted}
use Rattle.hevc_stream_laws.proofs.OneContent.{means_content, only_content}

-- a unit that can't be read is one that can't be read after the same sequence sets
unread_by : (options : Options) (kept other : Kept) (bytes : List ℕ)
    → kept.sequence_sets ≡ other.sequence_sets → Means options kept bytes unread_picture_set
    → Means options other bytes unread_picture_set
unread_by options kept other bytes same (is_faulty fault e m) = absurd cc
unread_by options kept other bytes same (is_unwanted h e above m) = absurd cc
unread_by options kept other bytes same (is_wanted h e below (is_picture_set t m)) =
    is_wanted h e below
    (is_picture_set t
    (subst (λ (sets : ℕ → Option PlainSps). MeansBy (picture_parameter_set (temporal_id h) sets) picture_set
    unread (payload bytes) unread_picture_set) same m))
unread_by options kept other bytes same (is_wanted h e below (is_sequence_set t (spells x rest s m))) = absurd cc
unread_by options kept other bytes same
    (is_wanted h e below (is_sequence_set t (breaks_off fault rest b m))) = absurd cc
unread_by options kept other bytes same (is_wanted h e below (is_video_set t (spells x rest s m))) = absurd cc
unread_by options kept other bytes same (is_wanted h e below (is_video_set t (breaks_off fault rest b m))) = absurd cc
unread_by options kept other bytes same (is_wanted h e below (is_slice_segment has t (spells x rest s m))) = absurd cc
unread_by options kept other bytes same
    (is_wanted h e below (is_slice_segment has t (breaks_off fault rest b m))) = absurd cc
unread_by options kept other bytes same (is_wanted h e below (ends_sequence has t m)) = absurd cc
unread_by options kept other bytes same (is_wanted h e below (ends_bitstream has t m)) = absurd cc
unread_by options kept other bytes same (is_wanted h e below (comes_first has n m)) = absurd cc
unread_by options kept other bytes same (is_wanted h e below (is_other n o m)) = absurd cc

module _ (options : Options) where
  abbrev Unread : Kept → List ℕ → Type 0
  Unread kept bytes = content options kept bytes ≡ unread_picture_set

  unread_still : (kept other : Kept) → kept.sequence_sets ≡ other.sequence_sets → (bytes : List ℕ)
      → Unread kept bytes → Unread other bytes
  unread_still kept other same bytes e =
      let means : Means options kept bytes unread_picture_set = rw (← e) (means_content options kept bytes) in
      only_content options other bytes unread_picture_set (unread_by options kept other bytes same means)

  all_still : (kept other : Kept) → kept.sequence_sets ≡ other.sequence_sets
      → All (Unread kept) kept.waiting → All (Unread other) kept.waiting
  all_still kept other same all =
      All-weaker (Unread kept) (Unread other) (unread_still kept other same) kept.waiting all

  picture_unit_waits : (kept : Kept) (bytes : List ℕ) (c : Content) → content options kept bytes ≡ c
      → All (Unread kept) kept.waiting
      → All (Unread (with_picture_set_unit bytes c kept)) (with_picture_set_unit bytes c kept).waiting
  picture_unit_waits kept bytes (picture_set set) e all =
      all_still kept (with_picture_set_unit bytes (picture_set set) kept) refl all
  picture_unit_waits kept bytes unread_picture_set e all =
      let behind = with_picture_set_unit bytes unread_picture_set kept in
      All-push (Unread behind) kept.waiting bytes (all_still kept behind refl all)
      (unread_still kept behind refl bytes e)
  picture_unit_waits kept bytes (refused cause) e all = all
  picture_unit_waits kept bytes (video_set set) e all = all
  picture_unit_waits kept bytes (sequence_set set) e all = all
  picture_unit_waits kept bytes (slice header segment) e all = all
  picture_unit_waits kept bytes end_of_sequence e all = all
  picture_unit_waits kept bytes end_of_bitstream e all = all
  picture_unit_waits kept bytes nothing e all = all

  waited_wait : (kept : Kept) (waiting : List (List ℕ)) → All (Unread kept) kept.waiting
      → All (Unread (fold (with_waited options) kept waiting)) (fold (with_waited options) kept waiting).waiting
  waited_wait kept [] all = all
  waited_wait kept (bytes ∷ waiting) all =
      waited_wait (with_waited options kept bytes) waiting
      (picture_unit_waits kept bytes (content options kept bytes) refl all)

  content_waits : (kept : Kept) (bytes : List ℕ) (c : Content) → content options kept bytes ≡ c
      → All (Unread kept) kept.waiting
      → All (Unread (with_content options bytes c kept)) (with_content options bytes c kept).waiting
  content_waits kept bytes (video_set set) e all =
      all_still kept (with_content options bytes (video_set set) kept) refl all
  content_waits kept bytes (sequence_set set) e all =
      let begun : Kept = record (with_sequence_set set kept) { waiting = [] } in
      waited_wait begun kept.waiting (All-nil (Unread begun))
  content_waits kept bytes (picture_set set) e all = picture_unit_waits kept bytes (picture_set set) e all
  content_waits kept bytes unread_picture_set e all = picture_unit_waits kept bytes unread_picture_set e all
  content_waits kept bytes (refused cause) e all = all
  content_waits kept bytes (slice header segment) e all = all
  content_waits kept bytes end_of_sequence e all = all
  content_waits kept bytes end_of_bitstream e all = all
  content_waits kept bytes nothing e all = all

  behind_waits : (kept : Kept) (us : List NalUnit) → All (Unread kept) kept.waiting
      → All (Unread (kept_behind_all options kept us)) (kept_behind_all options kept us).waiting
  unfolding kept_behind
  behind_waits kept [] all = all
  behind_waits kept (u ∷ us) all =
      behind_waits (kept_behind options kept u.bytes) us
      (content_waits kept u.bytes (content options kept u.bytes) refl all)

  pub all_wait : (us : List NalUnit)
      → All (Unread (kept_behind_all options none_kept us)) (kept_behind_all options none_kept us).waiting
  all_wait us = behind_waits none_kept us (All-nil (Unread none_kept))
