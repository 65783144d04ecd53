-- The content of a unit of each type, where its header is good and its sub-layer is wanted.
use Rattle.std.proofs.Common.{◌≡◌, ℕ, true, false, List, Ok, refl, arith}
use Rattle.std.specs.Prelude.{drop}
use Rattle.hevc_spec.specs.UnitHeader.{UnitHeader, unit_header}
use Rattle.hevc_spec.specs.UnitTypes.{is_slice}
use Rattle.hevc_spec.specs.Payload.{payload}
use Rattle.hevc_spec.specs.Table.{read}
use Rattle.hevc_tables.specs.VpsTable.{video_parameter_set}
use Rattle.hevc_tables.specs.SpsTable.{sequence_parameter_set}
use Rattle.hevc_tables.specs.PpsTable.{picture_parameter_set}
use Rattle.hevc_tables.specs.SliceHeaderTable.{slice_segment_header, active_sets}
use Rattle.hevc_stream.specs.Options.{Options}
use Rattle.hevc_stream.specs.Kept.{Kept}
use Rattle.hevc_stream.specs.Slices.{temporal_id}
use Rattle.hevc_stream.specs.Contents.{video_set, sequence_set, slice, end_of_sequence}
use Rattle.hevc_stream.specs.Contents.{end_of_bitstream, content_read, picture_set_read}
use Rattle.hevc_stream.specs.Contents.{content_by_type, content, wants}
use Rattle.hevc_stream_laws.proofs.OneContent.{slice_isnt}

module _ (options : Options) (kept : Kept) (bytes : List ℕ) (h : UnitHeader)
    (header : unit_header bytes ≡ Ok h) (wanted : wants options h ≡ true) where
  typed : content options kept bytes ≡ content_by_type kept h bytes
  unfolding content
  typed = rw (header, wanted) refl

  pub of_video_set : h.nal_unit_type ≡ 32
      → content options kept bytes ≡ content_read video_set (read video_parameter_set (payload bytes))
  of_video_set t = rw (typed, t) refl

  pub of_sequence_set : h.nal_unit_type ≡ 33
      → content options kept bytes ≡ content_read sequence_set (read sequence_parameter_set (payload bytes))
  of_sequence_set t = rw (typed, t) refl

  pub of_picture_set : h.nal_unit_type ≡ 34
      → content options kept bytes ≡ picture_set_read
      (read (picture_parameter_set (temporal_id h) kept.sequence_sets) (payload bytes))
  of_picture_set t = rw (typed, t) refl

  pub of_slice : kept.has_sequence_set ≡ true → is_slice h.nal_unit_type ≡ true
      → content options kept bytes ≡ content_read (slice h)
      (read (slice_segment_header h.nal_unit_type (drop 2 bytes)
      (active_sets kept.sequence_sets kept.picture_sets)) (payload bytes))
  of_slice has s =
      rw (
        typed,
        slice_isnt h.nal_unit_type 32 s (omega arith),
        slice_isnt h.nal_unit_type 33 s (omega arith),
        slice_isnt h.nal_unit_type 34 s (omega arith),
        has,
        s,
      ) refl

  pub of_end_of_sequence : kept.has_sequence_set ≡ true → h.nal_unit_type ≡ 36
      → content options kept bytes ≡ end_of_sequence
  of_end_of_sequence has t = rw (typed, t, has) refl

  pub of_end_of_bitstream : kept.has_sequence_set ≡ true → h.nal_unit_type ≡ 37
      → content options kept bytes ≡ end_of_bitstream
  of_end_of_bitstream has t = rw (typed, t, has) refl
