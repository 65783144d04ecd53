-- What the units of a stream mean for its pictures,
-- each after the parameter sets that are kept at it (7.4.2.4.2).
use Rattle.std.specs.Prelude.{ℕ, List, [], ◌∷◌, fold}
use Rattle.hevc_spec.specs.Units.{NalUnit, units}
use Rattle.hevc_walk.specs.Meanings.{Meaning, SequenceSet, EndOfSequence, EndOfBitstream, Other}
use Rattle.hevc_walk.specs.Meanings.{Refused}
use Rattle.hevc_stream.specs.Options.{Options}
use Rattle.hevc_tables.specs.SliceHeaderTable.{active_sets}
use Rattle.hevc_stream.specs.Kept.{Kept, none_kept, with_video_set, with_sequence_set}
use Rattle.hevc_stream.specs.Kept.{with_picture_set, with_waiting}
use Rattle.hevc_stream.specs.Contents.{Content, refused, video_set, sequence_set, picture_set}
use Rattle.hevc_stream.specs.Contents.{unread_picture_set, slice, end_of_sequence, end_of_bitstream}
use Rattle.hevc_stream.specs.Contents.{content}
use Rattle.hevc_walk_inputs.specs.Sequences.{format_of_set}
use Rattle.hevc_stream.specs.Slices.{slice_segment_meaning}

-- ---- what is kept

-- after a unit of a picture set: the set, or the unit, which waits
abbrev pub with_picture_set_unit : List ℕ → Content → Kept → Kept
with_picture_set_unit bytes (picture_set set) kept = with_picture_set set kept
with_picture_set_unit bytes unread_picture_set kept = with_waiting bytes kept
with_picture_set_unit bytes other kept = kept

-- a unit that waited is taken once more: it is read now, or waits on
abbrev pub with_waited : Options → Kept → List ℕ → Kept
with_waited options kept bytes = with_picture_set_unit bytes (content options kept bytes) kept

-- all units that wait are taken once more, in their order
abbrev pub with_all_waited : Options → Kept → Kept
with_all_waited options kept =
    fold (with_waited options) (record kept { waiting = [] }) kept.waiting

-- after a unit of these bytes and this content
abbrev pub with_content : Options → List ℕ → Content → Kept → Kept
with_content options bytes (video_set set) kept = with_video_set set kept
with_content options bytes (sequence_set set) kept =
    with_all_waited options (with_sequence_set set kept)
with_content options bytes other kept = with_picture_set_unit bytes other kept

-- what is kept after a unit of these bytes
unfoldable pub kept_behind : Options → Kept → List ℕ → Kept
kept_behind options kept bytes = with_content options bytes (content options kept bytes) kept

-- ---- what the units mean

-- what a content means for the pictures
abbrev pub meaning_of : Options → Kept → List ℕ → Content → Meaning
meaning_of options kept bytes (refused cause) = Refused cause
meaning_of options kept bytes (sequence_set set) = SequenceSet (format_of_set set)
meaning_of options kept bytes (slice header segment) =
    slice_segment_meaning options header bytes segment
    (active_sets kept.sequence_sets kept.picture_sets segment.pic_parameter_set_id)
meaning_of options kept bytes end_of_sequence = EndOfSequence
meaning_of options kept bytes end_of_bitstream = EndOfBitstream
meaning_of options kept bytes other = Other

-- what a unit of these bytes means for the pictures
unfoldable pub meaning : Options → Kept → List ℕ → Meaning
meaning options kept bytes = meaning_of options kept bytes (content options kept bytes)

-- what units mean after these sets
abbrev pub meanings_behind : Options → Kept → List NalUnit → List Meaning
meanings_behind options kept [] = []
meanings_behind options kept (u ∷ us) =
    meaning options kept u.bytes ∷ meanings_behind options (kept_behind options kept u.bytes) us

-- what is kept after the units
abbrev pub kept_behind_all : Options → Kept → List NalUnit → Kept
kept_behind_all options kept us = fold (λ k u. kept_behind options k u.bytes) kept us

-- what the units of a stream mean
abbrev pub meanings : Options → List ℕ → List Meaning
meanings options stream = meanings_behind options none_kept (units stream)
