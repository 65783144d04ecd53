-- A stream whose parameter sets are written anew.
use Rattle.std.specs.Prelude.{◌≡◌, ◌==◌, ◌&&◌, if◌then◌else◌, ℕ, Bool, true, false, List, []}
use Rattle.std.specs.Prelude.{◌∷◌, drop, Some, Ok}
use Rattle.hevc_spec.specs.Lines.{Line}
use Rattle.hevc_spec.specs.Payload.{payload_after}
use Rattle.hevc_spec.specs.UnitHeader.{UnitHeader, unit_header, nal_unit_type}
use Rattle.hevc_spec.specs.UnitTypes.{is_end}
use Rattle.hevc_spec.specs.Units.{NalUnit, units}
use Rattle.hevc_records.specs.Sps.{PlainSps}
use Rattle.hevc_tables.specs.SpsTable.{sequence_parameter_set}
use Rattle.hevc_tables.specs.VpsTable.{video_parameter_set}
use Rattle.hevc_bit_writer.specs.WrittenUnits.{stream_of}
use Rattle.hevc_stream_pieces.specs.Pieces.{units_of_pieces}
use Rattle.hevc_rewrite_laws.specs.Replaced.{WantsAll}
use Rattle.hevc_walk.specs.Results.{calls, outputs, verdict}
use Rattle.hevc_stream.specs.Contents.{Content, video_set, sequence_set, picture_set, content}
use Rattle.hevc_stream.specs.Kept.{Kept, none_kept}
use Rattle.hevc_stream.specs.Options.{Options, default_options}
use Rattle.hevc_stream.specs.Stream.{kept_behind, meanings}
use Rattle.hevc_write_units.specs.Added.{AreUnitBytes}
use Rattle.hevc_write_units.specs.Payloads.{IsPayload}
use Rattle.hevc_write_units.specs.Values.{SetLines, PictureSetLines}

-- a parameter set that is read where it is; one that waits isn't
abbrev pub is_read_set : Content → Bool
is_read_set (video_set set) = true
is_read_set (sequence_set set) = true
is_read_set (picture_set set) = true
is_read_set other = false

-- the lines of the set that is the content of a unit with this header, after these sets
abbrev pub set_lines : Kept → UnitHeader → Content → List Line → Type 0
set_lines kept header (video_set set) lines = SetLines 32 video_parameter_set set header lines
set_lines kept header (sequence_set set) lines = SetLines 33 sequence_parameter_set set header lines
set_lines kept header (picture_set set) lines =
    (sps : PlainSps) × (kept.sequence_sets set.seq_parameter_set_id ≡ Some sps)
    × PictureSetLines sps set header lines
set_lines kept header other lines = ⊥

-- A set is written anew: its header, and its lines with the values that are written for what it
-- doesn't keep, as the bytes of a unit. It means the same after these sets.
pub record IsWrittenAnew (kept : Kept) (bytes piece : List ℕ) : Type 0 where
  pub header : UnitHeader
  pub old_header : unit_header bytes ≡ Ok header
  pub new_header : unit_header piece ≡ Ok header
  pub are : AreUnitBytes piece
  pub payload : IsPayload (set_lines kept header (content default_options kept bytes)) []
      (payload_after 0 (drop 2 piece))
  pub meant : content default_options kept piece ≡ content default_options kept bytes

-- The bytes of a unit, with one byte 80 after an end unit whose second byte is 0, which would else
-- be dropped as a zero after the unit (B.2).
abbrev pub completed : List ℕ → List ℕ
completed (first ∷ second ∷ []) =
    if is_end (nal_unit_type (first ∷ [])) && second == 0 then first ∷ second ∷ 128 ∷ []
    else first ∷ second ∷ []
completed bytes = bytes

-- what is written in the place of a unit, after these sets: a set that is read there is written
-- anew, and any other unit byte for byte
pub record IsRewritten (kept : Kept) (bytes piece : List ℕ) : Type 0 where
  pub anew : is_read_set (content default_options kept bytes) ≡ true
      → IsWrittenAnew kept bytes piece
  pub copied : is_read_set (content default_options kept bytes) ≡ false → piece ≡ completed bytes

-- each unit is rewritten, after what is kept of those before it
abbrev pub AreRewritten : Kept → List NalUnit → List (List ℕ) → Type 0
AreRewritten kept [] [] = Unit {0}
AreRewritten kept [] (piece ∷ pieces) = ⊥
AreRewritten kept (u ∷ us) [] = ⊥
AreRewritten kept (u ∷ us) (piece ∷ pieces) =
    IsRewritten kept u.bytes piece
    × AreRewritten (kept_behind default_options kept u.bytes) us pieces

-- Where all sub-layers and layers are wanted, the bytes ask for the calls and outputs of the stream and end as
-- it does, unit numbers included.
pub record DecodesTheSame (stream bytes : List ℕ) : Type 0 where
  pub calls : (options : Options) → WantsAll options
      → calls (meanings options bytes) ≡ calls (meanings options stream)
  pub outputs : (options : Options) → WantsAll options
      → outputs (meanings options bytes) ≡ outputs (meanings options stream)
  pub verdict : (options : Options) → WantsAll options
      → verdict (meanings options bytes) ≡ verdict (meanings options stream)

-- The bytes are the stream with its sets written anew, each unit after 00 00 01, and these are the
-- units that they have (B.2).
pub record IsRewriting (stream bytes : List ℕ) : Type 0 where
  pub pieces : List (List ℕ)
  pub are : AreRewritten none_kept (units stream) pieces
  pub parts : bytes ≡ stream_of pieces
  pub found : units bytes ≡ units_of_pieces 0 pieces
  pub decodes : DecodesTheSame stream bytes
