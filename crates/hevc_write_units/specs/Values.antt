-- The lines of parameter sets and slice headers in units, and what such units mean.
use Rattle.std.specs.Prelude.{◌≡◌, true, ℕ, List, Option, Some, None}
use Rattle.hevc_spec.specs.Lines.{Line, HasLines, AreGood}
use Rattle.hevc_spec.specs.Table.{Table}
use Rattle.hevc_spec.specs.UnitHeader.{UnitHeader}
use Rattle.hevc_records.specs.Pps.{PlainPps}
use Rattle.hevc_records.specs.Sps.{PlainSps}
use Rattle.hevc_records.specs.Vps.{PlainVps}
use Rattle.hevc_tables.specs.PpsTable.{picture_parameter_set}
use Rattle.hevc_stream.specs.Contents.{video_set, sequence_set, picture_set, content, wants}
use Rattle.hevc_stream.specs.Kept.{Kept, with_set}
use Rattle.hevc_stream.specs.Options.{Options}
use Rattle.hevc_stream.specs.Slices.{temporal_id}

-- ---- lines

-- the lines of a set by its table, all allowed, in a unit of this type
pub record SetLines {A : Type 0} (nal_unit_type : ℕ) (t : Table A) (set : A) (header : UnitHeader)
    (lines : List Line) : Type 0 where
  pub typed : header.nal_unit_type ≡ nal_unit_type
  pub has : HasLines t set lines
  pub good : AreGood lines

-- one sequence set is kept
abbrev pub only_sequence_set : PlainSps → ℕ → Option PlainSps
only_sequence_set sps = with_set sps.seq_parameter_set_id sps (λ id. None)

-- The lines of a picture set (table 11) that names the sequence set; they give it the temporal id of
-- its unit.
pub record PictureSetLines (sps : PlainSps) (pps : PlainPps) (header : UnitHeader)
    (lines : List Line) : Type 0 where
  pub names : pps.seq_parameter_set_id ≡ sps.seq_parameter_set_id
  pub set : SetLines 34 (picture_parameter_set (temporal_id header) (only_sequence_set sps)) pps
      header lines

-- ---- meanings

-- Where it is wanted, a unit of these bytes means the set, whatever sets are kept.
abbrev pub MeansVideoSet : PlainVps → UnitHeader → List ℕ → Type 0
MeansVideoSet set header bytes =
    (options : Options) (kept : Kept) → wants options header ≡ true
    → content options kept bytes ≡ video_set set

abbrev pub MeansSequenceSet : PlainSps → UnitHeader → List ℕ → Type 0
MeansSequenceSet set header bytes =
    (options : Options) (kept : Kept) → wants options header ≡ true
    → content options kept bytes ≡ sequence_set set

-- So it is of a picture set where the sequence set is kept that it names.
abbrev pub MeansPictureSet : PlainSps → PlainPps → UnitHeader → List ℕ → Type 0
MeansPictureSet sps pps header bytes =
    (options : Options) (kept : Kept) → wants options header ≡ true
    → kept.sequence_sets pps.seq_parameter_set_id ≡ Some sps
    → content options kept bytes ≡ picture_set pps
