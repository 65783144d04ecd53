-- What the content of a unit is, in the words of what its payload spells (7.3, 7.4.2.2): without
-- reading, and as a relation.
use Rattle.std.specs.Prelude.{◌≡◌, ℕ, ◌≤◌, ◌<◌, Bool, true, false, ◌||◌, ◌==◌, List, drop, Ok, Err}
use Rattle.hevc_spec.specs.UnitHeader.{UnitHeader, HeaderFault, unit_header}
use Rattle.hevc_spec.specs.UnitTypes.{is_slice, is_end}
use Rattle.hevc_spec.specs.Payload.{payload}
use Rattle.hevc_spec.specs.Table.{Table, Fault}
use Rattle.hevc_spec.specs.Lines.{Spells, BreaksOff}
use Rattle.hevc_tables.specs.VpsTable.{video_parameter_set}
use Rattle.hevc_tables.specs.SpsTable.{sequence_parameter_set}
use Rattle.hevc_tables.specs.PpsTable.{picture_parameter_set}
use Rattle.hevc_tables.specs.SliceHeaderTable.{slice_segment_header, active_sets}
use Rattle.hevc_stream.specs.Options.{Options}
use Rattle.hevc_stream.specs.Kept.{Kept}
use Rattle.hevc_stream.specs.Slices.{temporal_id}
use Rattle.hevc_stream.specs.Contents.{Content, refused, video_set, sequence_set, picture_set}
use Rattle.hevc_stream.specs.Contents.{unread_picture_set, slice, end_of_sequence, end_of_bitstream}
use Rattle.hevc_stream.specs.Contents.{nothing, header_cause, fault_cause, wants}

-- The beginning of a payload spells a record of a table, and the content is what that means; or the
-- payload breaks off at a line, and the content is what that means.
pub data MeansBy {A : Type 0} (t : Table A) (means : A → Content) (broken : Fault → Content)
    (payload : List Bool) (c : Content) : Type 0 where
  spells : (x : A) (rest : List Bool) → Spells t x payload rest → means x ≡ c
      → MeansBy t means broken payload c
  breaks_off : (fault : Fault) (rest : List Bool) → BreaksOff t fault payload rest
      → broken fault ≡ c → MeansBy t means broken payload c

-- why a unit is refused that breaks off
abbrev pub refused_for : Fault → Content
refused_for fault = refused (fault_cause fault)

-- a picture set that breaks off isn't refused
abbrev pub unread : Fault → Content
unread fault = unread_picture_set

-- VPS_NUT, SPS_NUT and PPS_NUT
abbrev pub is_parameter_set : ℕ → Bool
is_parameter_set t = t == 32 || t == 33 || t == 34

-- the content of a unit with this header, by its type (Table 7-1)
pub data MeansByType (kept : Kept) (h : UnitHeader) (bytes : List ℕ) (c : Content) : Type 0 where
  is_video_set : h.nal_unit_type ≡ 32
      → MeansBy video_parameter_set video_set refused_for (payload bytes) c
      → MeansByType kept h bytes c
  is_sequence_set : h.nal_unit_type ≡ 33
      → MeansBy sequence_parameter_set sequence_set refused_for (payload bytes) c
      → MeansByType kept h bytes c
  is_picture_set : h.nal_unit_type ≡ 34
      → MeansBy (picture_parameter_set (temporal_id h) kept.sequence_sets)
      picture_set unread (payload bytes) c
      → MeansByType kept h bytes c
  is_slice_segment : kept.has_sequence_set ≡ true → is_slice h.nal_unit_type ≡ true
      → MeansBy (slice_segment_header h.nal_unit_type (drop 2 bytes)
      (active_sets kept.sequence_sets kept.picture_sets))
      (slice h) refused_for (payload bytes) c
      → MeansByType kept h bytes c
  ends_sequence : kept.has_sequence_set ≡ true → h.nal_unit_type ≡ 36 → end_of_sequence ≡ c
      → MeansByType kept h bytes c
  ends_bitstream : kept.has_sequence_set ≡ true → h.nal_unit_type ≡ 37 → end_of_bitstream ≡ c
      → MeansByType kept h bytes c
  comes_first : kept.has_sequence_set ≡ false → is_parameter_set h.nal_unit_type ≡ false
      → nothing ≡ c → MeansByType kept h bytes c
  is_other : is_parameter_set h.nal_unit_type ≡ false
      → (is_slice h.nal_unit_type || is_end h.nal_unit_type) ≡ false → nothing ≡ c
      → MeansByType kept h bytes c

-- the content of a unit of these bytes, after the sets that are kept
pub data Means (options : Options) (kept : Kept) (bytes : List ℕ) (c : Content) : Type 0 where
  is_faulty : (fault : HeaderFault) → unit_header bytes ≡ Err fault
      → refused (header_cause fault) ≡ c → Means options kept bytes c
  is_unwanted : (h : UnitHeader) → unit_header bytes ≡ Ok h → wants options h ≡ false
      → nothing ≡ c → Means options kept bytes c
  is_wanted : (h : UnitHeader) → unit_header bytes ≡ Ok h → wants options h ≡ true
      → MeansByType kept h bytes c → Means options kept bytes c
