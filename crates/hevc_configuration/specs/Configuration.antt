-- The decoder configuration record (ISO/IEC 14496-15, 8.3.3.1.2).
use Rattle.std.specs.Prelude.{ℕ, ◌/◌, ◌%◌, ◌^◌, Bool, List, [], ◌∷◌, ◌++◌, length}
use Rattle.std.specs.Int.{from_bool}
use Rattle.hevc_configuration.specs.declared.length_size.LengthSize.{LengthSize}
use Rattle.hevc_configuration.specs.LengthSizes.{size_minus_one}
use Rattle.hevc_configuration.specs.Rows.{field, ones, zeros, Row, byte, two_bytes, four_bytes, text}

-- units of one type
pub record PlainArray : Type 0 where
  pub array_completeness : Bool
  pub nal_unit_type : ℕ
  pub units : List (List ℕ)

pub record PlainConfiguration : Type 0 where
  pub general_profile_space : ℕ
  pub general_tier_flag : Bool
  pub general_profile_idc : ℕ
  pub general_profile_compatibility_flags : ℕ
  pub general_constraint_indicator_flags : ℕ
  pub general_level_idc : ℕ
  pub min_spatial_segmentation_idc : ℕ
  pub parallelism_type : ℕ
  pub chroma_format_idc : ℕ
  pub bit_depth_luma_minus8 : ℕ
  pub bit_depth_chroma_minus8 : ℕ
  pub avg_frame_rate : ℕ
  pub constant_frame_rate : ℕ
  pub num_temporal_layers : ℕ
  pub temporal_id_nested : Bool
  pub length_size : LengthSize
  pub arrays : List PlainArray

-- the length of each unit, and its bytes
abbrev pub unit_rows : List (List ℕ) → List Row
unit_rows [] = []
unit_rows (unit ∷ units) = two_bytes (field 16 (length unit) ∷ []) ∷ text unit ∷ unit_rows units

abbrev pub array_rows : PlainArray → List Row
array_rows a =
    byte (field 1 (from_bool a.array_completeness) ∷ zeros 1 ∷ field 6 a.nal_unit_type ∷ [])
    ∷ two_bytes (field 16 (length a.units) ∷ [])
    ∷ unit_rows a.units

abbrev pub arrays_rows : List PlainArray → List Row
arrays_rows [] = []
arrays_rows (a ∷ arrays) = array_rows a ++ arrays_rows arrays

-- The record, in parts. The 48 constraint flags are two numbers, of 32 bits and of 16.
abbrev pub profile_rows : PlainConfiguration → List Row
profile_rows c =
    byte (field 8 1 ∷ [])
    ∷ byte (field 2 c.general_profile_space ∷ field 1 (from_bool c.general_tier_flag)
    ∷ field 5 c.general_profile_idc ∷ [])
    ∷ four_bytes (field 32 c.general_profile_compatibility_flags ∷ [])
    ∷ []

abbrev pub level_rows : PlainConfiguration → List Row
level_rows c =
    four_bytes (field 32 (c.general_constraint_indicator_flags / 2 ^ 16) ∷ [])
    ∷ two_bytes (field 16 (c.general_constraint_indicator_flags % 2 ^ 16) ∷ [])
    ∷ byte (field 8 c.general_level_idc ∷ [])
    ∷ []

abbrev pub format_rows : PlainConfiguration → List Row
format_rows c =
    two_bytes (ones 4 ∷ field 12 c.min_spatial_segmentation_idc ∷ [])
    ∷ byte (ones 6 ∷ field 2 c.parallelism_type ∷ [])
    ∷ byte (ones 6 ∷ field 2 c.chroma_format_idc ∷ [])
    ∷ byte (ones 5 ∷ field 3 c.bit_depth_luma_minus8 ∷ [])
    ∷ byte (ones 5 ∷ field 3 c.bit_depth_chroma_minus8 ∷ [])
    ∷ two_bytes (field 16 c.avg_frame_rate ∷ [])
    ∷ byte (field 2 c.constant_frame_rate ∷ field 3 c.num_temporal_layers
    ∷ field 1 (from_bool c.temporal_id_nested) ∷ field 2 (size_minus_one c.length_size) ∷ [])
    ∷ byte (field 8 (length c.arrays) ∷ [])
    ∷ []

abbrev pub front_rows : PlainConfiguration → List Row
front_rows c = profile_rows c ++ level_rows c ++ format_rows c

abbrev pub configuration_rows : PlainConfiguration → List Row
configuration_rows c = front_rows c ++ arrays_rows c.arrays
