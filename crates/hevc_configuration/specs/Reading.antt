-- Reading a record from its first byte on, with the first fault that is met.
use Rattle.std.specs.Prelude.{◌≡◌, ℕ, zero, suc, ◌+◌, ◌*◌, ◌/◌, ◌%◌, ◌^◌, List, [], ◌∷◌, length}
use Rattle.std.specs.Prelude.{take, drop, slice_index, Result, Ok, Err, nat_lt, ◌==◌, if◌then◌else◌}
use Rattle.std.specs.Int.{w16, w32, from_be_bytes}
use Rattle.hevc_configuration.specs.declared.error.ConfigurationError.{ConfigurationError}
use Rattle.hevc_configuration.specs.declared.error.ConfigurationError.TheVariants as errors
use Rattle.hevc_configuration.specs.declared.error.ConfigurationField.{ConfigurationField}
use Rattle.hevc_configuration.specs.declared.error.ConfigurationField.TheVariants as fields
use Rattle.hevc_configuration.specs.declared.length_size.LengthSize.{LengthSize}
use Rattle.hevc_configuration.specs.LengthSizes.{length_size_of}
use Rattle.hevc_configuration.specs.Configuration.{PlainArray, PlainConfiguration}

infixl 10 ◌>>=◌
abbrev pub ◌>>=◌ : {A B : Type 0} → Result A ConfigurationError
    → (A → Result B ConfigurationError) → Result B ConfigurationError
(Ok x) >>= f = f x
(Err e) >>= f = Err e

-- what was returned is what reading gives, unless memory ran out
abbrev pub Fails : {Y : Type 0} → ConfigurationError → Result Y ConfigurationError → Type 0
Fails errors.NoMemory read = Unit {0}
Fails (errors.TooShort field) read = read ≡ Err (errors.TooShort field)
Fails (errors.UnsupportedVersion version) read = read ≡ Err (errors.UnsupportedVersion version)
Fails errors.UnsupportedLengthSize read = read ≡ Err errors.UnsupportedLengthSize

abbrev pub Gives : {X Y : Type 0} → (X → Y) → Result X ConfigurationError
    → Result Y ConfigurationError → Type 0
Gives view (Ok x) read = read ≡ Ok (view x)
Gives view (Err e) read = Fails e read

-- ---- units and arrays, each with the bytes after it

-- a unit after its length
unfoldable pub unit_at : List ℕ → Result (List ℕ × List ℕ) ConfigurationError
unit_at bytes =
    if nat_lt (length bytes) 2 then Err (errors.TooShort fields.NalUnitLength)
    else if nat_lt (length (drop 2 bytes)) (from_be_bytes w16 bytes)
    then Err (errors.TooShort fields.NalUnit)
    else Ok (
      take (from_be_bytes w16 bytes) (drop 2 bytes),
      drop (from_be_bytes w16 bytes) (drop 2 bytes),
    )

unfoldable pub units_at : ℕ → List ℕ → Result (List (List ℕ) × List ℕ) ConfigurationError
units_at zero bytes = Ok ([], bytes)
units_at (suc n) bytes = do
  first ← unit_at bytes
  others ← units_at n first.1
  Ok (first.0 ∷ others.0, others.1)

unfoldable pub array_at : List ℕ → Result (PlainArray × List ℕ) ConfigurationError
array_at bytes =
    if nat_lt (length bytes) 1 then Err (errors.TooShort fields.ArrayCompleteness)
    else if nat_lt (length bytes) 3 then Err (errors.TooShort fields.NumNalus)
    else units_at (from_be_bytes w16 (drop 1 bytes)) (drop 3 bytes) >>= λ units.
    Ok (
      record {
        array_completeness = slice_index bytes 0 / 128 % 2 == 1;
        nal_unit_type = slice_index bytes 0 % 64;
        units = units.0;
      },
      units.1,
    )

unfoldable pub arrays_at : ℕ → List ℕ → Result (List PlainArray × List ℕ) ConfigurationError
arrays_at zero bytes = Ok ([], bytes)
arrays_at (suc n) bytes = do
  first ← array_at bytes
  others ← arrays_at n first.1
  Ok (first.0 ∷ others.0, others.1)

-- ---- the 23 bytes before the arrays

-- the first field that so many bytes don't have whole
abbrev pub field_beyond : ℕ → ConfigurationField
field_beyond n =
    if nat_lt n 1 then fields.ConfigurationVersion
    else if nat_lt n 2 then fields.GeneralProfileSpace
    else if nat_lt n 6 then fields.GeneralProfileCompatibilityFlags
    else if nat_lt n 12 then fields.GeneralConstraintIndicatorFlags
    else if nat_lt n 13 then fields.GeneralLevelIdc
    else if nat_lt n 15 then fields.MinSpatialSegmentationIdc
    else if nat_lt n 16 then fields.ParallelismType
    else if nat_lt n 17 then fields.ChromaFormatIdc
    else if nat_lt n 18 then fields.BitDepthLumaMinus8
    else if nat_lt n 19 then fields.BitDepthChromaMinus8
    else if nat_lt n 21 then fields.AvgFrameRate
    else if nat_lt n 22 then fields.ConstantFrameRate
    else fields.NumOfArrays

-- the size of lengths, or the first fault
unfoldable pub front_at : List ℕ → Result LengthSize ConfigurationError
front_at bytes =
    if nat_lt (length bytes) 1 then Err (errors.TooShort fields.ConfigurationVersion)
    else if slice_index bytes 0 == 1 then
    (if nat_lt (length bytes) 22 then Err (errors.TooShort (field_beyond (length bytes)))
    else length_size_of (slice_index bytes 21 % 4) >>= λ size.
    if nat_lt (length bytes) 23 then Err (errors.TooShort fields.NumOfArrays) else Ok size)
    else Err (errors.UnsupportedVersion (slice_index bytes 0))

-- the record that begins so
abbrev pub with_front : List ℕ → LengthSize → List PlainArray → PlainConfiguration
with_front bytes length_size arrays = record {
  general_profile_space = slice_index bytes 1 / 64;
  general_tier_flag = slice_index bytes 1 / 32 % 2 == 1;
  general_profile_idc = slice_index bytes 1 % 32;
  general_profile_compatibility_flags = from_be_bytes w32 (drop 2 bytes);
  general_constraint_indicator_flags =
      from_be_bytes w32 (drop 6 bytes) * 2 ^ 16 + from_be_bytes w16 (drop 10 bytes);
  general_level_idc = slice_index bytes 12;
  min_spatial_segmentation_idc = from_be_bytes w16 (drop 13 bytes) % 4096;
  parallelism_type = slice_index bytes 15 % 4;
  chroma_format_idc = slice_index bytes 16 % 4;
  bit_depth_luma_minus8 = slice_index bytes 17 % 8;
  bit_depth_chroma_minus8 = slice_index bytes 18 % 8;
  avg_frame_rate = from_be_bytes w16 (drop 19 bytes);
  constant_frame_rate = slice_index bytes 21 / 64;
  num_temporal_layers = slice_index bytes 21 / 8 % 8;
  temporal_id_nested = slice_index bytes 21 / 4 % 2 == 1;
  length_size = length_size;
  arrays = arrays;
}

-- the record, without the bytes after it
unfoldable pub configuration_at : List ℕ → Result PlainConfiguration ConfigurationError
configuration_at bytes = do
  length_size ← front_at bytes
  arrays ← arrays_at (slice_index bytes 22) (drop 23 bytes)
  Ok (with_front bytes length_size arrays.0)
