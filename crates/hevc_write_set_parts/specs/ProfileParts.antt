-- The elements that each part of table 2 sets for the whole stream and for sub-layers: those of one
-- record, put into another.
use Rattle.std.specs.Prelude.{◌≡◌, ℕ}
use Rattle.hevc_records.specs.ProfileTierLevel.{PlainProfileTierLevel}
use Rattle.hevc_write_elements.specs.Filling.{SameBelow}

-- rows 1 to 27
abbrev pub general_rows_of : PlainProfileTierLevel → PlainProfileTierLevel → PlainProfileTierLevel
general_rows_of from x = record x {
  general_profile_space = from.general_profile_space;
  general_tier_flag = from.general_tier_flag;
  general_profile_idc = from.general_profile_idc;
  general_profile_compatibility_flag = from.general_profile_compatibility_flag;
  general_progressive_source_flag = from.general_progressive_source_flag;
  general_interlaced_source_flag = from.general_interlaced_source_flag;
  general_non_packed_constraint_flag = from.general_non_packed_constraint_flag;
  general_frame_only_constraint_flag = from.general_frame_only_constraint_flag;
  general_max_12bit_constraint_flag = from.general_max_12bit_constraint_flag;
  general_max_10bit_constraint_flag = from.general_max_10bit_constraint_flag;
  general_max_8bit_constraint_flag = from.general_max_8bit_constraint_flag;
  general_max_422chroma_constraint_flag = from.general_max_422chroma_constraint_flag;
  general_max_420chroma_constraint_flag = from.general_max_420chroma_constraint_flag;
  general_max_monochrome_constraint_flag = from.general_max_monochrome_constraint_flag;
  general_intra_constraint_flag = from.general_intra_constraint_flag;
  general_one_picture_only_constraint_flag = from.general_one_picture_only_constraint_flag;
  general_lower_bit_rate_constraint_flag = from.general_lower_bit_rate_constraint_flag;
  general_max_14bit_constraint_flag = from.general_max_14bit_constraint_flag;
  general_inbld_flag = from.general_inbld_flag;
  general_level_idc = from.general_level_idc;
}

-- row 28
abbrev pub presence_of : PlainProfileTierLevel → PlainProfileTierLevel → PlainProfileTierLevel
presence_of from x = record x {
  sub_layer_profile_present_flag = from.sub_layer_profile_present_flag;
  sub_layer_level_present_flag = from.sub_layer_level_present_flag;
}

-- row 30
abbrev pub sub_layer_profiles_of : PlainProfileTierLevel → PlainProfileTierLevel
    → PlainProfileTierLevel
sub_layer_profiles_of from x = record x {
  sub_layer_profile_space = from.sub_layer_profile_space;
  sub_layer_tier_flag = from.sub_layer_tier_flag;
  sub_layer_profile_idc = from.sub_layer_profile_idc;
  sub_layer_profile_compatibility_flag = from.sub_layer_profile_compatibility_flag;
  sub_layer_progressive_source_flag = from.sub_layer_progressive_source_flag;
  sub_layer_interlaced_source_flag = from.sub_layer_interlaced_source_flag;
  sub_layer_non_packed_constraint_flag = from.sub_layer_non_packed_constraint_flag;
  sub_layer_frame_only_constraint_flag = from.sub_layer_frame_only_constraint_flag;
  sub_layer_max_12bit_constraint_flag = from.sub_layer_max_12bit_constraint_flag;
  sub_layer_max_10bit_constraint_flag = from.sub_layer_max_10bit_constraint_flag;
  sub_layer_max_8bit_constraint_flag = from.sub_layer_max_8bit_constraint_flag;
  sub_layer_max_422chroma_constraint_flag = from.sub_layer_max_422chroma_constraint_flag;
  sub_layer_max_420chroma_constraint_flag = from.sub_layer_max_420chroma_constraint_flag;
  sub_layer_max_monochrome_constraint_flag = from.sub_layer_max_monochrome_constraint_flag;
  sub_layer_intra_constraint_flag = from.sub_layer_intra_constraint_flag;
  sub_layer_one_picture_only_constraint_flag = from.sub_layer_one_picture_only_constraint_flag;
  sub_layer_lower_bit_rate_constraint_flag = from.sub_layer_lower_bit_rate_constraint_flag;
  sub_layer_max_14bit_constraint_flag = from.sub_layer_max_14bit_constraint_flag;
  sub_layer_inbld_flag = from.sub_layer_inbld_flag;
}

-- row 31
abbrev pub sub_layer_levels_of : PlainProfileTierLevel → PlainProfileTierLevel
    → PlainProfileTierLevel
sub_layer_levels_of from x = record x { sub_layer_level_idc = from.sub_layer_level_idc }

-- rows 30 and 31
abbrev pub sub_layers_of : PlainProfileTierLevel → PlainProfileTierLevel → PlainProfileTierLevel
sub_layers_of from x = sub_layer_levels_of from (sub_layer_profiles_of from x)

-- rows 30 and 31, with row 28
abbrev pub sub_layers_with_inputs_of : PlainProfileTierLevel → PlainProfileTierLevel
    → PlainProfileTierLevel
sub_layers_with_inputs_of from x = sub_layers_of from (presence_of from x)

-- row 28 of the first sub-layers is that of x, of so many
abbrev pub same_presence : PlainProfileTierLevel → ℕ → PlainProfileTierLevel → Type 0
same_presence x n z =
    SameBelow n z.sub_layer_profile_present_flag x.sub_layer_profile_present_flag
    × SameBelow n z.sub_layer_level_present_flag x.sub_layer_level_present_flag

-- so is row 30
abbrev pub same_profiles : PlainProfileTierLevel → ℕ → PlainProfileTierLevel → Type 0
same_profiles x n z =
    SameBelow n z.sub_layer_profile_space x.sub_layer_profile_space
    × SameBelow n z.sub_layer_tier_flag x.sub_layer_tier_flag
    × SameBelow n z.sub_layer_profile_idc x.sub_layer_profile_idc
    × SameBelow n z.sub_layer_profile_compatibility_flag x.sub_layer_profile_compatibility_flag
    × SameBelow n z.sub_layer_progressive_source_flag x.sub_layer_progressive_source_flag
    × SameBelow n z.sub_layer_interlaced_source_flag x.sub_layer_interlaced_source_flag
    × SameBelow n z.sub_layer_non_packed_constraint_flag x.sub_layer_non_packed_constraint_flag
    × SameBelow n z.sub_layer_frame_only_constraint_flag x.sub_layer_frame_only_constraint_flag
    × SameBelow n z.sub_layer_max_12bit_constraint_flag x.sub_layer_max_12bit_constraint_flag
    × SameBelow n z.sub_layer_max_10bit_constraint_flag x.sub_layer_max_10bit_constraint_flag
    × SameBelow n z.sub_layer_max_8bit_constraint_flag x.sub_layer_max_8bit_constraint_flag
    × SameBelow n z.sub_layer_max_422chroma_constraint_flag
    x.sub_layer_max_422chroma_constraint_flag
    × SameBelow n z.sub_layer_max_420chroma_constraint_flag
    x.sub_layer_max_420chroma_constraint_flag
    × SameBelow n z.sub_layer_max_monochrome_constraint_flag
    x.sub_layer_max_monochrome_constraint_flag
    × SameBelow n z.sub_layer_intra_constraint_flag x.sub_layer_intra_constraint_flag
    × SameBelow n z.sub_layer_one_picture_only_constraint_flag
    x.sub_layer_one_picture_only_constraint_flag
    × SameBelow n z.sub_layer_lower_bit_rate_constraint_flag
    x.sub_layer_lower_bit_rate_constraint_flag
    × SameBelow n z.sub_layer_max_14bit_constraint_flag x.sub_layer_max_14bit_constraint_flag
    × SameBelow n z.sub_layer_inbld_flag x.sub_layer_inbld_flag

-- so is row 31
abbrev pub same_levels : PlainProfileTierLevel → ℕ → PlainProfileTierLevel → Type 0
same_levels x n z = SameBelow n z.sub_layer_level_idc x.sub_layer_level_idc

-- so are rows 30 and 31, and row 28 of all sub-layers
pub record SameSubLayers (x : PlainProfileTierLevel) (n : ℕ) (z : PlainProfileTierLevel)
    : Type 0 where
  pub profile_flags : z.sub_layer_profile_present_flag ≡ x.sub_layer_profile_present_flag
  pub level_flags : z.sub_layer_level_present_flag ≡ x.sub_layer_level_present_flag
  pub profiles : same_profiles x n z
  pub levels : same_levels x n z
