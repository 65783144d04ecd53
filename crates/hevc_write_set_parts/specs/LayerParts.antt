-- The elements that each part of table 2 sets: those of one record, put into another.
use Rattle.std.specs.Prelude.{ℕ}
use Rattle.hevc_spec.specs.Table.{Table}
use Rattle.hevc_spec.specs.Rows.{either}
use Rattle.hevc_tables.specs.ProfileTierLevelTable.{LayerProfile, Scope, layer_conforms_to}
use Rattle.hevc_tables.specs.ProfileTierLevelTable.{main_10_flags, reserved_bits}
use Rattle.hevc_write_elements.specs.Filling.{SameBelow}

-- row 4
abbrev pub compatibility_flags_of : LayerProfile → LayerProfile → LayerProfile
compatibility_flags_of from x = record x {
  profile_compatibility_flag = from.profile_compatibility_flag;
}

-- rows 1 to 4
abbrev pub profiles_of : LayerProfile → LayerProfile → LayerProfile
profiles_of from x = record (compatibility_flags_of from x) {
  profile_space = from.profile_space;
  tier_flag = from.tier_flag;
  profile_idc = from.profile_idc;
}

-- row 5
abbrev pub source_of : LayerProfile → LayerProfile → LayerProfile
source_of from x = record x {
  progressive_source_flag = from.progressive_source_flag;
  interlaced_source_flag = from.interlaced_source_flag;
  non_packed_constraint_flag = from.non_packed_constraint_flag;
  frame_only_constraint_flag = from.frame_only_constraint_flag;
}

-- row 6
abbrev pub formats_of : LayerProfile → LayerProfile → LayerProfile
formats_of from x = record x {
  max_12bit_constraint_flag = from.max_12bit_constraint_flag;
  max_10bit_constraint_flag = from.max_10bit_constraint_flag;
  max_8bit_constraint_flag = from.max_8bit_constraint_flag;
  max_422chroma_constraint_flag = from.max_422chroma_constraint_flag;
  max_420chroma_constraint_flag = from.max_420chroma_constraint_flag;
  max_monochrome_constraint_flag = from.max_monochrome_constraint_flag;
  intra_constraint_flag = from.intra_constraint_flag;
  one_picture_only_constraint_flag = from.one_picture_only_constraint_flag;
  lower_bit_rate_constraint_flag = from.lower_bit_rate_constraint_flag;
}

-- rows 7 to 9
abbrev pub bit_depth_flag_of : LayerProfile → LayerProfile → LayerProfile
bit_depth_flag_of from x = record x { max_14bit_constraint_flag = from.max_14bit_constraint_flag }

-- rows 6 to 13
abbrev pub constraints_of : LayerProfile → LayerProfile → LayerProfile
constraints_of from x = formats_of from (bit_depth_flag_of from x)

-- rows 3 and 4, by which rows 6 to 15 go
abbrev pub profile_inputs_of : LayerProfile → LayerProfile → LayerProfile
profile_inputs_of from x = record (compatibility_flags_of from x) { profile_idc = from.profile_idc }

-- rows 7 to 9, with rows 3 and 4
abbrev pub bit_depth_flag_with_inputs_of : LayerProfile → LayerProfile → LayerProfile
bit_depth_flag_with_inputs_of from x = bit_depth_flag_of from (profile_inputs_of from x)

-- rows 6 to 13, with rows 3 and 4
abbrev pub constraints_with_inputs_of : LayerProfile → LayerProfile → LayerProfile
constraints_with_inputs_of from x = constraints_of from (profile_inputs_of from x)

-- rows 14 and 15
abbrev pub inbld_of : LayerProfile → LayerProfile → LayerProfile
inbld_of from x = record x { inbld_flag = from.inbld_flag }

-- rows 14 and 15, with rows 3 and 4
abbrev pub inbld_with_inputs_of : LayerProfile → LayerProfile → LayerProfile
inbld_with_inputs_of from x = inbld_of from (profile_inputs_of from x)

-- the first compatibility flags are those of x, so many
abbrev pub same_flags : LayerProfile → ℕ → LayerProfile → Type 0
same_flags x n z = SameBelow n z.profile_compatibility_flag x.profile_compatibility_flag

-- rows 10 to 13, where the flags of the range extensions' profiles aren't there
abbrev pub other_constraints : Scope → LayerProfile → Table LayerProfile
other_constraints scope l =
    either (layer_conforms_to l 2) (main_10_flags scope l) (reserved_bits scope l)
