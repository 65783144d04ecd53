-- The fields of a profile, tier and level.
use Rattle.std.specs.Prelude.{ℕ, [], ◌∷◌}
use Rattle.hevc_records.specs.ProfileTierLevel.{PlainProfileTierLevel}
use Rattle.hevc_events.specs.Flags.{flags_of}
use Rattle.hevc_pull.specs.declared.fields.profile.ProfileFields.{ProfileFields}

-- the first at bit 0
abbrev pub profile_flags : PlainProfileTierLevel → ℕ
profile_flags p =
    flags_of
    (p.general_tier_flag ∷
    p.general_progressive_source_flag ∷
    p.general_interlaced_source_flag ∷
    p.general_non_packed_constraint_flag ∷
    p.general_frame_only_constraint_flag ∷
    p.general_max_12bit_constraint_flag ∷
    p.general_max_10bit_constraint_flag ∷
    p.general_max_8bit_constraint_flag ∷
    p.general_max_422chroma_constraint_flag ∷
    p.general_max_420chroma_constraint_flag ∷
    p.general_max_monochrome_constraint_flag ∷
    p.general_intra_constraint_flag ∷
    p.general_one_picture_only_constraint_flag ∷
    p.general_lower_bit_rate_constraint_flag ∷
    p.general_max_14bit_constraint_flag ∷
    p.general_inbld_flag ∷ [])

abbrev pub fields_of_profile : PlainProfileTierLevel → ProfileFields
fields_of_profile p = record {
  general_profile_space = p.general_profile_space;
  general_profile_idc = p.general_profile_idc;
  general_level_idc = p.general_level_idc;
  reserved = 0;
  general_profile_compatibility_flags = flags_of p.general_profile_compatibility_flag;
  flags = profile_flags p;
}
