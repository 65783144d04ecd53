-- What the parts of table 2 leave that tell of the whole stream and of sub-layers.
use Rattle.std.proofs.Common.{◌≡◌, ℕ, ◌+◌, List, Bool, refl, subst}
use Rattle.hevc_spec.specs.Rows.{repeat}
use Rattle.hevc_records.specs.ProfileTierLevel.{PlainProfileTierLevel}
use Rattle.hevc_records.specs.ProfileConformance.{is_level}
use Rattle.hevc_tables.specs.ProfileTierLevelTable.{LayerProfile, general, sub_layer, level}
use Rattle.hevc_tables.specs.ProfileTierLevelTable.{with_general_profile, with_sub_layer_profile}
use Rattle.hevc_tables.specs.ProfileTierLevelTable.{general_rows, next_presence, presence}
use Rattle.hevc_tables.specs.ProfileTierLevelTable.{sub_layer_profile, sub_layer_level}
use Rattle.hevc_tables.specs.ProfileTierLevelTable.{next_sub_layer, sub_layers, absent_layers}
use Rattle.hevc_tables.specs.ProfileTierLevelTable.{profile_tier_level}
use Rattle.hevc_write_elements.specs.Filling.{Keeps, Writes, WritesTurns}
use Rattle.hevc_write_elements.proofs.Steps.{IsFillable, kept_rows, part_kept, when_fillable}
use Rattle.hevc_write_elements.proofs.Steps.{zeros_fillable, when_kept, then_filled, done_filled}
use Rattle.hevc_write_elements.proofs.Steps.{filled, number_then, by}
use Rattle.hevc_write_elements.proofs.Loops.{turns_keep, all_turns, all_same, fewer_same}
use Rattle.hevc_write_set_parts.specs.ProfileParts as own
use Rattle.hevc_write_set_parts.proofs.LayerKeeps.{layer_profile_fillable}

-- sets no elements but those of rows 1 to 27
pub general_rows_keep : Keeps general_rows own.general_rows_of
unfolding general_rows with_general_profile level
general_rows_keep = record {
  same = λ y. refl;
  last = λ x y z. refl;
  kept = λ y w. then_filled (filled (layer_profile_fillable general)
      (λ l b. number_then _ refl {old = b} 8 is_level {value = 0} refl (λ v d h. done_filled refl)));
}

-- sets no elements but those of row 28
next_presence_keeps : (i : ℕ) → Keeps (next_presence i) own.presence_of
unfolding next_presence
next_presence_keeps i = record {
  same = λ y. refl;
  last = λ x y z. refl;
  kept = λ y w. search kept_rows depth 40 fits 4000;
}

-- sets no elements but those of row 28
pub presence_keeps : (max_sub_layers_minus1 : ℕ) → Keeps (presence max_sub_layers_minus1) own.presence_of
unfolding presence
presence_keeps m = turns_keep next_presence own.presence_of next_presence_keeps m

-- the whole of it is written once all its turns are
pub presence_written : (x : PlainProfileTierLevel) (n max_sub_layers_minus1 : ℕ) (old new : List Bool)
    → WritesTurns next_presence (own.same_presence x) n old new → n ≡ max_sub_layers_minus1
    → Writes (presence max_sub_layers_minus1) own.presence_of x old new
unfolding presence
presence_written x n m old new h e =
    subst (λ (k : ℕ). Writes (repeat next_presence 0 k) own.presence_of x old new) e
    (all_turns next_presence (own.same_presence x) (λ z is. (
      all_same _ _ _ (by is (λ r. r.sub_layer_profile_present_flag)),
      all_same _ _ _ (by is (λ r. r.sub_layer_level_present_flag)),
    )) h)

-- sets no elements but those of row 30
pub sub_layer_profile_keeps : (i : ℕ) → Keeps (sub_layer_profile i) own.sub_layer_profiles_of
unfolding sub_layer_profile with_sub_layer_profile
sub_layer_profile_keeps i = record {
  same = λ y. refl;
  last = λ x y z. refl;
  kept = λ y w. then_filled (filled (layer_profile_fillable sub_layer) (λ l b. done_filled refl));
}

-- sets no elements but those of row 31
pub sub_layer_level_keeps : (i : ℕ) → Keeps (sub_layer_level i) own.sub_layer_levels_of
unfolding sub_layer_level level
sub_layer_level_keeps i = record {
  same = λ y. refl;
  last = λ x y z. refl;
  kept = λ y w. number_then _ refl {old = w} 8 is_level {value = 0} refl (λ v d h. done_filled refl);
}

-- sets no elements but those of rows 30 and 31
next_sub_layer_keeps : (i : ℕ) → Keeps (next_sub_layer i) own.sub_layers_of
unfolding next_sub_layer
next_sub_layer_keeps i = record {
  same = λ y. refl;
  last = λ x y z. refl;
  kept = λ y w. then_filled
      (when_kept (sub_layer_profile i) own.sub_layer_profiles_of (sub_layer_profile_keeps i) y _
      (λ z b. when_kept (sub_layer_level i) own.sub_layer_levels_of (sub_layer_level_keeps i) _ _ (λ u d. refl)));
}

-- sets no elements but those of rows 30 and 31
pub sub_layers_keep : (max_sub_layers_minus1 : ℕ) → Keeps (sub_layers max_sub_layers_minus1) own.sub_layers_of
unfolding sub_layers
sub_layers_keep m = turns_keep next_sub_layer own.sub_layers_of next_sub_layer_keeps m

-- profiles of one sub-layer fewer
pub fewer_profiles : (x : PlainProfileTierLevel) (n : ℕ) (z : PlainProfileTierLevel)
    → own.same_profiles x (n + 1) z → own.same_profiles x n z
fewer_profiles x n z a = (
  fewer_same n _ _ a.0,
  fewer_same n _ _ a.1,
  fewer_same n _ _ a.2,
  fewer_same n _ _ a.3,
  fewer_same n _ _ a.4,
  fewer_same n _ _ a.5,
  fewer_same n _ _ a.6,
  fewer_same n _ _ a.7,
  fewer_same n _ _ a.8,
  fewer_same n _ _ a.9,
  fewer_same n _ _ a.10,
  fewer_same n _ _ a.11,
  fewer_same n _ _ a.12,
  fewer_same n _ _ a.13,
  fewer_same n _ _ a.14,
  fewer_same n _ _ a.15,
  fewer_same n _ _ a.16,
  fewer_same n _ _ a.17,
  fewer_same n _ _ a.18,
)

-- profiles of the same elements are one
pub same_layer : (l m : LayerProfile) → l.profile_space ≡ m.profile_space → l.tier_flag ≡ m.tier_flag
    → l.profile_idc ≡ m.profile_idc → l.profile_compatibility_flag ≡ m.profile_compatibility_flag
    → l.progressive_source_flag ≡ m.progressive_source_flag
    → l.interlaced_source_flag ≡ m.interlaced_source_flag
    → l.non_packed_constraint_flag ≡ m.non_packed_constraint_flag
    → l.frame_only_constraint_flag ≡ m.frame_only_constraint_flag
    → l.max_12bit_constraint_flag ≡ m.max_12bit_constraint_flag
    → l.max_10bit_constraint_flag ≡ m.max_10bit_constraint_flag
    → l.max_8bit_constraint_flag ≡ m.max_8bit_constraint_flag
    → l.max_422chroma_constraint_flag ≡ m.max_422chroma_constraint_flag
    → l.max_420chroma_constraint_flag ≡ m.max_420chroma_constraint_flag
    → l.max_monochrome_constraint_flag ≡ m.max_monochrome_constraint_flag
    → l.intra_constraint_flag ≡ m.intra_constraint_flag
    → l.one_picture_only_constraint_flag ≡ m.one_picture_only_constraint_flag
    → l.lower_bit_rate_constraint_flag ≡ m.lower_bit_rate_constraint_flag
    → l.max_14bit_constraint_flag ≡ m.max_14bit_constraint_flag → l.inbld_flag ≡ m.inbld_flag → l ≡ m
same_layer l m p0 p1 p2 p3 p4 p5 p6 p7 p8 p9 p10 p11 p12 p13 p14 p15 p16 p17 p18 = λ i. record {
  profile_space = p0 i;
  tier_flag = p1 i;
  profile_idc = p2 i;
  profile_compatibility_flag = p3 i;
  progressive_source_flag = p4 i;
  interlaced_source_flag = p5 i;
  non_packed_constraint_flag = p6 i;
  frame_only_constraint_flag = p7 i;
  max_12bit_constraint_flag = p8 i;
  max_10bit_constraint_flag = p9 i;
  max_8bit_constraint_flag = p10 i;
  max_422chroma_constraint_flag = p11 i;
  max_420chroma_constraint_flag = p12 i;
  max_monochrome_constraint_flag = p13 i;
  intra_constraint_flag = p14 i;
  one_picture_only_constraint_flag = p15 i;
  lower_bit_rate_constraint_flag = p16 i;
  max_14bit_constraint_flag = p17 i;
  inbld_flag = p18 i;
}

-- the whole of it is written once all its turns are
pub sub_layers_written : (x : PlainProfileTierLevel) (n max_sub_layers_minus1 : ℕ) (old new : List Bool)
    → WritesTurns next_sub_layer (own.SameSubLayers x) n old new → n ≡ max_sub_layers_minus1
    → Writes (sub_layers max_sub_layers_minus1) own.sub_layers_with_inputs_of x old new
unfolding sub_layers
sub_layers_written x n m old new h e =
    subst (λ (k : ℕ). Writes (repeat next_sub_layer 0 k) own.sub_layers_with_inputs_of x old new) e
    (all_turns next_sub_layer (own.SameSubLayers x) (λ z is. record {
      profile_flags = by is (λ r. r.sub_layer_profile_present_flag);
      level_flags = by is (λ r. r.sub_layer_level_present_flag);
      profiles = (
        all_same _ _ _ (by is (λ r. r.sub_layer_profile_space)),
        all_same _ _ _ (by is (λ r. r.sub_layer_tier_flag)),
        all_same _ _ _ (by is (λ r. r.sub_layer_profile_idc)),
        all_same _ _ _ (by is (λ r. r.sub_layer_profile_compatibility_flag)),
        all_same _ _ _ (by is (λ r. r.sub_layer_progressive_source_flag)),
        all_same _ _ _ (by is (λ r. r.sub_layer_interlaced_source_flag)),
        all_same _ _ _ (by is (λ r. r.sub_layer_non_packed_constraint_flag)),
        all_same _ _ _ (by is (λ r. r.sub_layer_frame_only_constraint_flag)),
        all_same _ _ _ (by is (λ r. r.sub_layer_max_12bit_constraint_flag)),
        all_same _ _ _ (by is (λ r. r.sub_layer_max_10bit_constraint_flag)),
        all_same _ _ _ (by is (λ r. r.sub_layer_max_8bit_constraint_flag)),
        all_same _ _ _ (by is (λ r. r.sub_layer_max_422chroma_constraint_flag)),
        all_same _ _ _ (by is (λ r. r.sub_layer_max_420chroma_constraint_flag)),
        all_same _ _ _ (by is (λ r. r.sub_layer_max_monochrome_constraint_flag)),
        all_same _ _ _ (by is (λ r. r.sub_layer_intra_constraint_flag)),
        all_same _ _ _ (by is (λ r. r.sub_layer_one_picture_only_constraint_flag)),
        all_same _ _ _ (by is (λ r. r.sub_layer_lower_bit_rate_constraint_flag)),
        all_same _ _ _ (by is (λ r. r.sub_layer_max_14bit_constraint_flag)),
        all_same _ _ _ (by is (λ r. r.sub_layer_inbld_flag)),
      );
      levels = all_same _ _ _ (by is (λ r. r.sub_layer_level_idc));
    }) h)

-- there are always lines of profile tier level to write
pub profile_tier_level_fillable : (max_sub_layers_minus1 : ℕ) → IsFillable (profile_tier_level max_sub_layers_minus1)
unfolding profile_tier_level absent_layers
profile_tier_level_fillable m = record {
  fill = λ w. then_filled (part_kept general_rows own.general_rows_of general_rows_keep _ (λ z1 b1.
      then_filled (part_kept (presence m) own.presence_of (presence_keeps m) _ (λ z2 b2.
      then_filled (filled (when_fillable _ _ (zeros_fillable _ _ refl)) (λ v3 b3.
      part_kept (sub_layers m) own.sub_layers_of (sub_layers_keep m) _ (λ z4 b4. tt)))))));
}
