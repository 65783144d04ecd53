-- What the parts of table 2 leave that tell of a layer.
use Rattle.std.proofs.Common.{◌≡◌, ℕ, List, Bool, refl, subst}
use Rattle.std.specs.Prelude.{None}
use Rattle.hevc_tables.specs.ProfileTierLevelTable.{LayerProfile, Scope, general, sub_layer, row_of}
use Rattle.hevc_tables.specs.ProfileTierLevelTable.{compatibility_flag, compatibility_flags}
use Rattle.hevc_tables.specs.ProfileTierLevelTable.{profiles, source, formats, bit_depth_flag}
use Rattle.hevc_tables.specs.ProfileTierLevelTable.{range_extensions_flags, main_10_flags}
use Rattle.hevc_tables.specs.ProfileTierLevelTable.{reserved_bits, constraints, inbld}
use Rattle.hevc_tables.specs.ProfileTierLevelTable.{layer_profile}
use Rattle.hevc_write_elements.specs.Choices.{skipped, chosen_value}
use Rattle.hevc_write_elements.specs.Filling.{Keeps, Writes, WritesTurns}
use Rattle.hevc_write_elements.proofs.Steps.{kept_rows, part_kept, either_kept, IsFillable, by}
use Rattle.hevc_write_elements.proofs.Loops.{turns_keep, all_turns, all_same}
use Rattle.hevc_write_set_parts.specs.LayerParts as own

-- the values of all rows of a profile are kept, and its reserved bits are zeros
pub layer_row : (scope : Scope) (n : ℕ) → chosen_value (row_of scope n) ≡ None
layer_row general n = refl
layer_row sub_layer n = refl

-- nor is any bit of reserved ones set
pub layer_zeros : (scope : Scope) (n bits : ℕ) → skipped (row_of scope n) bits ≡ 0
layer_zeros general n bits = refl
layer_zeros sub_layer n bits = refl

module _ (scope : Scope) where
  -- sets no elements but those of row 4
  pub compatibility_flag_keeps : (i : ℕ) → Keeps (compatibility_flag scope i) own.compatibility_flags_of
  unfolding compatibility_flag
  compatibility_flag_keeps i = record {
    same = λ y. refl;
    last = λ x y z. refl;
    kept = λ y w. search (kept_rows, layer_row) depth 40 fits 8000;
  }

  -- sets no elements but those of row 4
  pub compatibility_flags_keep : Keeps (compatibility_flags scope) own.compatibility_flags_of
  unfolding compatibility_flags
  compatibility_flags_keep =
      turns_keep (compatibility_flag scope) own.compatibility_flags_of compatibility_flag_keeps 32

  -- sets no elements but those of rows 1 to 4
  pub profiles_keeps : Keeps (profiles scope) own.profiles_of
  unfolding profiles
  profiles_keeps = record {
    same = λ y. refl;
    last = λ x y z. refl;
    kept = λ y w. search (
      kept_rows,
      layer_row,
      part_kept (compatibility_flags scope) own.compatibility_flags_of compatibility_flags_keep,
    ) depth 40 fits 8000;
  }

  -- sets no elements but those of row 5
  pub source_keeps : Keeps (source scope) own.source_of
  unfolding source
  source_keeps = record {
    same = λ y. refl;
    last = λ x y z. refl;
    kept = λ y w. search (kept_rows, layer_row) depth 40 fits 8000;
  }

  -- sets no elements but those of row 6
  pub formats_keeps : Keeps (formats scope) own.formats_of
  unfolding formats
  formats_keeps = record {
    same = λ y. refl;
    last = λ x y z. refl;
    kept = λ y w. search (kept_rows, layer_row) depth 40 fits 8000;
  }

  -- sets no elements but those of rows 7 to 9
  pub bit_depth_flag_keeps : Keeps (bit_depth_flag scope) own.bit_depth_flag_of
  unfolding bit_depth_flag
  bit_depth_flag_keeps = record {
    same = λ y. refl;
    last = λ x y z. refl;
    kept = λ y w. search (kept_rows, layer_row, layer_zeros) depth 40 fits 8000;
  }

  -- sets no elements but those of rows 6 to 13
  pub range_extensions_flags_keeps : Keeps (range_extensions_flags scope) own.constraints_of
  unfolding range_extensions_flags
  range_extensions_flags_keeps = record {
    same = λ y. refl;
    last = λ x y z. refl;
    kept = λ y w. search (
      kept_rows,
      part_kept (formats scope) own.formats_of formats_keeps,
      part_kept (bit_depth_flag scope) own.bit_depth_flag_of bit_depth_flag_keeps,
    ) depth 40 fits 8000;
  }

  -- sets no elements but those of rows 6 to 13
  pub main_10_flags_keeps : Keeps (main_10_flags scope) own.constraints_of
  unfolding main_10_flags
  main_10_flags_keeps = record {
    same = λ y. refl;
    last = λ x y z. refl;
    kept = λ y w. search (kept_rows, layer_row, layer_zeros) depth 40 fits 8000;
  }

  -- sets no elements but those of rows 6 to 13
  pub reserved_bits_keeps : Keeps (reserved_bits scope) own.constraints_of
  unfolding reserved_bits
  reserved_bits_keeps = record {
    same = λ y. refl;
    last = λ x y z. refl;
    kept = λ y w. search (kept_rows, layer_zeros) depth 40 fits 8000;
  }

  -- sets no elements but those of rows 6 to 13
  pub other_constraints_keep : Keeps (own.other_constraints scope) own.constraints_of
  other_constraints_keep = record {
    same = λ y. refl;
    last = λ x y z. refl;
    kept = λ y w. either_kept (main_10_flags scope)
        (reserved_bits scope) own.constraints_of main_10_flags_keeps reserved_bits_keeps y _ (λ z b. refl);
  }

  -- sets no elements but those of rows 6 to 13
  pub constraints_keep : Keeps (constraints scope) own.constraints_of
  unfolding constraints
  constraints_keep = record {
    same = λ y. refl;
    last = λ x y z. refl;
    kept = λ y w. either_kept (range_extensions_flags scope)
        (own.other_constraints scope) own.constraints_of range_extensions_flags_keeps other_constraints_keep
        y _ (λ z b. refl);
  }

  -- sets no elements but those of rows 14 and 15
  pub inbld_keeps : Keeps (inbld scope) own.inbld_of
  unfolding inbld
  inbld_keeps = record {
    same = λ y. refl;
    last = λ x y z. refl;
    kept = λ y w. search (kept_rows, layer_row, layer_zeros) depth 40 fits 8000;
  }

  -- there are always lines of layer profile to write
  pub layer_profile_fillable : IsFillable (layer_profile scope)
  unfolding layer_profile
  layer_profile_fillable = record {
    fill = λ w. search (
      kept_rows,
      part_kept (profiles scope) own.profiles_of profiles_keeps,
      part_kept (source scope) own.source_of source_keeps,
      part_kept (constraints scope) own.constraints_of constraints_keep,
      part_kept (inbld scope) own.inbld_of inbld_keeps,
    ) depth 40 fits 8000;
  }

  -- the whole of it is written once all its turns are
  pub compatibility_flags_written : (x : LayerProfile) (n : ℕ) (old new : List Bool)
      → WritesTurns (compatibility_flag scope) (own.same_flags x) n old new → n ≡ 32
      → Writes (compatibility_flags scope) own.compatibility_flags_of x old new
  unfolding compatibility_flags
  compatibility_flags_written x n old new h e =
      subst (λ (k : ℕ). Writes (Rattle.hevc_spec.specs.Rows.repeat (compatibility_flag scope) 0 k)
      own.compatibility_flags_of x old new) e (all_turns (compatibility_flag scope) (own.same_flags x)
      (λ z is. all_same _ _ _ (by is (λ r. r.profile_compatibility_flag))) h)
