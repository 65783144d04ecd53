use Rattle.std.proofs.Common.{false, get_or, ap, ◌∙◌}
use Rattle.std.specs.Prelude.{Bool, List}
use Rattle.std.proofs.lemmas.Option.{unwrap_or-slice_get}
use Rattle.hevc_tables.specs.ProfileTierLevelTable.{next_sub_layer, sub_layer_profile, sub_layer_level}
use Rattle.hevc_set_parts.specs.ProfileTierLevel.{plain_profile_tier_level}
use Rattle.hevc_write_elements.proofs.Steps.{then_filled}
use Rattle.hevc_write_elements.proofs.Loops.{when_turn_written, fewer_same}
use Rattle.hevc_write_set_parts.specs.ProfileParts as own
use Rattle.hevc_write_set_parts.proofs.ProfileKeeps.{sub_layer_profile_keeps, sub_layer_level_keeps, fewer_profiles}
use Rattle.hevc_write_set_parts.proofs.sub_layers.write_next_sub_layer.Goals as goal

pub returns : goal.returns
unfolding next_sub_layer
returns c =
    let x = plain_profile_tier_level c.args.x.now in
    let i = c.args.i in
    record {
      written = λ y w.
          then_filled (when_turn_written sub_layer_profile (own.same_profiles x) own.sub_layer_profiles_of i
          (sub_layer_profile_keeps i) y (fewer_profiles x i y) c.in_ok-write_profile_if.ensures
          (λ v1 b1 sub_layer_profiles_rows.
          when_turn_written sub_layer_level (own.same_levels x) own.sub_layer_levels_of i
          (sub_layer_level_keeps i) _ (fewer_same i _ _) c.in_ok-write_level_if.ensures
          (λ v2 b2 sub_layer_levels_rows a.
          let profile =
          sub_layer_profiles_rows (unwrap_or-slice_get y.sub_layer_profile_present_flag i false
          ∙ ap (λ (l : List Bool). get_or l i false) a.profile_flags) a.profiles in
          let level = sub_layer_levels_rows (unwrap_or-slice_get y.sub_layer_level_present_flag i false
          ∙ ap (λ (l : List Bool). get_or l i false) a.level_flags) a.levels in (
            record {
              profile_flags = a.profile_flags;
              level_flags = a.level_flags;
              profiles = profile.0;
              levels = level.0;
            },
            λ at. level.1 (profile.1 at),
          ))));
    }
