use Rattle.std.proofs.Common.{refl}
use Rattle.hevc_tables.specs.PpsSccExtensionTable.{pps_scc_extension, colour_transform, palettes}
use Rattle.hevc_write_extensions.specs.PpsSccExtensionParts as own
use Rattle.hevc_write_extensions.proofs.PpsSccExtensionKeeps.{colour_transform_keeps, palettes_keep}
use Rattle.hevc_write_elements.proofs.Chains.{ending, flag_of, part_if_of, writes_table, ◌>>=◌}
use Rattle.hevc_write_extensions.proofs.pps_scc_extension.write_pps_scc_extension.Goals as goal

pub returns : goal.returns
unfolding pps_scc_extension
returns c = writes_table λ w none. do
  rows ← flag_of _ refl none (λ r. r.curr_pic_ref_enabled_flag) c.in_ok-flag.ensures
  rows ← flag_of _ refl rows.known (λ r. r.residual_adaptive_colour_transform_enabled_flag) c.in_ok-flag-2.ensures
  rows ← part_if_of colour_transform own.colour_transform_of colour_transform_keeps _ rows.known
      (λ r. r.residual_adaptive_colour_transform_enabled_flag) c.in_ok-write_colour_transform_if.ensures refl
  rows ← flag_of _ refl rows.known (λ r. r.palette_predictor_initializers_present_flag) c.in_ok-flag-3.ensures
  ending (part_if_of (palettes _ _) own.palettes_of (palettes_keep _ _) _ rows.known
      (λ r. r.palette_predictor_initializers_present_flag) c.in_ok-write_palettes_if.ensures refl)
      (λ _ _ rows e at. rows.reach _ e refl at)
