use Rattle.std.proofs.Common.{refl}
use Rattle.hevc_tables.specs.SpsSccExtensionTable.{palettes, initializers}
use Rattle.hevc_write_extensions.specs.SpsSccExtensionParts as own
use Rattle.hevc_write_extensions.proofs.SpsSccExtensionKeeps.{initializers_keep}
use Rattle.hevc_write_elements.proofs.Chains.{ending, flag_of, part_if_of, ue_of, writes, ◌>>=◌}
use Rattle.hevc_write_extensions.proofs.sps_scc_extension.write_palettes.Goals as goal

pub returns : goal.returns
unfolding palettes
returns c = writes λ y w none. do
  rows ← ue_of _ refl _ _ none (λ r. r.palette_max_size) c.in_ok-ue_u8.ensures
  rows ← ue_of _ refl _ _ rows.known (λ r. r.delta_palette_max_predictor_size) c.in_ok-ue_u8-2.ensures
  rows ← flag_of _ refl rows.known (λ r. r.palette_predictor_initializers_present_flag) c.in_ok-flag.ensures
  ending (part_if_of (initializers _) own.initializers_of (initializers_keep _) _ rows.known
      (λ r. r.palette_predictor_initializers_present_flag) c.in_ok-write_initializers_if.ensures refl)
      (λ _ _ rows e at. rows.reach _ e refl at)
