use Rattle.std.proofs.Common.{refl}
use Rattle.hevc_tables.specs.PpsSccExtensionTable.{initializers, predictors}
use Rattle.hevc_write_extensions.specs.PpsSccExtensionParts as own
use Rattle.hevc_write_extensions.proofs.PpsSccExtensionKeeps.{predictors_keep}
use Rattle.std.specs.Prelude.{not}
use Rattle.hevc_write_elements.proofs.Chains.{ending, flag_of, part_of, ue_if_of, ue_of, writes, ◌>>=◌}
use Rattle.hevc_write_extensions.proofs.pps_scc_extension.write_initializers.Goals as goal

pub returns : goal.returns
unfolding initializers
returns c = writes λ y w none. do
  rows ← flag_of _ refl none (λ r. r.monochrome_palette_flag) c.in_ok-flag.ensures
  rows ← ue_of _ refl _ _ rows.known (λ r. r.luma_bit_depth_entry_minus8) c.in_ok-ue_u8.ensures
  rows ← ue_if_of _ refl _ _ _ _ rows.known (λ r. not r.monochrome_palette_flag)
      (λ r. r.chroma_bit_depth_entry_minus8) c.in_ok-ue_u8_if.ensures
  ending (part_of (predictors _) own.all_predictors_of
      (predictors_keep _) _ rows.known c.in_ok-write_predictors.ensures refl) (λ _ _ rows e at. rows.reach _ e refl at)
