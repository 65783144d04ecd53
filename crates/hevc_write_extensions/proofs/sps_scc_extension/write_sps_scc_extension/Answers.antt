use Rattle.std.proofs.Common.{refl}
use Rattle.hevc_tables.specs.SpsSccExtensionTable.{sps_scc_extension, palettes}
use Rattle.hevc_write_extensions.specs.SpsSccExtensionParts as own
use Rattle.hevc_write_extensions.proofs.SpsSccExtensionKeeps.{palettes_keep}
use Rattle.hevc_write_elements.proofs.Chains.{done_filled, bits_of, flag_of, part_if_of, writes_table, ◌>>=◌}
use Rattle.hevc_write_extensions.proofs.sps_scc_extension.write_sps_scc_extension.Goals as goal

pub returns : goal.returns
unfolding sps_scc_extension
returns c = writes_table λ w none. do
  rows ← flag_of _ refl none (λ r. r.curr_pic_ref_enabled_flag) c.in_ok-flag.ensures
  rows ← flag_of _ refl rows.known (λ r. r.palette_mode_enabled_flag) c.in_ok-flag-2.ensures
  rows ← part_if_of (palettes _) own.palettes_of (palettes_keep _) _ rows.known
      (λ r. r.palette_mode_enabled_flag) c.in_ok-write_palettes_if.ensures refl
  rows ← bits_of _ refl _ _ _ rows.known (λ r. r.motion_vector_resolution_control_idc) c.in_ok-bits_u8.ensures
  rows ← flag_of _ refl rows.known (λ r. r.intra_boundary_filtering_disabled_flag) c.in_ok-flag-3.ensures
  done_filled (λ e at. rows.known.reach _ e refl at)
