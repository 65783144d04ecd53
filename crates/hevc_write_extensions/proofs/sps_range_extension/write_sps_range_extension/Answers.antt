use Rattle.std.proofs.Common.{refl}
use Rattle.hevc_tables.specs.SpsRangeExtensionTable.{sps_range_extension}
use Rattle.hevc_write_elements.proofs.Chains.{done_filled, flag_of, writes_table, ◌>>=◌}
use Rattle.hevc_write_extensions.proofs.sps_range_extension.write_sps_range_extension.Goals as goal

pub returns : goal.returns
unfolding sps_range_extension
returns c = writes_table λ w none. do
  rows ← flag_of _ refl none (λ r. r.transform_skip_rotation_enabled_flag) c.in_ok-flag.ensures
  rows ← flag_of _ refl rows.known (λ r. r.transform_skip_context_enabled_flag) c.in_ok-flag-2.ensures
  rows ← flag_of _ refl rows.known (λ r. r.implicit_rdpcm_enabled_flag) c.in_ok-flag-3.ensures
  rows ← flag_of _ refl rows.known (λ r. r.explicit_rdpcm_enabled_flag) c.in_ok-flag-4.ensures
  rows ← flag_of _ refl rows.known (λ r. r.extended_precision_processing_flag) c.in_ok-flag-5.ensures
  rows ← flag_of _ refl rows.known (λ r. r.intra_smoothing_disabled_flag) c.in_ok-flag-6.ensures
  rows ← flag_of _ refl rows.known (λ r. r.high_precision_offsets_enabled_flag) c.in_ok-flag-7.ensures
  rows ← flag_of _ refl rows.known (λ r. r.persistent_rice_adaptation_enabled_flag) c.in_ok-flag-8.ensures
  rows ← flag_of _ refl rows.known (λ r. r.cabac_bypass_alignment_enabled_flag) c.in_ok-flag-9.ensures
  done_filled (λ e at. rows.known.reach _ e refl at)
