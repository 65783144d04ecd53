use Rattle.std.proofs.Common.{refl}
use Rattle.hevc_tables.specs.PpsTable.{presence}
use Rattle.hevc_write_elements.proofs.Chains.{done_filled, bits_of, flag_of, ue_of, writes, ◌>>=◌}
use Rattle.hevc_write_pps.proofs.coding.write_presence.Goals as goal

pub returns : goal.returns
unfolding presence
returns c = writes λ y w none. do
  rows ← flag_of _ refl none (λ r. r.dependent_slice_segments_enabled_flag) c.in_ok-flag.ensures
  rows ← flag_of _ refl rows.known (λ r. r.output_flag_present_flag) c.in_ok-flag-2.ensures
  rows ← bits_of _ refl _ _ _ rows.known (λ r. r.num_extra_slice_header_bits) c.in_ok-bits_u8.ensures
  rows ← flag_of _ refl rows.known (λ r. r.sign_data_hiding_enabled_flag) c.in_ok-flag-3.ensures
  rows ← flag_of _ refl rows.known (λ r. r.cabac_init_present_flag) c.in_ok-flag-4.ensures
  rows ← ue_of _ refl _ _ rows.known (λ r. r.num_ref_idx_l0_default_active_minus1) c.in_ok-ue_u8.ensures
  rows ← ue_of _ refl _ _ rows.known (λ r. r.num_ref_idx_l1_default_active_minus1) c.in_ok-ue_u8-2.ensures
  done_filled (λ e at. rows.known.reach _ e refl at)
