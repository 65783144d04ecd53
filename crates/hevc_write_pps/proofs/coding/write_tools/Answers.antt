use Rattle.std.proofs.Common.{refl}
use Rattle.hevc_tables.specs.PpsTable.{tools}
use Rattle.hevc_write_elements.proofs.Chains.{done_filled, flag_of, writes, ◌>>=◌}
use Rattle.hevc_write_pps.proofs.coding.write_tools.Goals as goal

pub returns : goal.returns
unfolding tools
returns c = writes λ y w none. do
  rows ← flag_of _ refl none (λ r. r.slice_chroma_qp_offsets_present_flag) c.in_ok-flag.ensures
  rows ← flag_of _ refl rows.known (λ r. r.weighted_pred_flag) c.in_ok-flag-2.ensures
  rows ← flag_of _ refl rows.known (λ r. r.weighted_bipred_flag) c.in_ok-flag-3.ensures
  rows ← flag_of _ refl rows.known (λ r. r.transquant_bypass_enabled_flag) c.in_ok-flag-4.ensures
  rows ← flag_of _ refl rows.known (λ r. r.tiles_enabled_flag) c.in_ok-flag-5.ensures
  rows ← flag_of _ refl rows.known (λ r. r.entropy_coding_sync_enabled_flag) c.in_ok-flag-6.ensures
  done_filled (λ e at. rows.known.reach _ e refl at)
