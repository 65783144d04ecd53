use Rattle.std.proofs.Common.{refl}
use Rattle.hevc_tables.specs.PpsTable.{extension_flags}
use Rattle.hevc_write_elements.proofs.Chains.{done_filled, flag_of, writes, zero_of, zeros_of, ◌>>=◌}
use Rattle.hevc_write_pps.proofs.extensions.write_extension_flags.Goals as goal

pub returns : goal.returns
unfolding extension_flags
returns c = writes λ y w none. do
  rows ← flag_of _ refl none (λ r. r.range_extension_flag) c.in_ok-flag.ensures
  rows ← zero_of _ refl rows.known c.in_ok-flag-2.ensures
  rows ← zero_of _ refl rows.known c.in_ok-flag-3.ensures
  rows ← flag_of _ refl rows.known (λ r. r.scc_extension_flag) c.in_ok-flag-4.ensures
  rows ← zeros_of _ 4 refl rows.known c.in_ok-zeros.ensures
  done_filled (λ e at. rows.known.reach _ e refl at)
