use Rattle.std.proofs.Common.{refl}
use Rattle.hevc_tables.specs.VuiTable.{overscan}
use Rattle.hevc_write_elements.proofs.Chains.{done_filled, flag_if_of, flag_of, writes, ◌>>=◌}
use Rattle.hevc_write_set_parts.proofs.vui.write_overscan.Goals as goal

pub returns : goal.returns
unfolding overscan
returns c = writes λ y w none. do
  rows ← flag_of _ refl none (λ r. r.overscan_info_present_flag) c.in_ok-flag.ensures
  rows ← flag_if_of _ refl _ _ rows.known (λ r. r.overscan_info_present_flag)
      (λ r. r.overscan_appropriate_flag) c.in_ok-flag_if.ensures
  done_filled (λ e at. rows.known.reach _ e refl at)
