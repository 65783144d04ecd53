use Rattle.std.proofs.Common.{refl}
use Rattle.hevc_tables.specs.VuiTable.{timing_info, timing}
use Rattle.hevc_write_set_parts.specs.VuiParts as own
use Rattle.hevc_write_set_parts.proofs.VuiKeeps.{timing_keeps}
use Rattle.hevc_write_elements.proofs.Chains.{ending, flag_of, part_if_of, writes, ◌>>=◌}
use Rattle.hevc_write_set_parts.proofs.vui.write_timing_info.Goals as goal

pub returns : goal.returns
unfolding timing_info
returns c = writes λ y w none. do
  rows ← flag_of _ refl none (λ r. r.timing_info_present_flag) c.in_ok-flag.ensures
  ending (part_if_of (timing _) own.timing_of (timing_keeps _) _ rows.known
      (λ r. r.timing_info_present_flag) c.in_ok-write_timing_if.ensures refl) (λ _ _ rows e at. rows.reach _ e refl at)
