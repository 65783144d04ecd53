use Rattle.std.proofs.Common.{refl}
use Rattle.hevc_tables.specs.VpsTable.{timing_info}
use Rattle.hevc_write_vps.specs.VpsParts as own
use Rattle.hevc_write_vps.proofs.VpsKeeps.{timing_keeps}
use Rattle.hevc_write_elements.proofs.Chains.{ending, flag_of, part_if_of, writes, ◌>>=◌}
use Rattle.hevc_write_vps.proofs.timing.write_timing_info.Goals as goal

pub returns : goal.returns
unfolding timing_info
returns c = writes λ y w none. do
  told ← flag_of _ refl none (λ r. r.timing_info_present_flag) c.in_ok-flag.ensures
  ending (part_if_of own.timing_rows own.timing_of timing_keeps
      (record (own.without_structures y) { timing_info_present_flag = told.value }) told.known
      (λ r. r.timing_info_present_flag) c.in_ok-write_timing_if.ensures refl) (λ _ _ rows e at. rows.reach _ e refl at)
