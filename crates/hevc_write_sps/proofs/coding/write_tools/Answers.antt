use Rattle.std.proofs.Common.{refl}
use Rattle.hevc_tables.specs.SpsTable.{pulse_code_modulation, tools}
use Rattle.hevc_write_sps.specs.SpsParts as own
use Rattle.hevc_write_sps.proofs.SpsKeeps.{pulse_code_modulation_keeps}
use Rattle.hevc_write_elements.proofs.Chains.{ending, flag_of, part_if_of, writes, ◌>>=◌}
use Rattle.hevc_write_sps.proofs.coding.write_tools.Goals as goal

pub returns : goal.returns
unfolding tools
returns c = writes λ y w none. do
  rows ← flag_of _ refl none (λ r. r.amp_enabled_flag) c.in_ok-flag.ensures
  rows ← flag_of _ refl rows.known (λ r. r.sample_adaptive_offset_enabled_flag) c.in_ok-flag-2.ensures
  rows ← flag_of _ refl rows.known (λ r. r.pcm_enabled_flag) c.in_ok-flag-3.ensures
  ending (part_if_of pulse_code_modulation own.pulse_code_modulation_of pulse_code_modulation_keeps _
      rows.known (λ r. r.pcm_enabled_flag) c.in_ok-write_pulse_code_modulation_if.ensures refl)
      (λ _ _ rows e at. rows.reach _ e refl at)
