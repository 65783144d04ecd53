use Rattle.std.proofs.Common.{refl}
use Rattle.hevc_tables.specs.SpsTable.{usability, usability_information}
use Rattle.hevc_write_sps.specs.SpsParts as own
use Rattle.hevc_write_sps.proofs.SpsKeeps.{usability_information_keeps}
use Rattle.hevc_write_elements.proofs.Chains.{ending, flag_of, part_if_of, writes, ◌>>=◌}
use Rattle.hevc_write_sps.proofs.coding.write_usability.Goals as goal

pub returns : goal.returns
unfolding usability
returns c = writes λ y w none. do
  rows ← flag_of _ refl none (λ r. r.temporal_mvp_enabled_flag) c.in_ok-flag.ensures
  rows ← flag_of _ refl rows.known (λ r. r.strong_intra_smoothing_enabled_flag) c.in_ok-flag-2.ensures
  rows ← flag_of _ refl rows.known (λ r. r.vui_parameters_present_flag) c.in_ok-flag-3.ensures
  ending (part_if_of usability_information own.usability_information_of usability_information_keeps _
      rows.known (λ r. r.vui_parameters_present_flag) c.in_ok-write_usability_information_if.ensures refl)
      (λ _ _ rows e at. rows.reach _ e refl at)
