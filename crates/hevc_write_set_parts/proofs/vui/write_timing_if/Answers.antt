use Rattle.std.proofs.Common.{refl}
use Rattle.hevc_tables.specs.VuiTable.{timing, hrd}
use Rattle.hevc_write_set_parts.specs.VuiParts as own
use Rattle.hevc_write_set_parts.proofs.VuiKeeps.{hrd_keeps}
use Rattle.hevc_write_elements.proofs.Chains.{bits_of, ending, flag_of, part_if_of, ue_if_of, writes_if, ◌>>=◌}
use Rattle.hevc_write_set_parts.proofs.vui.write_timing_if.Goals as goal

pub returns : goal.returns
unfolding timing
returns c = writes_if c.if-not-present.false λ y w none. do
  rows ← bits_of _ refl _ _ _ none (λ r. r.num_units_in_tick) c.in_ok-bits.ensures
  rows ← bits_of _ refl _ _ _ rows.known (λ r. r.time_scale) c.in_ok-bits-2.ensures
  rows ← flag_of _ refl rows.known (λ r. r.poc_proportional_to_timing_flag) c.in_ok-flag.ensures
  rows ← ue_if_of _ refl _ _ _ _ rows.known (λ r. r.poc_proportional_to_timing_flag)
      (λ r. r.num_ticks_poc_diff_one_minus1) c.in_ok-ue_if.ensures
  rows ← flag_of _ refl rows.known (λ r. r.hrd_parameters_present_flag) c.in_ok-flag-2.ensures
  ending (part_if_of (hrd _) own.hrd_of (hrd_keeps _) _ rows.known
      (λ r. r.hrd_parameters_present_flag) c.in_ok-write_hrd_if.ensures refl) (λ _ _ rows e at. rows.reach _ e refl at)
