use Rattle.std.proofs.Common.{refl}
use Rattle.hevc_tables.specs.VpsTable.{timing}
use Rattle.hevc_write_vps.specs.VpsParts as own
use Rattle.hevc_write_vps.proofs.VpsKeeps.{structures_keeps}
use Rattle.hevc_write_elements.proofs.Chains.{bits_of, ending, flag_of, part_of, ue_if_of, ue_of, writes_if, ◌>>=◌}
use Rattle.hevc_write_vps.proofs.timing.write_timing_if.Goals as goal

pub returns : goal.returns
unfolding timing
returns c = writes_if c.if-not-present.false λ y w none. do
  units ← bits_of _ refl _ _ _ none (λ r. r.num_units_in_tick) c.in_ok-bits.ensures
  scale ← bits_of _ refl _ _ _ units.known (λ r. r.time_scale) c.in_ok-bits-2.ensures
  proportional ← flag_of _ refl scale.known (λ r. r.poc_proportional_to_timing_flag) c.in_ok-flag.ensures
  ticks ← ue_if_of _ refl _ _ _ _ proportional.known (λ r. r.poc_proportional_to_timing_flag)
      (λ r. r.num_ticks_poc_diff_one_minus1) c.in_ok-ue_if.ensures
  count ← ue_of _ refl _ _ ticks.known (λ r. r.num_hrd_parameters) c.in_ok-ue.ensures
  ending (part_of own.structures_rows own.structures_of structures_keeps
      (record (own.without_structures y) {
        num_units_in_tick = units.value;
        time_scale = scale.value;
        poc_proportional_to_timing_flag = proportional.value;
        num_ticks_poc_diff_one_minus1 = ticks.value;
        num_hrd_parameters = count.value;
      }) count.known c.in_ok-write_structures.ensures refl) (λ _ _ rows e at. rows.reach _ e refl at)
