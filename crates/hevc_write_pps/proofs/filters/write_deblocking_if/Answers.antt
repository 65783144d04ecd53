use Rattle.std.proofs.Common.{refl}
use Rattle.hevc_tables.specs.PpsTable.{deblocking, filter_offsets}
use Rattle.hevc_write_pps.specs.PpsParts as own
use Rattle.hevc_write_pps.proofs.PpsKeeps.{filter_offsets_keeps}
use Rattle.std.specs.Prelude.{not}
use Rattle.hevc_write_elements.proofs.Chains.{ending, flag_of, part_if_of, writes_if, ◌>>=◌}
use Rattle.hevc_write_pps.proofs.filters.write_deblocking_if.Goals as goal

pub returns : goal.returns
unfolding deblocking
returns c = writes_if c.if-not-present.false λ y w none. do
  rows ← flag_of _ refl none (λ r. r.deblocking_filter_override_enabled_flag) c.in_ok-flag.ensures
  rows ← flag_of _ refl rows.known (λ r. r.deblocking_filter_disabled_flag) c.in_ok-flag-2.ensures
  ending (part_if_of filter_offsets own.filter_offsets_of filter_offsets_keeps _ rows.known
      (λ r. not r.deblocking_filter_disabled_flag) c.in_ok-write_filter_offsets_if.ensures refl)
      (λ _ _ rows e at. rows.reach _ e refl at)
