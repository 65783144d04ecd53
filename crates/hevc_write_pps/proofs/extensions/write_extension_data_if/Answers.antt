use Rattle.std.proofs.Common.{refl}
use Rattle.hevc_tables.specs.PpsTable.{extension_data, extension_flags, range_extension, scc_extension}
use Rattle.hevc_write_pps.specs.PpsParts as own
use Rattle.hevc_write_pps.proofs.PpsKeeps.{extension_flags_keeps, range_extension_keeps, scc_extension_keeps}
use Rattle.hevc_write_elements.proofs.Chains.{ending, part_if_of, part_of, writes_if, ◌>>=◌}
use Rattle.hevc_write_pps.proofs.extensions.write_extension_data_if.Goals as goal

pub returns : goal.returns
unfolding extension_data
returns c = writes_if c.if-not-present.false λ y w none. do
  rows ← part_of extension_flags own.extension_flags_of extension_flags_keeps _ none
      c.in_ok-write_extension_flags.ensures refl
  rows ← part_if_of (range_extension _) own.range_extension_of (range_extension_keeps _) _ rows.known
      (λ r. r.range_extension_flag) (c.in_ok-write_range_extension_if.ensures _) refl
  ending (part_if_of (scc_extension _) own.scc_extension_of (scc_extension_keeps _) _ rows.known
      (λ r. r.scc_extension_flag) c.in_ok-write_scc_extension_if.ensures refl) (λ _ _ rows e at. rows.reach _ e refl at)
