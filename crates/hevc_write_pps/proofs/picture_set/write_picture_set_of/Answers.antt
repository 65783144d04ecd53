use Rattle.std.proofs.Common.{refl}
use Rattle.hevc_tables.specs.PpsTable.{coding, extensions, filters, merging, picture_set_of, scaling}
use Rattle.hevc_write_pps.specs.PpsParts as own
use Rattle.hevc_write_pps.proofs.PpsKeeps.{coding_keeps, extensions_keeps, filters_keeps, merging_keeps, scaling_keeps}
use Rattle.hevc_write_elements.proofs.Chains.{ending, part_of, writes, ◌>>=◌}
use Rattle.hevc_write_pps.proofs.picture_set.write_picture_set_of.Goals as goal

pub returns : goal.returns
unfolding picture_set_of
returns c = writes λ y w none. do
  rows ← part_of (coding _) own.coding_of (coding_keeps _) _ none (c.in_ok-write_coding.ensures _) refl
  rows ← part_of filters own.filters_of filters_keeps _ rows.known c.in_ok-write_filters.ensures refl
  rows ← part_of scaling own.scaling_of scaling_keeps _ rows.known c.in_ok-write_scaling.ensures refl
  rows ← part_of (merging _) own.merging_of (merging_keeps _) _ rows.known (c.in_ok-write_merging.ensures _) refl
  ending (part_of (extensions _) own.extensions_of
      (extensions_keeps _) _ rows.known c.in_ok-write_extensions.ensures refl) (λ _ _ rows e at. rows.reach _ e refl at)
