use Rattle.std.proofs.Common.{refl}
use Rattle.hevc_records.specs.Vps.{default_vps}
use Rattle.hevc_tables.specs.VpsTable.{extension, identity, layer_sets, orderings, video_parameter_set}
use Rattle.hevc_write_vps.specs.VpsParts as own
use Rattle.hevc_write_vps.proofs.VpsKeeps.{extension_keeps, identity_keeps, layer_sets_keeps}
use Rattle.hevc_write_vps.proofs.VpsKeeps.{orderings_keeps, timing_info_keeps}
use Rattle.hevc_write_elements.proofs.Chains.{ending, part_of, writes_table, ◌>>=◌}
use Rattle.hevc_write_vps.proofs.video_set.write_vps.Goals as goal

pub returns : goal.returns
unfolding video_parameter_set
returns c = writes_table λ w none. do
  identity_rows ← part_of identity own.identity_of identity_keeps _ none c.in_ok-write_identity.ensures refl
  orderings_rows ← part_of orderings own.orderings_of orderings_keeps _ identity_rows.known
      c.in_ok-write_orderings.ensures refl
  layer_sets_rows ← part_of layer_sets own.layer_sets_of layer_sets_keeps _ orderings_rows.known
      c.in_ok-write_layer_sets.ensures refl
  timing_rows ← part_of own.timing_info_rows own.timing_info_of timing_info_keeps
      (own.layer_sets_of layer_sets_rows.value
      (own.orderings_of orderings_rows.value (own.identity_of identity_rows.value default_vps)))
      layer_sets_rows.known c.in_ok-write_timing_info.ensures refl
  ending (part_of extension own.extension_of extension_keeps _ timing_rows.known
      c.in_ok-write_extension.ensures refl) (λ _ _ rows e at. rows.reach _ e refl at)
