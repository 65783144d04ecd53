use Rattle.std.proofs.Common.{refl}
use Rattle.hevc_tables.specs.SpsTable.{scaling_lists}
use Rattle.hevc_write_elements.proofs.Chains.{done_filled, table_of, writes_if, ◌>>=◌}
use Rattle.hevc_write_sps.proofs.coding.write_scaling_lists_if.Goals as goal

pub returns : goal.returns
unfolding scaling_lists
returns c = writes_if c.if-not-present.false λ y w none. do
  rows ← table_of none (λ r. r.scaling_list) c.in_ok-write_scaling_list_data.ensures
  done_filled (λ e at. rows.known.reach _ e refl at)
