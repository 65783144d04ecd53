use Rattle.std.proofs.Common.{refl}
use Rattle.hevc_tables.specs.PpsTable.{scc_extension}
use Rattle.hevc_write_elements.proofs.Chains.{done_filled, table_of, writes_if, ◌>>=◌}
use Rattle.hevc_write_pps.proofs.extensions.write_scc_extension_if.Goals as goal

pub returns : goal.returns
unfolding scc_extension
returns c = writes_if c.if-not-present.false λ y w none. do
  rows ← table_of none (λ r. r.scc_extension) c.in_ok-write_pps_scc_extension.ensures
  done_filled (λ e at. rows.known.reach _ e refl at)
