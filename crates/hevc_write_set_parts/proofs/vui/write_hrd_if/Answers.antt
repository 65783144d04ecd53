use Rattle.std.proofs.Common.{refl}
use Rattle.hevc_tables.specs.VuiTable.{hrd}
use Rattle.hevc_write_elements.proofs.Chains.{done_filled, table_of, writes_if, ◌>>=◌}
use Rattle.hevc_write_set_parts.proofs.vui.write_hrd_if.Goals as goal

pub returns : goal.returns
unfolding hrd
returns c = writes_if c.if-not-present.false λ y w none. do
  rows ← table_of none (λ r. r.hrd) (c.in_ok-write_hrd_parameters.ensures _)
  done_filled (λ e at. rows.known.reach _ e refl at)
