use Rattle.std.proofs.Common.{refl}
use Rattle.hevc_tables.specs.SpsTable.{range_extension, with_half_ranges}
use Rattle.hevc_write_elements.proofs.Chains.{done_filled, table_of, writes_if, ◌>>=◌}
use Rattle.hevc_write_sps.proofs.extensions.write_range_extension_if.Goals as goal

pub returns : goal.returns
unfolding range_extension with_half_ranges
returns c = writes_if c.if-not-present.false λ y w none. do
  rows ← table_of none (λ r. r.range_extension) c.in_ok-write_sps_range_extension.ensures
  done_filled (λ e at. rows.known.reach _ e refl at)
