use Rattle.std.proofs.Common.{refl}
use Rattle.hevc_tables.specs.VuiTable.{stream_restrictions, restrictions}
use Rattle.hevc_write_set_parts.specs.VuiParts as own
use Rattle.hevc_write_set_parts.proofs.VuiKeeps.{restrictions_keeps}
use Rattle.hevc_write_elements.proofs.Chains.{ending, flag_of, part_if_of, writes, ◌>>=◌}
use Rattle.hevc_write_set_parts.proofs.vui.write_stream_restrictions.Goals as goal

pub returns : goal.returns
unfolding stream_restrictions
returns c = writes λ y w none. do
  rows ← flag_of _ refl none (λ r. r.bitstream_restriction_flag) c.in_ok-flag.ensures
  ending (part_if_of restrictions own.restrictions_of restrictions_keeps _ rows.known
      (λ r. r.bitstream_restriction_flag) c.in_ok-write_restrictions_if.ensures refl)
      (λ _ _ rows e at. rows.reach _ e refl at)
