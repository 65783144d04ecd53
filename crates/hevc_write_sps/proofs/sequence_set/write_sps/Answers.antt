use Rattle.std.proofs.Common.{refl}
use Rattle.hevc_tables.specs.SpsTable.{coding, format, sequence_parameter_set}
use Rattle.hevc_write_sps.specs.SpsParts as own
use Rattle.hevc_write_sps.proofs.SpsKeeps.{coding_keeps, format_keeps}
use Rattle.hevc_write_elements.proofs.Chains.{ending, part_of, writes_table, ◌>>=◌}
use Rattle.hevc_write_sps.proofs.sequence_set.write_sps.Goals as goal

pub returns : goal.returns
unfolding sequence_parameter_set
returns c = writes_table λ w none. do
  rows ← part_of format own.format_of format_keeps _ none c.in_ok-write_format.ensures refl
  ending (part_of coding own.coding_of coding_keeps _ rows.known c.in_ok-write_coding.ensures refl)
      (λ _ _ rows e at. rows.reach _ e refl at)
