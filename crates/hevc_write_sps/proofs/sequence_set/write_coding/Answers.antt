use Rattle.std.proofs.Common.{refl}
use Rattle.hevc_tables.specs.SpsTable.{coding, extensions, long_term, scaling, short_term, tools, usability}
use Rattle.hevc_write_sps.specs.SpsParts as own
use Rattle.hevc_write_sps.proofs.SpsKeeps.{extensions_keeps, long_term_keeps, scaling_keeps}
use Rattle.hevc_write_sps.proofs.SpsKeeps.{short_term_keeps, tools_keeps, usability_keeps}
use Rattle.hevc_write_elements.proofs.Chains.{ending, part_of, writes, ◌>>=◌}
use Rattle.hevc_write_sps.proofs.sequence_set.write_coding.Goals as goal

pub returns : goal.returns
unfolding coding
returns c = writes λ y w none. do
  rows ← part_of scaling own.scaling_of scaling_keeps _ none c.in_ok-write_scaling.ensures refl
  rows ← part_of tools own.tools_of tools_keeps _ rows.known c.in_ok-write_tools.ensures refl
  rows ← part_of short_term own.short_term_of short_term_keeps _ rows.known c.in_ok-write_short_term.ensures refl
  rows ← part_of long_term own.long_term_of long_term_keeps _ rows.known c.in_ok-write_long_term.ensures refl
  rows ← part_of usability own.usability_of usability_keeps _ rows.known c.in_ok-write_usability.ensures refl
  ending (part_of extensions own.extensions_of extensions_keeps _ rows.known
      c.in_ok-write_extensions.ensures refl) (λ _ _ rows e at. rows.reach _ e refl at)
