use Rattle.std.proofs.Common.{refl}
use Rattle.hevc_tables.specs.PpsTable.{coding, presence, quantiser, tiles, tools}
use Rattle.hevc_write_pps.specs.PpsParts as own
use Rattle.hevc_write_pps.proofs.PpsKeeps.{presence_keeps, quantiser_keeps, tiles_keeps, tools_keeps}
use Rattle.hevc_write_elements.proofs.Chains.{ending, part_if_of, part_of, writes, ◌>>=◌}
use Rattle.hevc_write_pps.proofs.coding.write_coding.Goals as goal

pub returns : goal.returns
unfolding coding
returns c = λ sps. writes λ y w none. do
  rows ← part_of presence own.presence_of presence_keeps _ none c.in_ok-write_presence.ensures refl
  rows ← part_of (quantiser _) own.quantiser_of (quantiser_keeps _) _ rows.known
      (c.in_ok-write_quantiser.ensures _) refl
  rows ← part_of tools own.tools_of tools_keeps _ rows.known c.in_ok-write_tools.ensures refl
  ending (part_if_of (tiles _) own.tiles_of (tiles_keeps _) _ rows.known
      (λ r. r.tiles_enabled_flag) (c.in_ok-write_tiles_if.ensures _) refl) (λ _ _ rows e at. rows.reach _ e refl at)
