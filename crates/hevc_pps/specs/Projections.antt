-- The parts of a length as those of the table.
use Rattle.std.specs.Prelude.{ℕ}
use Rattle.hevc_tables.specs.PpsTable as table
use Rattle.hevc_pps.specs.declared.tile_sizes.Parts.{Parts}

module _ {N : ℕ} where
  abbrev pub plain_parts : Parts N → table.Parts
  plain_parts p = record { sizes = p.sizes; left = p.left }
