use Rattle.std.proofs.Common.{◌≡◌}
use Rattle.std.specs.Prelude.{None}
use Rattle.hevc_spec.specs.declared.Row.{Row}
use Rattle.hevc_tables.specs.PpsTable.{told_size}
use Rattle.hevc_write_elements.specs.Choices.{chosen_value}
use Rattle.hevc_write_elements.specs.Filling.{WritesTurns}
use Rattle.hevc_write_pps.proofs.PpsKeeps.{same_sizes}
use Rattle.hevc_write_pps.proofs.tiles.write_told_sizes.Given as goal

abbrev pub invariant-loop-i : goal.invariant-loop-i
invariant-loop-i l = (r : Row) → chosen_value r ≡ None → WritesTurns (told_size r) (same_sizes l.sizes) l.i l.fn.w l.w
