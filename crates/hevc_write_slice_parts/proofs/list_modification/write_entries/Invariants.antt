use Rattle.std.proofs.Common.{◌≡◌}
use Rattle.std.specs.Prelude.{None}
use Rattle.hevc_spec.specs.declared.Row.{Row}
use Rattle.hevc_tables.specs.RefPicListModificationTable.{list_entry}
use Rattle.hevc_write_elements.specs.Choices.{chosen_value}
use Rattle.hevc_write_elements.specs.Filling.{WritesTurns, are_first}
use Rattle.hevc_write_slice_parts.proofs.list_modification.write_entries.Given as goal

abbrev pub invariant-loop-i : goal.invariant-loop-i
invariant-loop-i l = (r : Row) → chosen_value r ≡ None
    → WritesTurns (list_entry r l.num_pic_total_curr) (are_first l.entries) l.i l.fn.w l.w
