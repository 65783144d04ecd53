use Rattle.std.proofs.Common.{refl}
use Rattle.hevc_tables.specs.VuiTable.{display, display_window}
use Rattle.hevc_write_set_parts.specs.VuiParts as own
use Rattle.hevc_write_set_parts.proofs.VuiKeeps.{display_window_keeps}
use Rattle.hevc_write_elements.proofs.Chains.{ending, flag_of, part_if_of, writes, ◌>>=◌}
use Rattle.hevc_write_set_parts.proofs.vui.write_display.Goals as goal

pub returns : goal.returns
unfolding display
returns c = writes λ y w none. do
  rows ← flag_of _ refl none (λ r. r.neutral_chroma_indication_flag) c.in_ok-flag.ensures
  rows ← flag_of _ refl rows.known (λ r. r.field_seq_flag) c.in_ok-flag-2.ensures
  rows ← flag_of _ refl rows.known (λ r. r.frame_field_info_present_flag) c.in_ok-flag-3.ensures
  rows ← flag_of _ refl rows.known (λ r. r.default_display_window_flag) c.in_ok-flag-4.ensures
  ending (part_if_of display_window own.display_window_of display_window_keeps _ rows.known
      (λ r. r.default_display_window_flag) c.in_ok-write_display_window_if.ensures refl)
      (λ _ _ rows e at. rows.reach _ e refl at)
