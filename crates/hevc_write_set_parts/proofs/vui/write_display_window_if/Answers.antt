use Rattle.std.proofs.Common.{refl}
use Rattle.hevc_tables.specs.VuiTable.{display_window}
use Rattle.hevc_write_elements.proofs.Chains.{done_filled, ue_of, writes_if, ◌>>=◌}
use Rattle.hevc_write_set_parts.proofs.vui.write_display_window_if.Goals as goal

pub returns : goal.returns
unfolding display_window
returns c = writes_if c.if-not-present.false λ y w none. do
  rows ← ue_of _ refl _ _ none (λ r. r.def_disp_win_left_offset) c.in_ok-ue.ensures
  rows ← ue_of _ refl _ _ rows.known (λ r. r.def_disp_win_right_offset) c.in_ok-ue-2.ensures
  rows ← ue_of _ refl _ _ rows.known (λ r. r.def_disp_win_top_offset) c.in_ok-ue-3.ensures
  rows ← ue_of _ refl _ _ rows.known (λ r. r.def_disp_win_bottom_offset) c.in_ok-ue-4.ensures
  done_filled (λ e at. rows.known.reach _ e refl at)
