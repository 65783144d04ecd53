use Rattle.std.proofs.Common.{refl}
use Rattle.hevc_tables.specs.VuiTable.{vui_parameters, aspect_ratio, overscan, signal_type}
use Rattle.hevc_tables.specs.VuiTable.{chroma_places, display, timing_info, stream_restrictions}
use Rattle.hevc_write_set_parts.specs.VuiParts as own
use Rattle.hevc_write_set_parts.proofs.VuiKeeps.{aspect_ratio_keeps, overscan_keeps}
use Rattle.hevc_write_set_parts.proofs.VuiKeeps.{signal_type_keeps, chroma_places_keeps}
use Rattle.hevc_write_set_parts.proofs.VuiKeeps.{display_keeps, timing_info_keeps}
use Rattle.hevc_write_set_parts.proofs.VuiKeeps.{stream_restrictions_keeps}
use Rattle.hevc_write_elements.proofs.Chains.{ending, part_of, writes_table, ◌>>=◌}
use Rattle.hevc_write_set_parts.proofs.vui.write_vui_parameters.Goals as goal

pub returns : goal.returns
unfolding vui_parameters
returns c = writes_table λ w none. do
  rows ← part_of aspect_ratio own.aspect_ratio_of aspect_ratio_keeps _ none c.in_ok-write_aspect_ratio.ensures refl
  rows ← part_of overscan own.overscan_of overscan_keeps _ rows.known c.in_ok-write_overscan.ensures refl
  rows ← part_of signal_type own.signal_type_of signal_type_keeps _ rows.known c.in_ok-write_signal_type.ensures refl
  rows ← part_of chroma_places own.chroma_places_of chroma_places_keeps _ rows.known
      c.in_ok-write_chroma_places.ensures refl
  rows ← part_of display own.display_of display_keeps _ rows.known c.in_ok-write_display.ensures refl
  rows ← part_of (timing_info _) own.timing_info_of
      (timing_info_keeps _) _ rows.known c.in_ok-write_timing_info.ensures refl
  ending (part_of stream_restrictions own.stream_restrictions_of stream_restrictions_keeps _ rows.known
      c.in_ok-write_stream_restrictions.ensures refl) (λ _ _ rows e at. rows.reach _ e refl at)
