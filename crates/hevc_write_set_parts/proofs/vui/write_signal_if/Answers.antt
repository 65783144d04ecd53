use Rattle.std.proofs.Common.{refl}
use Rattle.hevc_tables.specs.VuiTable.{signal, colours}
use Rattle.hevc_write_set_parts.specs.VuiParts as own
use Rattle.hevc_write_set_parts.proofs.VuiKeeps.{colours_keeps}
use Rattle.hevc_write_elements.proofs.Chains.{bits_of, ending, flag_of, part_if_of, writes_if, ◌>>=◌}
use Rattle.hevc_write_set_parts.proofs.vui.write_signal_if.Goals as goal

pub returns : goal.returns
unfolding signal
returns c = writes_if c.if-not-present.false λ y w none. do
  rows ← bits_of _ refl _ _ _ none (λ r. r.video_format) c.in_ok-bits_u8.ensures
  rows ← flag_of _ refl rows.known (λ r. r.video_full_range_flag) c.in_ok-flag.ensures
  rows ← flag_of _ refl rows.known (λ r. r.colour_description_present_flag) c.in_ok-flag-2.ensures
  ending (part_if_of colours own.colours_of colours_keeps _ rows.known
      (λ r. r.colour_description_present_flag) c.in_ok-write_colours_if.ensures refl)
      (λ _ _ rows e at. rows.reach _ e refl at)
