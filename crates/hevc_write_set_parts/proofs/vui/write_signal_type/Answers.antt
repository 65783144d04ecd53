use Rattle.std.proofs.Common.{refl}
use Rattle.hevc_tables.specs.VuiTable.{signal_type, signal}
use Rattle.hevc_write_set_parts.specs.VuiParts as own
use Rattle.hevc_write_set_parts.proofs.VuiKeeps.{signal_keeps}
use Rattle.hevc_write_elements.proofs.Chains.{ending, flag_of, part_if_of, writes, ◌>>=◌}
use Rattle.hevc_write_set_parts.proofs.vui.write_signal_type.Goals as goal

pub returns : goal.returns
unfolding signal_type
returns c = writes λ y w none. do
  rows ← flag_of _ refl none (λ r. r.video_signal_type_present_flag) c.in_ok-flag.ensures
  ending (part_if_of signal own.signal_of signal_keeps _ rows.known
      (λ r. r.video_signal_type_present_flag) c.in_ok-write_signal_if.ensures refl)
      (λ _ _ rows e at. rows.reach _ e refl at)
