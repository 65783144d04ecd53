use Rattle.std.proofs.Common.{refl}
use Rattle.hevc_tables.specs.VuiTable.{aspect_ratio}
use Rattle.std.specs.Prelude.{◌==◌}
use Rattle.hevc_write_elements.proofs.Chains.{done_filled, bits_if_of, flag_of, writes, ◌>>=◌}
use Rattle.hevc_write_set_parts.proofs.vui.write_aspect_ratio.Goals as goal

pub returns : goal.returns
unfolding aspect_ratio
returns c = writes λ y w none. do
  rows ← flag_of _ refl none (λ r. r.aspect_ratio_info_present_flag) c.in_ok-flag.ensures
  rows ← bits_if_of _ refl _ _ _ _ _ rows.known (λ r. r.aspect_ratio_info_present_flag)
      (λ r. r.aspect_ratio_idc) c.in_ok-bits_if.ensures
  rows ← bits_if_of _ refl _ _ _ _ _ rows.known (λ r. r.aspect_ratio_idc == 255)
      (λ r. r.sar_width) c.in_ok-bits_if-2.ensures
  rows ← bits_if_of _ refl _ _ _ _ _ rows.known (λ r. r.aspect_ratio_idc == 255)
      (λ r. r.sar_height) c.in_ok-bits_if-3.ensures
  done_filled (λ e at. rows.known.reach _ e refl at)
