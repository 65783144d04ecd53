use Rattle.std.proofs.Common.{refl}
use Rattle.hevc_tables.specs.SpsTable.{extension_data, extensions}
use Rattle.hevc_write_sps.specs.SpsParts as own
use Rattle.hevc_write_sps.proofs.SpsKeeps.{extension_data_keeps}
use Rattle.hevc_write_elements.proofs.Chains.{ending, flag_of, part_if_of, writes, ◌>>=◌}
use Rattle.hevc_write_sps.proofs.extensions.write_extensions.Goals as goal

pub returns : goal.returns
unfolding extensions
returns c = writes λ y w none. do
  rows ← flag_of _ refl none (λ r. r.extension_present_flag) c.in_ok-flag.ensures
  ending (part_if_of extension_data own.extension_data_of extension_data_keeps _ rows.known
      (λ r. r.extension_present_flag) c.in_ok-write_extension_data_if.ensures refl)
      (λ _ _ rows e at. rows.reach _ e refl at)
