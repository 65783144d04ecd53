use Rattle.std.proofs.Common.{refl}
use Rattle.hevc_tables.specs.VpsTable.{extension}
use Rattle.hevc_write_elements.proofs.Chains.{done_filled, flag_of, writes, ◌>>=◌}
use Rattle.hevc_write_vps.proofs.video_set.write_extension.Goals as goal

pub returns : goal.returns
unfolding extension
returns c = writes λ y w none. do
  rows ← flag_of _ refl none (λ r. r.extension_flag) c.in_ok-flag.ensures
  done_filled (λ e at. rows.known.reach _ e refl at)
