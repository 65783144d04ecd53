use Rattle.std.proofs.Common.{refl}
use Rattle.hevc_tables.specs.PpsTable.{merging}
use Rattle.hevc_write_elements.proofs.Chains.{done_filled, flag_of, ue_of, writes, ◌>>=◌}
use Rattle.hevc_write_pps.proofs.coding.write_merging.Goals as goal

pub returns : goal.returns
unfolding merging
returns c = λ sps. writes λ y w none. do
  rows ← flag_of _ refl none (λ r. r.lists_modification_present_flag) c.in_ok-flag.ensures
  rows ← ue_of _ refl _ _ rows.known (λ r. r.log2_parallel_merge_level_minus2) c.in_ok-ue_u8.ensures
  rows ← flag_of _ refl rows.known (λ r. r.slice_segment_header_extension_present_flag) c.in_ok-flag-2.ensures
  done_filled (λ e at. rows.known.reach _ e refl at)
