use Rattle.std.proofs.Common.{refl}
use Rattle.hevc_tables.specs.PpsRangeExtensionTable.{pps_range_extension, offset_lists}
use Rattle.hevc_write_extensions.specs.PpsRangeExtensionParts as own
use Rattle.hevc_write_extensions.proofs.PpsRangeExtensionKeeps.{offset_lists_keep}
use Rattle.hevc_write_elements.proofs.Chains.{done_filled, always, flag_of, part_if_of, ue_if_of}
use Rattle.hevc_write_elements.proofs.Chains.{ue_of, writes_table, ◌>>=◌}
use Rattle.hevc_write_extensions.proofs.pps_range_extension.write_pps_range_extension.Goals as goal

pub returns : goal.returns
unfolding pps_range_extension
returns c = λ sps. writes_table λ w none. do
  rows ← ue_if_of _ refl _ _ _ _ none (always _)
      (λ r. r.log2_max_transform_skip_block_size_minus2) c.in_ok-ue_if.ensures
  rows ← flag_of _ refl rows.known (λ r. r.cross_component_prediction_enabled_flag) c.in_ok-flag.ensures
  rows ← flag_of _ refl rows.known (λ r. r.chroma_qp_offset_list_enabled_flag) c.in_ok-flag-2.ensures
  rows ← part_if_of offset_lists own.offset_lists_of offset_lists_keep _ rows.known
      (λ r. r.chroma_qp_offset_list_enabled_flag) c.in_ok-write_offset_lists_if.ensures refl
  rows ← ue_of _ refl _ _ rows.known (λ r. r.log2_sao_offset_scale_luma) c.in_ok-ue.ensures
  rows ← ue_of _ refl _ _ rows.known (λ r. r.log2_sao_offset_scale_chroma) c.in_ok-ue-2.ensures
  done_filled (λ e at. rows.known.reach _ e refl at)
