use Rattle.std.proofs.Common.{refl}
use Rattle.hevc_tables.specs.VuiTable.{restrictions}
use Rattle.hevc_write_elements.proofs.Chains.{done_filled, flag_of, ue_of, writes_if, ◌>>=◌}
use Rattle.hevc_write_set_parts.proofs.vui.write_restrictions_if.Goals as goal

pub returns : goal.returns
unfolding restrictions
returns c = writes_if c.if-not-present.false λ y w none. do
  rows ← flag_of _ refl none (λ r. r.tiles_fixed_structure_flag) c.in_ok-flag.ensures
  rows ← flag_of _ refl rows.known (λ r. r.motion_vectors_over_pic_boundaries_flag) c.in_ok-flag-2.ensures
  rows ← flag_of _ refl rows.known (λ r. r.restricted_ref_pic_lists_flag) c.in_ok-flag-3.ensures
  rows ← ue_of _ refl _ _ rows.known (λ r. r.min_spatial_segmentation_idc) c.in_ok-ue.ensures
  rows ← ue_of _ refl _ _ rows.known (λ r. r.max_bytes_per_pic_denom) c.in_ok-ue-2.ensures
  rows ← ue_of _ refl _ _ rows.known (λ r. r.max_bits_per_min_cu_denom) c.in_ok-ue-3.ensures
  rows ← ue_of _ refl _ _ rows.known (λ r. r.log2_max_mv_length_horizontal) c.in_ok-ue-4.ensures
  rows ← ue_of _ refl _ _ rows.known (λ r. r.log2_max_mv_length_vertical) c.in_ok-ue-5.ensures
  done_filled (λ e at. rows.known.reach _ e refl at)
