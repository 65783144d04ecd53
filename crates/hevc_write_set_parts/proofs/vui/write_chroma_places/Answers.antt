use Rattle.std.proofs.Common.{refl}
use Rattle.hevc_tables.specs.VuiTable.{chroma_places}
use Rattle.hevc_write_elements.proofs.Chains.{done_filled, flag_of, ue_if_of, writes, ◌>>=◌}
use Rattle.hevc_write_set_parts.proofs.vui.write_chroma_places.Goals as goal

pub returns : goal.returns
unfolding chroma_places
returns c = writes λ y w none. do
  rows ← flag_of _ refl none (λ r. r.chroma_loc_info_present_flag) c.in_ok-flag.ensures
  rows ← ue_if_of _ refl _ _ _ _ rows.known (λ r. r.chroma_loc_info_present_flag)
      (λ r. r.chroma_sample_loc_type_top_field) c.in_ok-ue_if.ensures
  rows ← ue_if_of _ refl _ _ _ _ rows.known (λ r. r.chroma_loc_info_present_flag)
      (λ r. r.chroma_sample_loc_type_bottom_field) c.in_ok-ue_if-2.ensures
  done_filled (λ e at. rows.known.reach _ e refl at)
