use Rattle.std.proofs.Common.{refl}
use Rattle.hevc_tables.specs.SpsTable.{depths, with_half_ranges}
use Rattle.hevc_write_elements.proofs.Chains.{done_filled, ue_of, writes, ◌>>=◌}
use Rattle.hevc_write_sps.proofs.format.write_depths.Goals as goal

pub returns : goal.returns
unfolding depths with_half_ranges
returns c = writes λ y w none. do
  rows ← ue_of _ refl _ _ none (λ r. r.bit_depth_luma_minus8) c.in_ok-ue_u8.ensures
  rows ← ue_of _ refl _ _ rows.known (λ r. r.bit_depth_chroma_minus8) c.in_ok-ue_u8-2.ensures
  rows ← ue_of _ refl _ _ rows.known (λ r. r.log2_max_pic_order_cnt_lsb_minus4) c.in_ok-ue_u8-3.ensures
  done_filled (λ e at. rows.known.reach _ e refl at)
