use Rattle.std.proofs.Common.{refl}
use Rattle.hevc_tables.specs.PpsTable.{ids}
use Rattle.hevc_write_elements.proofs.Chains.{done_filled, ue_of, writes, ◌>>=◌}
use Rattle.hevc_write_pps.proofs.picture_set.write_ids.Goals as goal

pub returns : goal.returns
unfolding ids
returns c = writes λ y w none. do
  rows ← ue_of _ refl _ _ none (λ r. r.pic_parameter_set_id) c.in_ok-ue_u8.ensures
  rows ← ue_of _ refl _ _ rows.known (λ r. r.seq_parameter_set_id) c.in_ok-ue_u8-2.ensures
  done_filled (λ e at. rows.known.reach _ e refl at)
