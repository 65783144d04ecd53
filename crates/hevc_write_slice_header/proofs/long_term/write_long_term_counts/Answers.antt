use Rattle.std.proofs.Common.{refl}
use Rattle.hevc_tables.specs.SliceHeaderTable.{long_term_counts}
use Rattle.hevc_write_elements.proofs.Chains.{done_filled, always, ue_if_of, ue_of, writes, ◌>>=◌}
use Rattle.hevc_write_slice_header.proofs.long_term.write_long_term_counts.Goals as goal

pub returns : goal.returns
unfolding long_term_counts
returns c = writes λ y w none. do
  rows ← ue_if_of _ refl _ _ _ _ none (always _) (λ r. r.num_long_term_sps) c.in_ok-ue_u8_if.ensures
  rows ← ue_of _ refl _ _ rows.known (λ r. r.num_long_term_pics) c.in_ok-ue_u8.ensures
  done_filled (λ e at. rows.known.reach _ e refl at)
