use Rattle.std.proofs.Common.{refl}
use Rattle.hevc_tables.specs.SliceHeaderTable.{candidate_short_term_set}
use Rattle.hevc_write_elements.proofs.Chains.{done_filled, always, bits_if_of, writes, ◌>>=◌}
use Rattle.hevc_write_slice_header.proofs.references.write_candidate_short_term_set.Goals as goal

pub returns : goal.returns
unfolding candidate_short_term_set
returns c = writes λ y w none. do
  rows ← bits_if_of _ refl _ _ _ _ _ none (always _) (λ r. r.short_term_ref_pic_set_idx) c.in_ok-index_if.ensures
  done_filled (λ e at. rows.known.reach _ e refl at)
