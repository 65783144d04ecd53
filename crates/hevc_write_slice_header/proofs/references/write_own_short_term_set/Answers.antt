use Rattle.std.proofs.Common.{refl}
use Rattle.hevc_write_elements.proofs.Chains.{done_filled, table_of, writes, ◌>>=◌}
use Rattle.hevc_write_slice_header.proofs.references.write_own_short_term_set.Goals as goal

pub returns : goal.returns
returns c = writes λ y w none. do
  rows ← table_of none (λ r. r.short_term_ref_pic_set) (c.in_ok-write_own_set.ensures _)
  done_filled (λ e at. rows.known.reach _ e refl at)
