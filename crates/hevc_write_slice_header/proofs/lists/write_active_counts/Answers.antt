use Rattle.std.proofs.Common.{refl}
use Rattle.hevc_tables.specs.SliceHeaderTable.{active_counts, own_active_counts, with_default_active_counts}
use Rattle.hevc_write_slice_header.specs.HeaderParts as own
use Rattle.hevc_write_slice_header.proofs.HeaderKeeps.{own_active_counts_keeps}
use Rattle.hevc_write_elements.proofs.Steps.{by, flag_then, done_either_written}
use Rattle.hevc_write_slice_header.proofs.lists.write_active_counts.Goals as goal

pub returns : goal.returns
unfolding active_counts with_default_active_counts
returns c = record {
  written = λ y w.
      flag_then _ refl c.in_ok-flag.ensures (λ v1 b1 num_ref_idx_active_override_flag_row.
      done_either_written own_active_counts own.own_active_counts_of own_active_counts_keeps _ _ _ refl
      c.in_ok-write_own_active_counts_if.ensures refl (λ v2 b2 own_active_counts_rows e at.
      own_active_counts_rows (by e (λ r. r.num_ref_idx_active_override_flag)) _ e refl
      (num_ref_idx_active_override_flag_row (by e (λ r. r.num_ref_idx_active_override_flag)) at)));
}
