use Rattle.std.proofs.Common.{refl}
use Rattle.hevc_tables.specs.SliceHeaderTable.{beginning}
use Rattle.hevc_write_elements.proofs.Chains.{done_filled, always, flag_if_of, flag_of, ue_of, writes, ◌>>=◌}
use Rattle.hevc_write_slice_header.proofs.segment.write_beginning.Goals as goal

pub returns : goal.returns
unfolding beginning
returns c = writes λ y w none. do
  rows ← flag_of _ refl none (λ r. r.first_slice_segment_in_pic_flag) c.in_ok-flag.ensures
  rows ← flag_if_of _ refl _ _ rows.known (always _)
      (λ r. r.no_output_of_prior_pics_flag) (rw c.is_irap.ensures at c.in_ok-flag_if.ensures)
  rows ← ue_of _ refl _ _ rows.known (λ r. r.pic_parameter_set_id) c.in_ok-ue_u8.ensures
  done_filled (λ e at. rows.known.reach _ e refl at)
