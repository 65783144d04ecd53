use Rattle.std.proofs.Common.{refl}
use Rattle.hevc_tables.specs.SliceHeaderTable.{kind}
use Rattle.hevc_spec.specs.Rows.{row}
use Rattle.hevc_write_elements.proofs.Chains.{done_filled, always, bits_if_of, flag_if_of, ue_of}
use Rattle.hevc_write_elements.proofs.Chains.{writes, zeros_of, ◌>>=◌}
use Rattle.hevc_write_slice_header.proofs.segment.write_kind.Goals as goal

pub returns : goal.returns
unfolding kind
returns c = writes λ y w none. do
  rows ← zeros_of (row 14 6) _ refl none c.in_ok-zeros_u8.ensures
  rows ← ue_of _ refl _ _ rows.known (λ r. r.type_) c.in_ok-slice_type.ensures
  rows ← flag_if_of _ refl _ _ rows.known (always _) (λ r. r.pic_output_flag) c.in_ok-flag_if.ensures
  rows ← bits_if_of _ refl _ _ _ _ _ rows.known (always _) (λ r. r.colour_plane_id) c.in_ok-bits_u8_if.ensures
  done_filled (λ e at. rows.known.reach _ e refl at)
