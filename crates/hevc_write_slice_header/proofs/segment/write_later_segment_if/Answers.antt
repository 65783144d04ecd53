use Rattle.std.proofs.Common.{refl}
use Rattle.hevc_tables.specs.SliceHeaderTable.{later_segment}
use Rattle.hevc_write_elements.proofs.Chains.{done_filled, always, bits_of, flag_if_of, writes_if, ◌>>=◌}
use Rattle.hevc_write_slice_header.proofs.segment.write_later_segment_if.Goals as goal

pub returns : goal.returns
unfolding later_segment
returns c = writes_if c.if-not-present.false λ y w none. do
  rows ← flag_if_of _ refl _ _ none (always _) (λ r. r.dependent_slice_segment_flag) c.in_ok-flag_if.ensures
  rows ← bits_of _ refl _ _ _ rows.known (λ r. r.segment_address) c.in_ok-index.ensures
  done_filled (λ e at. rows.known.reach _ e refl at)
