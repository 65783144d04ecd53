use Rattle.std.proofs.Common.{refl}
use Rattle.hevc_tables.specs.SliceHeaderTable.{long_term}
use Rattle.hevc_write_slice_header.specs.HeaderParts as own
use Rattle.hevc_write_slice_header.proofs.HeaderKeeps.{long_term_keeps, short_term_keeps}
use Rattle.hevc_write_elements.proofs.Chains.{done_filled, always, flag_if_of, part_if_of, part_of, writes_if, ◌>>=◌}
use Rattle.hevc_write_slice_header.proofs.references.write_reference_pictures_if.Goals as goal

pub returns : goal.returns
returns c = writes_if c.if-not-present.false λ y w none. do
  rows ← part_of (own.short_term_rows _) own.short_term_of
      (short_term_keeps _) y none c.in_ok-write_short_term.ensures refl
  rows ← part_if_of (long_term _) own.long_term_of (long_term_keeps _) _ rows.known
      (always _) c.in_ok-write_long_term_if.ensures refl
  rows ← flag_if_of _ refl _ _ rows.known (always _) (λ r. r.temporal_mvp_enabled_flag) c.in_ok-flag_if.ensures
  done_filled (λ e at. rows.known.reach _ e refl at)
