use Rattle.std.proofs.Common.{refl}
use Rattle.hevc_tables.specs.SliceHeaderTable.{long_term, long_term_counts, long_term_pictures}
use Rattle.hevc_write_slice_header.specs.HeaderParts as own
use Rattle.hevc_write_slice_header.proofs.HeaderKeeps.{long_term_counts_keeps, long_term_pictures_keeps}
use Rattle.hevc_write_elements.proofs.Chains.{ending, part_of, writes_if, ◌>>=◌}
use Rattle.hevc_write_slice_header.proofs.long_term.write_long_term_if.Goals as goal

pub returns : goal.returns
unfolding long_term
returns c = writes_if c.if-not-present.false λ y w none. do
  rows ← part_of (long_term_counts _) own.long_term_counts_of
      (long_term_counts_keeps _) _ none c.in_ok-write_long_term_counts.ensures refl
  ending (part_of (long_term_pictures _) own.long_term_pictures_of
      (long_term_pictures_keeps _) _ rows.known c.in_ok-write_long_term_pictures.ensures refl)
      (λ _ _ rows e at. rows.reach _ e refl at)
