use Rattle.std.proofs.Common.{arith, refl}
use Rattle.std.proofs.lemmas.Int.{ints}
use Rattle.hevc_tables.specs.SliceHeaderTable.{filter_offsets}
use Rattle.hevc_write_elements.proofs.Chains.{done_filled, se_of, writes_if, ◌>>=◌}
use Rattle.hevc_write_slice_header.proofs.filters.write_filter_offsets_if.Goals as goal

pub returns : goal.returns
unfolding filter_offsets
returns c = writes_if c.if-not-present.false λ y w none. do
  rows ← se_of _ refl _ _ none (λ r. r.beta_offset_div2) (omega (arith, ints)) c.in_ok-se_i8.ensures
  rows ← se_of _ refl _ _ rows.known (λ r. r.tc_offset_div2) (omega (arith, ints)) c.in_ok-se_i8-2.ensures
  done_filled (λ e at. rows.known.reach _ e refl at)
