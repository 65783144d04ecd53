use Rattle.std.proofs.Common.{refl}
use Rattle.hevc_tables.specs.VuiTable.{colours}
use Rattle.hevc_write_elements.proofs.Chains.{done_filled, bits_of, writes_if, ◌>>=◌}
use Rattle.hevc_write_set_parts.proofs.vui.write_colours_if.Goals as goal

pub returns : goal.returns
unfolding colours
returns c = writes_if c.if-not-present.false λ y w none. do
  rows ← bits_of _ refl _ _ _ none (λ r. r.colour_primaries) c.in_ok-bits.ensures
  rows ← bits_of _ refl _ _ _ rows.known (λ r. r.transfer_characteristics) c.in_ok-bits-2.ensures
  rows ← bits_of _ refl _ _ _ rows.known (λ r. r.matrix_coeffs) c.in_ok-bits-3.ensures
  done_filled (λ e at. rows.known.reach _ e refl at)
