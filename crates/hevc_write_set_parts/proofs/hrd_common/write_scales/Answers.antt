use Rattle.std.proofs.Common.{refl}
use Rattle.hevc_tables.specs.HrdTable.{scales}
use Rattle.hevc_write_elements.proofs.Chains.{done_filled, bits_if_of, bits_of, writes, ◌>>=◌}
use Rattle.hevc_write_set_parts.proofs.hrd_common.write_scales.Goals as goal

pub returns : goal.returns
unfolding scales
returns c = writes λ y w none. do
  rows ← bits_of _ refl _ _ _ none (λ r. r.bit_rate_scale) c.in_ok-bits_u8.ensures
  rows ← bits_of _ refl _ _ _ rows.known (λ r. r.cpb_size_scale) c.in_ok-bits_u8-2.ensures
  rows ← bits_if_of _ refl _ _ _ _ _ rows.known (λ r. r.sub_pic_hrd_params_present_flag)
      (λ r. r.cpb_size_du_scale) c.in_ok-bits_u8_if.ensures
  rows ← bits_of _ refl _ _ _ rows.known (λ r. r.initial_cpb_removal_delay_length_minus1) c.in_ok-bits_u8-3.ensures
  rows ← bits_of _ refl _ _ _ rows.known (λ r. r.au_cpb_removal_delay_length_minus1) c.in_ok-bits_u8-4.ensures
  rows ← bits_of _ refl _ _ _ rows.known (λ r. r.dpb_output_delay_length_minus1) c.in_ok-bits_u8-5.ensures
  done_filled (λ e at. rows.known.reach _ e refl at)
