use Rattle.std.proofs.Common.{refl}
use Rattle.hevc_tables.specs.HrdTable.{decoding_units}
use Rattle.hevc_write_elements.proofs.Chains.{done_filled, bits_of, flag_of, writes_if, ◌>>=◌}
use Rattle.hevc_write_set_parts.proofs.hrd_common.write_units_if.Goals as goal

pub returns : goal.returns
unfolding decoding_units
returns c = writes_if c.if-not-present.false λ y w none. do
  rows ← bits_of _ refl _ _ _ none (λ r. r.tick_divisor_minus2) c.in_ok-bits_u8.ensures
  rows ← bits_of _ refl _ _ _ rows.known (λ r. r.du_cpb_removal_delay_increment_length_minus1) c.in_ok-bits_u8-2.ensures
  rows ← flag_of _ refl rows.known (λ r. r.sub_pic_cpb_params_in_pic_timing_sei_flag) c.in_ok-flag.ensures
  rows ← bits_of _ refl _ _ _ rows.known (λ r. r.dpb_output_delay_du_length_minus1) c.in_ok-bits_u8-3.ensures
  done_filled (λ e at. rows.known.reach _ e refl at)
