use Rattle.std.proofs.Common.{refl}
use Rattle.hevc_tables.specs.SpsTable.{pulse_code_modulation}
use Rattle.hevc_write_elements.proofs.Chains.{done_filled, bits_of, flag_of, ue_of, writes_if, ◌>>=◌}
use Rattle.hevc_write_sps.proofs.coding.write_pulse_code_modulation_if.Goals as goal

pub returns : goal.returns
unfolding pulse_code_modulation
returns c = writes_if c.if-not-present.false λ y w none. do
  rows ← bits_of _ refl _ _ _ none (λ r. r.pcm_sample_bit_depth_luma_minus1) c.in_ok-bits_u8.ensures
  rows ← bits_of _ refl _ _ _ rows.known (λ r. r.pcm_sample_bit_depth_chroma_minus1) c.in_ok-bits_u8-2.ensures
  rows ← ue_of _ refl _ _ rows.known (λ r. r.log2_min_pcm_luma_coding_block_size_minus3) c.in_ok-ue_u8.ensures
  rows ← ue_of _ refl _ _ rows.known (λ r. r.log2_diff_max_min_pcm_luma_coding_block_size) c.in_ok-ue_u8-2.ensures
  rows ← flag_of _ refl rows.known (λ r. r.pcm_loop_filter_disabled_flag) c.in_ok-flag.ensures
  done_filled (λ e at. rows.known.reach _ e refl at)
