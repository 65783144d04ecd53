use Rattle.std.proofs.Common.{arith, refl}
use Rattle.std.proofs.lemmas.Int.{ints}
use Rattle.hevc_tables.specs.PpsTable.{quantiser}
use Rattle.hevc_write_elements.proofs.Chains.{done_filled, flag_of, se_of, ue_if_of, writes, ◌>>=◌}
use Rattle.hevc_write_pps.proofs.coding.write_quantiser.Goals as goal

pub returns : goal.returns
unfolding quantiser
returns c = λ sps. writes λ y w none. do
  rows ← se_of _ refl _ _ none (λ r. r.init_qp_minus26) (omega (arith, ints)) c.in_ok-se_i8.ensures
  rows ← flag_of _ refl rows.known (λ r. r.constrained_intra_pred_flag) c.in_ok-flag.ensures
  rows ← flag_of _ refl rows.known (λ r. r.transform_skip_enabled_flag) c.in_ok-flag-2.ensures
  rows ← flag_of _ refl rows.known (λ r. r.cu_qp_delta_enabled_flag) c.in_ok-flag-3.ensures
  rows ← ue_if_of _ refl _ _ _ _ rows.known (λ r. r.cu_qp_delta_enabled_flag)
      (λ r. r.diff_cu_qp_delta_depth) c.in_ok-ue_u8_if.ensures
  rows ← se_of _ refl _ _ rows.known (λ r. r.cb_qp_offset) (omega (arith, ints)) c.in_ok-se_i8-2.ensures
  rows ← se_of _ refl _ _ rows.known (λ r. r.cr_qp_offset) (omega (arith, ints)) c.in_ok-se_i8-3.ensures
  done_filled (λ e at. rows.known.reach _ e refl at)
