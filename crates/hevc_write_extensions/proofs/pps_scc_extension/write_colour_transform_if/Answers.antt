use Rattle.std.proofs.Common.{arith, refl}
use Rattle.std.proofs.lemmas.Int.{ints}
use Rattle.hevc_tables.specs.PpsSccExtensionTable.{colour_transform}
use Rattle.hevc_write_elements.proofs.Chains.{done_filled, flag_of, se_of, writes_if, ◌>>=◌}
use Rattle.hevc_write_extensions.proofs.pps_scc_extension.write_colour_transform_if.Goals as goal

pub returns : goal.returns
unfolding colour_transform
returns c = writes_if c.if-not-present.false λ y w none. do
  rows ← flag_of _ refl none (λ r. r.slice_act_qp_offsets_present_flag) c.in_ok-flag.ensures
  rows ← se_of _ refl _ _ rows.known (λ r. r.act_y_qp_offset_plus5) (omega (arith, ints)) c.in_ok-se_i8.ensures
  rows ← se_of _ refl _ _ rows.known (λ r. r.act_cb_qp_offset_plus5) (omega (arith, ints)) c.in_ok-se_i8-2.ensures
  rows ← se_of _ refl _ _ rows.known (λ r. r.act_cr_qp_offset_plus3) (omega (arith, ints)) c.in_ok-se_i8-3.ensures
  done_filled (λ e at. rows.known.reach _ e refl at)
