use Rattle.std.proofs.Common.{arith, refl, ◌≤◌}
use Rattle.std.proofs.lemmas.Bool.Decides.{nat_tests}
use Rattle.hevc_tables.specs.SpsSccExtensionTable.{initializers, predictors}
use Rattle.hevc_write_extensions.specs.SpsSccExtensionParts as own
use Rattle.hevc_write_extensions.proofs.SpsSccExtensionKeeps.{predictors_keep}
use Rattle.hevc_write_elements.proofs.Steps.{by, counted_part_written, ue_then}
use Rattle.hevc_write_extensions.proofs.sps_scc_extension.write_initializers.Goals as goal

pub returns : goal.returns
unfolding initializers
returns c = record {
  written = λ y w.
      ue_then _ refl _ _ c.in_ok-ue_u8.ensures (λ v1 in1 b1 ue_u8_row.
      counted_part_written (predictors _) own.all_predictors_of
      (predictors_keep _) _ _ c.in_ok-write_predictors.ensures refl (λ v2 b2 all_predictors_rows e at.
      let is = by e (λ r. r.num_palette_predictor_initializer_minus1) in
      let size = by e (λ r. r.palette_max_size) in
      let delta = by e (λ r. r.delta_palette_max_predictor_size) in
      let few : v1 ≤ 127 = grind (arith, nat_tests, in1, size, delta, c.args.sps.now.scc_extension.predictors) in
      all_predictors_rows (omega (arith, is, few)) _ e refl (ue_u8_row is at)));
}
