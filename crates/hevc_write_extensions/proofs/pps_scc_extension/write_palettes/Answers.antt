use Rattle.std.proofs.Common.{refl, sym, ◌∙◌}
use Rattle.hevc_tables.specs.PpsSccExtensionTable.{palettes, initializers}
use Rattle.hevc_write_extensions.specs.PpsSccExtensionParts as own
use Rattle.hevc_write_extensions.proofs.PpsSccExtensionKeeps.{initializers_keep, some_palettes}
use Rattle.hevc_write_elements.proofs.Steps.{by, ue_then, when_part_written}
use Rattle.hevc_write_extensions.proofs.pps_scc_extension.write_palettes.Goals as goal

pub returns : goal.returns
unfolding palettes
returns c = record {
  written = λ y w.
      ue_then _ refl _ _ c.in_ok-ue_u8.ensures (λ v1 in1 b1 ue_u8_row.
      when_part_written (initializers _) own.initializers_of
      (initializers_keep _) _ c.in_ok-write_initializers_if.ensures refl (λ v2 b2 initializers_rows e at.
      let is = by e (λ r. r.num_palette_predictor_initializers) in
      let some = some_palettes v1 _ _ in1 c.args.sps.now.scc_extension.predictors is ∙ sym c.are_some.ensures.value in
      initializers_rows some _ e refl (ue_u8_row is at)));
}
