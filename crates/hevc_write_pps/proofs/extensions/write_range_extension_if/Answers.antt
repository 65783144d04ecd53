use Rattle.std.proofs.Common.{refl}
use Rattle.hevc_tables.specs.PpsTable.{range_extension}
use Rattle.hevc_tables.specs.PpsRangeExtensionTable.{pps_range_extension}
use Rattle.hevc_write_extensions.proofs.Extensions.{pps_range_fillable}
use Rattle.hevc_write_elements.proofs.Steps.{by, done_filled, flags, one_table_written, then_filled}
use Rattle.hevc_write_elements.proofs.Chains.{is_present}
use Rattle.hevc_write_pps.proofs.extensions.write_range_extension_if.Goals as goal

pub returns : goal.returns
unfolding range_extension
returns c = λ sps. is_present c.if-not-present.false (record {
  written = λ y w.
      then_filled (one_table_written (pps_range_extension _) (pps_range_fillable _) _ _ (flags _ _)
      (c.in_ok-write_pps_range_extension.ensures _) (λ v1 b1 range_extension_row.
      done_filled (λ e at.
      range_extension_row (by e (λ r. r.transform_skip_enabled_flag)) (by e (λ r. r.range_extension)) at)));
})
