use Rattle.std.proofs.Common.{refl}
use Rattle.hevc_tables.specs.SpsTable.{sample_format, scc_extension}
use Rattle.hevc_tables.specs.SpsSccExtensionTable.{sps_scc_extension}
use Rattle.hevc_write_extensions.proofs.Extensions.{sps_scc_fillable}
use Rattle.hevc_write_sps.proofs.SpsKeeps.{formats}
use Rattle.hevc_write_elements.proofs.Steps.{by, done_filled, one_table_written, then_filled}
use Rattle.hevc_write_elements.proofs.Chains.{is_present}
use Rattle.hevc_write_sps.proofs.extensions.write_scc_extension_if.Goals as goal

pub returns : goal.returns
unfolding scc_extension
returns c = is_present c.if-not-present.false (record {
  written = λ y w.
      then_filled (one_table_written sps_scc_extension sps_scc_fillable _ _
      (formats _ _) c.in_ok-write_sps_scc_extension.ensures (λ v1 b1 scc_extension_row.
      done_filled (λ e at.
      scc_extension_row (by e (λ r. sample_format r)) (by e (λ r. r.scc_extension)) at)));
})
