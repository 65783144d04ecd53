use Rattle.std.proofs.Common.{Bool, ap, refl, sym, ◌∙◌}
use Rattle.hevc_tables.specs.SliceHeaderTable.{across_slices, has_filters}
use Rattle.std.specs.Prelude.{◌&&◌}
use Rattle.hevc_write_elements.proofs.Steps.{by, done_filled, flag_if_then}
use Rattle.hevc_write_slice_header.proofs.filters.write_across_slices.Goals as goal

pub returns : goal.returns
unfolding across_slices
returns c = record {
  written = λ y w.
      flag_if_then _ refl _ _ c.in_ok-flag_if.ensures (λ v1 b1 loop_filter_across_slices_enabled_flag_row.
      done_filled (λ e at.
      loop_filter_across_slices_enabled_flag_row
      ((ap (λ (b : Bool). c.args.pps.now.loop_filter_across_slices_enabled_flag && b)
      (by e (λ r. has_filters r))) ∙ sym c.goes_across.ensures)
      (by e (λ r. r.loop_filter_across_slices_enabled_flag)) at));
}
