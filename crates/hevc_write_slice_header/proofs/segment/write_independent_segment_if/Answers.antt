use Rattle.std.proofs.Common.{ap, refl, sym, ◌∙◌}
use Rattle.hevc_tables.specs.SliceHeaderTable.{adaptive_offset, filters, kind, prediction, quantisers}
use Rattle.hevc_write_slice_header.specs.HeaderParts as own
use Rattle.hevc_write_slice_header.proofs.HeaderKeeps.{adaptive_offset_keeps, filters_keeps}
use Rattle.hevc_write_slice_header.proofs.HeaderKeeps.{kind_keeps, prediction_keeps}
use Rattle.hevc_write_slice_header.proofs.HeaderKeeps.{quantisers_keeps, reference_pictures_keeps}
use Rattle.std.specs.Prelude.{not}
use Rattle.hevc_tables.specs.SliceTypes.{is_i}
use Rattle.hevc_write_elements.proofs.Steps.{by, part_if_then, part_then, part_written}
use Rattle.hevc_write_elements.proofs.Chains.{is_present}
use Rattle.hevc_write_slice_header.proofs.segment.write_independent_segment_if.Goals as goal

pub returns : goal.returns
returns c = is_present c.if-not-present.false (record {
  written = λ y w.
      part_then (kind _ _) own.kind_of (kind_keeps _ _) _ c.in_ok-write_kind.ensures refl (λ v1 b1 kind_rows.
      part_if_then (own.reference_picture_rows _) own.reference_pictures_of
      (reference_pictures_keeps _) _ c.in_ok-write_reference_pictures_if.ensures refl (λ v2 b2 reference_pictures_rows.
      part_then (adaptive_offset _) own.adaptive_offset_of
      (adaptive_offset_keeps _) _ c.in_ok-write_adaptive_offset.ensures refl (λ v3 b3 adaptive_offset_rows.
      part_if_then (prediction _ _) own.prediction_of
      (prediction_keeps _ _) _ c.in_ok-write_prediction_if.ensures refl (λ v4 b4 prediction_rows.
      part_then (quantisers _) own.quantisers_of (quantisers_keeps _) _ c.in_ok-write_quantisers.ensures
      refl (λ v5 b5 quantisers_rows.
      part_written (filters _) own.filters_of (filters_keeps _) _ c.in_ok-write_filters.ensures refl
      (λ v6 b6 filters_rows e at.
      filters_rows _ e refl
      (quantisers_rows _ e refl
      (prediction_rows (ap not (by e (λ r. is_i r.type_) ∙ sym c.is_i.ensures)) _ e refl
      (adaptive_offset_rows _ e refl
      (reference_pictures_rows (ap not (sym c.is_idr.ensures)) _ e refl (kind_rows _ e refl at)))))))))));
})
