use Rattle.std.proofs.Common.{refl}
use Rattle.std.specs.Prelude.{not}
use Rattle.hevc_tables.specs.SliceHeaderTable.{ending, later_segment}
use Rattle.hevc_bits.specs.NaluType.{nalu_type_number}
use Rattle.hevc_sequence_set.specs.Sps.{plain_sps}
use Rattle.hevc_picture_slice.specs.Pps.{plain_pps}
use Rattle.hevc_write_slice_header.specs.HeaderParts as own
use Rattle.hevc_write_slice_header.proofs.HeaderKeeps.{ending_keeps, independent_segment_keeps, later_segment_keeps}
use Rattle.hevc_write_elements.proofs.Steps.{by, part_if_then, part_written}
use Rattle.hevc_write_slice_header.proofs.slice_header.write_header_rows.Goals as goal

pub returns : goal.returns
returns c = record {
  written = λ y w.
      let n = nalu_type_number c.args.nalu_type in
      let sps = plain_sps c.args.sps.now in
      let pps = plain_pps c.args.pps.now in
      part_if_then (later_segment sps pps) own.later_segment_of
      (later_segment_keeps sps pps) _ c.in_ok-write_later_segment_if.ensures refl (λ v1 b1 later_segment_rows.
      part_if_then (own.independent_rows n sps pps) own.independent_segment_of
      (independent_segment_keeps n sps pps) _ c.in_ok-write_independent_segment_if.ensures refl
      (λ v2 b2 independent_segment_rows.
      part_written (ending sps pps) own.ending_of (ending_keeps sps pps) _ c.in_ok-write_ending.ensures refl
      (λ v3 b3 ending_rows e at.
      ending_rows _ e refl
      (independent_segment_rows (by e (λ r. not r.dependent_slice_segment_flag)) _ e refl
      (later_segment_rows (by e (λ r. not r.first_slice_segment_in_pic_flag)) _ e refl at)))));
}
