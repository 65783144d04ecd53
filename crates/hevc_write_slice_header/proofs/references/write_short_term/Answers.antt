use Rattle.std.proofs.Common.{refl}
use Rattle.std.specs.Prelude.{◌==◌}
use Rattle.hevc_sequence_set.specs.Sps.{plain_sps}
use Rattle.hevc_tables.specs.SliceHeaderTable.{candidate_short_term_set, short_term_flag}
use Rattle.hevc_write_slice_header.specs.HeaderParts as own
use Rattle.hevc_write_slice_header.proofs.HeaderKeeps.{candidate_short_term_set_keeps, own_short_term_set_keeps}
use Rattle.hevc_spec.specs.Rows.{row}
use Rattle.hevc_write_slice_header.proofs.HeaderKeeps.{some_flag_written}
use Rattle.hevc_write_elements.proofs.Steps.{bits_then, by, either_part_written, then_filled}
use Rattle.hevc_write_slice_header.proofs.references.write_short_term.Goals as goal

pub returns : goal.returns
unfolding short_term_flag
returns c = record {
  written = λ y w.
      bits_then _ refl _ _ _ c.in_ok-order_count.ensures (λ v1 _ b1 pic_order_cnt_lsb_row.
      then_filled (some_flag_written (row 14 11) refl
      ((plain_sps c.args.sps.now).num_short_term_ref_pic_sets == 0) c.in_ok-flag.ensures
      (λ v2 b2 short_term_ref_pic_set_sps_flag_row.
      either_part_written (candidate_short_term_set (plain_sps c.args.sps.now))
      (own.own_set_rows (plain_sps c.args.sps.now)) own.short_term_sets_of
      (candidate_short_term_set_keeps (plain_sps c.args.sps.now))
      (own_short_term_set_keeps (plain_sps c.args.sps.now)) _ _ c.in_ok-write_current_set.ensures refl
      (λ v3 b3 short_term_sets_rows e at.
      short_term_sets_rows (by e (λ r. r.short_term_ref_pic_set_sps_flag)) _ e refl
      (short_term_ref_pic_set_sps_flag_row (by e (λ r. r.short_term_ref_pic_set_sps_flag))
      (pic_order_cnt_lsb_row (by e (λ r. r.pic_order_cnt_lsb)) at))))));
}
