use Rattle.std.proofs.Common.{ℕ, ◌+◌, ◌-◌, ◌^◌, false, refl}
use Rattle.hevc_spec.specs.Rows.{row, bits_row}
use Rattle.hevc_tables.specs.SpsTable.{long_term_picture}
use Rattle.hevc_sequence_set.specs.Sps.{plain_sps}
use Rattle.hevc_write_elements.proofs.Steps.{done_filled, then_filled, flag_then, one_table_written}
use Rattle.hevc_write_elements.proofs.Steps.{bits_fillable, bits_table, numbers}
use Rattle.hevc_write_elements.proofs.Loops.{one_less}
use Rattle.hevc_write_sps.proofs.pictures.write_long_term_picture.Goals as goal

pub returns : goal.returns
unfolding long_term_picture
returns c =
    let x = plain_sps c.args.x.now in
    let i = c.args.i in
    let first = c.in_ok-write_lsb.ensures in
    let second = c.in_ok-write_used.ensures in
    record {
      written = λ y w.
          then_filled (one_table_written (λ (k : ℕ). bits_row (row 5 39) (k + 4) 0 (2 ^ (k + 4) - 1))
          (λ k. bits_fillable (row 5 39) refl (k + 4) 0 (2 ^ (k + 4) - 1))
          y.log2_max_pic_order_cnt_lsb_minus4 x.log2_max_pic_order_cnt_lsb_minus4 (numbers _ _)
          (bits_table (row 5 39) refl (x.log2_max_pic_order_cnt_lsb_minus4 + 4) 0
          (2 ^ (x.log2_max_pic_order_cnt_lsb_minus4 + 4) - 1) (rw (← c.from-num_bits.ensures) first.1))
          (λ v1 b1 lsb_row.
          flag_then _ refl second.1 (λ v2 b2 used_row.
          done_filled (λ a.
          let lsb = one_less i y.lt_ref_pic_poc_lsb_sps x.lt_ref_pic_poc_lsb_sps v1 0 first.0 a.1 in
          let used = one_less i y.used_by_curr_pic_lt_sps_flag x.used_by_curr_pic_lt_sps_flag v2 false second.0 a.2 in
          ((a.0, lsb.0, used.0), λ at. used_row used.1 (lsb_row a.0 lsb.1 at))))));
    }
