use Rattle.std.proofs.Common.{refl}
use Rattle.hevc_tables.specs.PpsTable.{told_sizes, told_tiles}
use Rattle.hevc_spec.specs.Rows.{row}
use Rattle.hevc_write_pps.proofs.PpsKeeps.{told_sizes_fillable}
use Rattle.hevc_write_elements.proofs.Steps.{by, done_filled, numbers, one_table_written, then_filled}
use Rattle.hevc_write_elements.proofs.Chains.{is_present}
use Rattle.hevc_write_pps.proofs.tiles.write_told_tiles_if.Goals as goal

pub returns : goal.returns
unfolding told_tiles
returns c = λ sps. is_present c.if-not-present.false (record {
  written = λ y w.
      then_filled (one_table_written (told_sizes (row 11 17) 20 sps.pic_width_in_ctbs_y)
      (told_sizes_fillable (row 11 17) refl 20 sps.pic_width_in_ctbs_y) _ _ (numbers _ _)
      (c.in_ok-write_told_sizes.ensures (row 11 17) refl 20 sps.pic_width_in_ctbs_y) (λ v1 b1 column_width_minus1_row.
      then_filled (one_table_written (told_sizes (row 11 18) 22 sps.pic_height_in_ctbs_y)
      (told_sizes_fillable (row 11 18) refl 22 sps.pic_height_in_ctbs_y) _ _ (numbers _ _)
      (c.in_ok-write_told_sizes-2.ensures (row 11 18) refl 22 sps.pic_height_in_ctbs_y) (λ v2 b2 row_height_minus1_row.
      done_filled (λ e at.
      row_height_minus1_row (by e (λ r. r.num_tile_rows_minus1)) (by e (λ r. r.row_height_minus1))
      (column_width_minus1_row (by e (λ r. r.num_tile_columns_minus1)) (by e (λ r. r.column_width_minus1)) at))))));
})
