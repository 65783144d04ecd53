use Rattle.std.proofs.Common.{refl}
use Rattle.hevc_tables.specs.SpsTable.{blocks, with_block_sizes, with_picture_size}
use Rattle.hevc_write_elements.proofs.Steps.{by, check_then, done_filled, ue_then}
use Rattle.hevc_write_sps.proofs.format.write_blocks.Goals as goal

pub returns : goal.returns
unfolding blocks with_block_sizes with_picture_size
returns c = record {
  written = λ y w.
      ue_then _ refl _ _ c.in_ok-ue_u8.ensures (λ v1 _ b1 log2_min_luma_coding_block_size_minus3_row.
      ue_then _ refl _ _ c.in_ok-ue_u8-2.ensures (λ v2 _ b2 log2_diff_max_min_luma_coding_block_size_row.
      ue_then _ refl _ _ c.in_ok-ue_u8-3.ensures (λ v3 _ b3 log2_min_luma_transform_block_size_minus2_row.
      ue_then _ refl _ _ c.in_ok-ue_u8-4.ensures (λ v4 _ b4 log2_diff_max_min_luma_transform_block_size_row.
      check_then _ _ (λ held5.
      done_filled (λ e at.
      (log2_diff_max_min_luma_transform_block_size_row
      (by e (λ r. r.log2_diff_max_min_luma_transform_block_size))
      (log2_min_luma_transform_block_size_minus2_row
      (by e (λ r. r.log2_min_luma_transform_block_size_minus2))
      (log2_diff_max_min_luma_coding_block_size_row (by e (λ r. r.log2_diff_max_min_luma_coding_block_size))
      (log2_min_luma_coding_block_size_minus3_row (by e (λ r. r.log2_min_luma_coding_block_size_minus3)) at))))))))));
}
