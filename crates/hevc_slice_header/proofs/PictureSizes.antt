-- How many blocks a picture has, and how many parts that are decoded side by side.
use Rattle.std.proofs.Common.{ℕ, ◌+◌, ◌*◌, ◌≤◌, ◌<◌, ◌^◌, Bool, true, false, arith}
use Rattle.std.specs.Int.{div_ceil}
use Rattle.std.specs.Prelude.{if◌then◌else◌}
use Rattle.std.proofs.lemmas.Nat.{pow_pos}
use Rattle.std.proofs.lemmas.Grind.{div_ceil_times}
use Rattle.std.proofs.Math.Nat.{div-le_self, mul-le-mul}
use Rattle.hevc_tables.specs.SliceHeaderTable.{most_entry_points}
use Rattle.hevc_sequence_set.specs.declared.sps.Sps.{Sps}
use Rattle.hevc_sequence_set.specs.Sps.{plain_sps}
use Rattle.hevc_picture_slice.specs.declared.pps.Pps.{Pps}
use Rattle.hevc_picture_slice.specs.Pps.{plain_pps}

-- where nothing is left over there is a whole block
some_block : (n size : ℕ) → 1 ≤ n → 0 < size → 1 ≤ div_ceil n size
some_block n size le lt = grind (arith, le, lt, div_ceil_times n size lt)

few_blocks : (n size : ℕ) → 1 ≤ n → 0 < size → div_ceil n size ≤ n
few_blocks n size le lt = grind (arith, le, lt, div_ceil_times n size lt, div-le_self n size)

module _ (s : Sps) where
  some_size : 0 < s.ctb_size_y
  some_size = rw s.coding_tree_block (pow_pos s.ctb_log2_size_y)

  pub width_range : (1 ≤ s.pic_width_in_ctbs_y) × (s.pic_width_in_ctbs_y ≤ 16888)
  width_range = let w =
      s.width_range in
      rw s.width_in_ctbs (
        some_block s.pic_width_in_luma_samples s.ctb_size_y w.0 some_size,
        grind (arith, w.1, few_blocks s.pic_width_in_luma_samples s.ctb_size_y w.0 some_size),
      )

  pub height_range : (1 ≤ s.pic_height_in_ctbs_y) × (s.pic_height_in_ctbs_y ≤ 16888)
  height_range = let h =
      s.height_range in
      rw s.height_in_ctbs (
        some_block s.pic_height_in_luma_samples s.ctb_size_y h.0 some_size,
        grind (arith, h.1, few_blocks s.pic_height_in_luma_samples s.ctb_size_y h.0 some_size),
      )

  pub size_range : (1 ≤ s.pic_size_in_ctbs_y) × (s.pic_size_in_ctbs_y ≤ 2 ^ 31)
  size_range =
      let least : 1 * 1 ≤ s.pic_width_in_ctbs_y * s.pic_height_in_ctbs_y = mul-le-mul width_range.0 height_range.0 in
      let most : s.pic_width_in_ctbs_y * s.pic_height_in_ctbs_y ≤ 16888 * 16888 =
      mul-le-mul width_range.1 height_range.1 in
      rw s.size_in_ctbs (grind (arith, least), grind (arith, most))

one_of : (b : Bool) (x y most : ℕ) → x ≤ most → y ≤ most → (if b then x else y) ≤ most
one_of true x y most p q = p
one_of false x y most p q = q

-- not more than tile columns, at most 20, and rows of blocks
pub few_parts : (s : Sps) (p : Pps) → most_entry_points (plain_sps s) (plain_pps p) < 2 ^ 20
few_parts s p =
    let columns : (if p.tiles_enabled_flag then p.num_tile_columns_minus1 + 1 else 1) ≤ 20 =
    one_of p.tiles_enabled_flag (p.num_tile_columns_minus1 + 1) 1 20 (grind (arith, p.tile_columns)) (grind arith) in
    let rows : (if
    p.entropy_coding_sync_enabled_flag then s.pic_height_in_ctbs_y else p.num_tile_rows_minus1 + 1)
    ≤ 16888 = one_of p.entropy_coding_sync_enabled_flag s.pic_height_in_ctbs_y
    (p.num_tile_rows_minus1 + 1) 16888 (height_range s).1 (grind (arith, p.tile_rows)) in
    let all = mul-le-mul columns rows in
    grind (arith, all)

pub ruleset picture_sizes = (height_range)
