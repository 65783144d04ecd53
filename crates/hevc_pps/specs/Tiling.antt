-- How tiles share out the blocks of a picture (6.5.1).
use Rattle.std.specs.Prelude.{◌≡◌, ℕ, ◌+◌, ◌≤◌, ◌<◌, List, take, IsTrue, Some}
use Rattle.std.specs.List.{sum_by}
use Rattle.std.specs.BTreeMap.{BTreeMap}
use Rattle.hevc_records.specs.Pps.{PlainPps}
use Rattle.hevc_records.specs.SetsById.{sets_by_id}
use Rattle.hevc_records.specs.Sps.{PlainSps}
use Rattle.hevc_tables.specs.PpsTable.{Parts}
use Rattle.hevc_sequence_set.specs.declared.sps.Sps.{Sps}
use Rattle.hevc_sequence_set.specs.Sps.{plain_sps}
use Rattle.hevc_picture_slice.specs.declared.pps.Pps.{Pps}

-- the blocks of so many parts, whose sizes are less 1
abbrev pub blocks_of : ℕ → List ℕ → ℕ
blocks_of count sizes = sum_by (λ size. size + 1) (take count sizes)

-- some parts of a length and the blocks that they leave, at least one, are all of it
pub record AreParts (length count : ℕ) (parts : Parts) : Type 0 where
  pub all : blocks_of count parts.sizes + parts.left ≡ length
  pub some : 1 ≤ parts.left

-- there are not more columns and rows than blocks
pub record HaveBlocks (sps : PlainSps) (pps : PlainPps) : Type 0 where
  pub columns : pps.num_tile_columns_minus1 < sps.pic_width_in_ctbs_y
  pub rows : pps.num_tile_rows_minus1 < sps.pic_height_in_ctbs_y

-- The columns together are as wide as the picture, and the rows as high.
pub record AddUp (sps : PlainSps) (pps : PlainPps) : Type 0 where
  pub columns :
      blocks_of (pps.num_tile_columns_minus1 + 1) pps.column_width_minus1 ≡ sps.pic_width_in_ctbs_y
  pub rows :
      blocks_of (pps.num_tile_rows_minus1 + 1) pps.row_height_minus1 ≡ sps.pic_height_in_ctbs_y

-- With tiles, they take all blocks of a picture.
abbrev pub TilesCover : PlainSps → PlainPps → Type 0
TilesCover sps pps = IsTrue pps.tiles_enabled_flag → AddUp sps pps

-- So they do of the pictures of the sequence set that the set names.
abbrev pub CoverKept : BTreeMap ℕ Sps → PlainPps → Type 0
CoverKept sets pps =
    (sps : PlainSps)
    → sets_by_id plain_sps sets pps.seq_parameter_set_id ≡ Some sps
    → TilesCover sps pps

-- The sequence set that a set names and its tiles stay.
pub record KeepsTiles (old new : Pps) : Type 0 where
  pub names : new.seq_parameter_set_id ≡ old.seq_parameter_set_id
  pub enabled : new.tiles_enabled_flag ≡ old.tiles_enabled_flag
  pub columns : new.num_tile_columns_minus1 ≡ old.num_tile_columns_minus1
  pub rows : new.num_tile_rows_minus1 ≡ old.num_tile_rows_minus1
  pub widths : new.column_width_minus1 ≡ old.column_width_minus1
  pub heights : new.row_height_minus1 ≡ old.row_height_minus1
