use Rattle.std.proofs.Common.{refl}
use Rattle.std.specs.Prelude.{not}
use Rattle.hevc_tables.specs.PpsTable.{tiles, tile_counts, told_tiles, with_even_tiles}
use Rattle.hevc_write_pps.specs.PpsParts as own
use Rattle.hevc_write_pps.proofs.PpsKeeps.{tile_counts_keeps, told_tiles_keeps}
use Rattle.hevc_write_elements.proofs.Steps.{by, done_filled, then_filled, flag_then, part_then, either_done_written}
use Rattle.hevc_write_elements.proofs.Chains.{is_present}
use Rattle.hevc_write_pps.proofs.tiles.write_tiles_if.Goals as goal

pub returns : goal.returns
unfolding tiles with_even_tiles
returns c = λ sps. is_present c.if-not-present.false (record {
  written = λ y w.
      part_then (tile_counts _) own.tile_counts_of (tile_counts_keeps _) _
      (c.in_ok-write_tile_counts.ensures _) refl (λ v1 b1 tile_counts_rows.
      then_filled (either_done_written (told_tiles _) own.told_tiles_of (told_tiles_keeps _) _ _ _ refl
      (c.in_ok-write_told_tiles_if.ensures _) refl (λ v2 b2 told_tiles_rows.
      flag_then _ refl c.in_ok-flag.ensures (λ v3 b3 loop_filter_across_tiles_enabled_flag_row.
      done_filled (λ e at.
      loop_filter_across_tiles_enabled_flag_row (by e (λ r. r.loop_filter_across_tiles_enabled_flag))
      (told_tiles_rows (by e (λ r. not r.uniform_spacing_flag)) _ e refl (tile_counts_rows _ e refl at)))))));
})
