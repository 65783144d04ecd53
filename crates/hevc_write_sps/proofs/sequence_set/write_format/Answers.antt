use Rattle.std.proofs.Common.{refl}
use Rattle.hevc_tables.specs.SpsTable.{blocks, depths, format, identity, orderings}
use Rattle.hevc_write_sps.specs.SpsParts as own
use Rattle.hevc_write_sps.proofs.SpsKeeps.{blocks_keeps, depths_keeps, framing_keeps, identity_keeps, orderings_keeps}
use Rattle.hevc_write_elements.proofs.Steps.{joined_filled, part_then, part_written}
use Rattle.hevc_write_sps.proofs.sequence_set.write_format.Goals as goal

pub returns : goal.returns
unfolding format
returns c = record {
  written = λ y w.
      part_then identity own.identity_of identity_keeps _ c.in_ok-write_identity.ensures refl (λ v1 b1 identity_rows.
      joined_filled
      (part_then own.framing_rows own.framing_of framing_keeps _ c.in_ok-write_framing.ensures refl
      (λ v2 b2 framing_rows.
      part_then depths own.depths_of depths_keeps _ c.in_ok-write_depths.ensures refl (λ v3 b3 depths_rows.
      part_then orderings own.orderings_of orderings_keeps _ c.in_ok-write_orderings.ensures refl
      (λ v4 b4 orderings_rows.
      part_written blocks own.blocks_of blocks_keeps _ c.in_ok-write_blocks.ensures refl (λ v5 b5 blocks_rows e at.
      blocks_rows _ e refl
      (orderings_rows _ e refl (depths_rows _ e refl (framing_rows _ e refl (identity_rows _ e refl at))))))))));
}
