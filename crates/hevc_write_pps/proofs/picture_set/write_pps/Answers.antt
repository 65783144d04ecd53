use Rattle.std.proofs.Common.{refl}
use Rattle.hevc_tables.specs.PpsTable.{picture_parameter_set, picture_set_of, ids}
use Rattle.hevc_write_elements.proofs.Steps.{by, part_then}
use Rattle.hevc_write_pps.specs.PpsParts as own
use Rattle.hevc_write_pps.proofs.PpsKeeps.{ids_keeps, picture_set_of_keeps}
use Rattle.hevc_write_pps.proofs.Named.{named_then, named_part_written}
use Rattle.hevc_write_pps.proofs.picture_set.write_pps.Goals as goal

pub returns : goal.returns
unfolding picture_parameter_set
returns c = λ temporal_id kept is. record {
  written = λ w.
      part_then ids own.ids_of ids_keeps _ c.in_ok-write_ids.ensures refl (λ v1 b1 ids_rows.
      named_then _ _ (kept v1.seq_parameter_set_id) (λ s e1.
      named_part_written picture_set_of own.body_of picture_set_of_keeps _ kept _ _ _ _ e1 is
      c.in_ok-write_picture_set_of.ensures refl (λ v2 b2 body_rows e at.
      body_rows (by e (λ r. r.seq_parameter_set_id)) _ e refl (ids_rows _ e refl at))));
}
