-- The sets that a slice makes active, of those that are kept (7.4.2.4.2).
use Rattle.std.specs.Prelude.{◌≡◌, ℕ, Option, Some}
use Rattle.hevc_tables.specs.SliceHeaderTable as table
use Rattle.hevc_tables.specs.SliceHeaderTable.{active_sets}
use Rattle.hevc_sequence_set.specs.Sps.{plain_sps}
use Rattle.hevc_picture_slice.specs.Pps.{plain_pps}
use Rattle.hevc_slice_header.specs.declared.active_sets.ActiveSets.{ActiveSets}
use Rattle.hevc_stream.specs.Kept.{Kept}

-- the sets that the id of a picture set makes active
abbrev pub active_of : Kept → ℕ → Option table.ActiveSets
active_of kept = active_sets kept.sequence_sets kept.picture_sets

-- These are the sets that the id makes active, each under its own id.
pub record AreActive (kept : Kept) (id : ℕ) (sets : ActiveSets) : Type 0 where
  pub active : active_of kept id
      ≡ Some (record { sps = plain_sps sets.sps.now; pps = plain_pps sets.pps.now })
  pub picture : sets.pps.now.pic_parameter_set_id ≡ id
  pub sequence : sets.sps.now.seq_parameter_set_id ≡ sets.pps.now.seq_parameter_set_id
