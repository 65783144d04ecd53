-- The sets that a slice makes active, among those that are kept by their ids (7.4.2.4.2).
use Rattle.std.specs.Prelude.{◌≡◌, ℕ, Some}
use Rattle.std.specs.BTreeMap.{BTreeMap, get}
use Rattle.std.specs.Ordering.{nat_cmp}
use Rattle.hevc_sequence_set.specs.declared.sps.Sps.{Sps}
use Rattle.hevc_picture_slice.specs.declared.pps.Pps.{Pps}
use Rattle.hevc_slice_header.specs.declared.active_sets.ActiveSets.{ActiveSets}

-- The picture set is under this id, and the sequence set under that which it names.
pub record AreFound (picture_sets : BTreeMap ℕ Pps) (sequence_sets : BTreeMap ℕ Sps) (id : ℕ)
    (sets : ActiveSets) : Type 0 where
  pub picture : get nat_cmp picture_sets id ≡ Some sets.pps.now
  pub sequence : get nat_cmp sequence_sets sets.pps.now.seq_parameter_set_id ≡ Some sets.sps.now
