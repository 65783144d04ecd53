-- The sets that a header makes active, of those that are kept by their ids.
use Rattle.std.specs.Prelude.{ℕ, Option}
use Rattle.std.specs.BTreeMap.{BTreeMap}
use Rattle.hevc_records.specs.SetsById.{sets_by_id}
use Rattle.hevc_tables.specs.SliceHeaderTable.{ActiveSets, active_sets}
use Rattle.hevc_sequence_set.specs.declared.sps.Sps.{Sps}
use Rattle.hevc_sequence_set.specs.Sps.{plain_sps}
use Rattle.hevc_picture_slice.specs.declared.pps.Pps.{Pps}
use Rattle.hevc_picture_slice.specs.Pps.{plain_pps}

abbrev pub kept_active_sets : BTreeMap ℕ Pps → BTreeMap ℕ Sps → ℕ → Option ActiveSets
kept_active_sets picture_sets sequence_sets =
    active_sets (sets_by_id plain_sps sequence_sets) (sets_by_id plain_pps picture_sets)
