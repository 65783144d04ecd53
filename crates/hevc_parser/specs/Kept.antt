-- What a parser keeps, as the definitions of streams have it.
use Rattle.std.specs.Prelude.{ℕ, not, ◌==◌, [], Option}
use Rattle.std.specs.Ordering.{nat_cmp}
use Rattle.std.specs.BTreeMap.{btree_map_len, get}
use Rattle.hevc_records.specs.SetsById.{sets_by_id}
use Rattle.hevc_video_set.specs.Vps.{plain_vps}
use Rattle.hevc_sequence_set.specs.declared.sps.Sps.{Sps}
use Rattle.hevc_sequence_set.specs.Sps.{plain_sps}
use Rattle.hevc_picture_slice.specs.Pps.{plain_pps}
use Rattle.hevc_stream.specs.Kept.{Kept}
use Rattle.hevc_records.specs.Pps.{PlainPps}
use Rattle.hevc_pps.specs.Tiling.{CoverKept}
use Rattle.hevc_parser.specs.declared.parser.Parser.{Parser}

-- the sets that a parser keeps; no unit waits in it
abbrev pub kept_by : Parser → Kept
kept_by p = record {
  video_sets = sets_by_id plain_vps p.video_sets;
  sequence_sets = sets_by_id plain_sps p.sequence_sets;
  picture_sets = sets_by_id plain_pps p.picture_sets;
  has_sequence_set = not (btree_map_len p.sequence_sets == 0);
  waiting = [];
}

-- the sequence set that a parser keeps under an id
abbrev pub sequence_set_by : Parser → ℕ → Option Sps
sequence_set_by p id = get nat_cmp p.sequence_sets id

-- With tiles, a picture set's columns and rows take all blocks of a picture of the sequence set
-- that it names, of those that a parser keeps (6.5.1).
abbrev pub TilesCoverKept : Parser → PlainPps → Type 0
TilesCoverKept p pps = CoverKept p.sequence_sets pps
