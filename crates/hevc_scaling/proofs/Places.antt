-- What is written at a place of an array.
use Rattle.std.proofs.lemmas.List.{map-set}
use Rattle.hevc_records.proofs.BoundLemmas.{Within-at, Within-set}

pub ruleset places = (Within-at, Within-set, map-set)
