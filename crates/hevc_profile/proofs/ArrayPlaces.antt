-- What is written at a place of an array.
use Rattle.std.proofs.lemmas.List.{map-set}

pub ruleset places = (map-set)
