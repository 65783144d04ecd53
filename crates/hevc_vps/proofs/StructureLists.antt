-- Structures one after another.
use Rattle.std.proofs.lemmas.List.{map-append, length-map}

pub ruleset pushes = (map-append)

pub ruleset lasts = (length-map)
