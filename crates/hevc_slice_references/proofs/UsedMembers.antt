-- How many members of sets are used.
use Rattle.std.proofs.lemmas.List.{map-set}
use Rattle.std.proofs.lemmas.List.Sums.{count_by_more_no, count_by_more_yes}

pub ruleset counts = (count_by_more_no, count_by_more_yes)

pub ruleset pictures = (map-set)
