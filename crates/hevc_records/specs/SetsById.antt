-- Parameter sets of a map, found by their ids (7.4.2.4.2).
use Rattle.std.specs.Prelude.{ℕ, Option, option_map}
use Rattle.std.specs.Ordering.{nat_cmp}
use Rattle.std.specs.BTreeMap.{BTreeMap, get}

-- the set of each id, as a view shows it
abbrev pub sets_by_id : {X Y : Type 0} → (X → Y) → BTreeMap ℕ X → ℕ → Option Y
sets_by_id view sets id = option_map view (get nat_cmp sets id)
