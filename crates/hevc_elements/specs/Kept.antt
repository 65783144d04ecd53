-- Where a reader keeps what it tells.
use Rattle.std.specs.Prelude.{◌-◌, Option, Some, None, vec_len}
use Rattle.std.specs.declared.vec.Vec.{Vec}
use Rattle.std.specs.Vec.{vec_capacity}
use Rattle.hevc_elements.specs.declared.told.Told.{Told}
use Rattle.hevc_elements.specs.Telling.{Telling, no_telling}

-- what is told so far, and the room that is left without an allocation
abbrev pub telling_in : {Z : Type 0} → Vec Told Z → Telling
telling_in list = record { told = list.items; room = vec_capacity list - vec_len list }

abbrev pub telling_of : {Z : Type 0} → Option (Vec Told Z) → Telling
telling_of None = no_telling
telling_of (Some list) = telling_in list
