use Rattle.std.proofs.Common.{◌≡◌, drop, map}
use Rattle.std.specs.List.{list_any}
use Rattle.hevc_configuration.specs.Views.{plain_array}
use Rattle.hevc_configuration.specs.Writing.{has_too_many}
use Rattle.hevc_configuration.proofs.writing.have_too_many.Given as goal

-- none of those before is
abbrev pub invariant-loop-array : goal.invariant-loop-array
invariant-loop-array l =
    list_any has_too_many (map plain_array (drop l.array-index l.arrays)) ≡ list_any has_too_many (map plain_array l.arrays)
