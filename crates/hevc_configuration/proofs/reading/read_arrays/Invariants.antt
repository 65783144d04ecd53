use Rattle.std.proofs.Common.{◌≡◌, ◌-◌}
use Rattle.std.specs.Prelude.{map}
use Rattle.hevc_configuration.specs.Reading.{arrays_at}
use Rattle.hevc_configuration.specs.Views.{plain_array}
use Rattle.hevc_configuration.proofs.Loops.{with_units}
use Rattle.hevc_configuration.proofs.reading.read_arrays.Given as goal

-- the arrays so far and those that are left
abbrev pub invariant-loop : goal.invariant-loop
invariant-loop l =
    with_units (map plain_array l.arrays.items) (arrays_at (l.count - l.counter) l.rest) ≡ arrays_at l.count l.bytes
