use Rattle.std.proofs.Common.{◌≡◌, ◌-◌}
use Rattle.std.specs.Prelude.{map}
use Rattle.hevc_configuration.specs.Reading.{units_at}
use Rattle.hevc_configuration.proofs.Loops.{with_units}
use Rattle.hevc_configuration.proofs.reading.read_units.Given as goal

-- the units so far and those that are left
abbrev pub invariant-loop : goal.invariant-loop
invariant-loop l =
    with_units (map (λ u. u.now) l.units.items) (units_at (l.count - l.counter) l.rest) ≡ units_at l.count l.bytes
