use Rattle.std.proofs.Common.{◌≡◌, ◌++◌, drop, map}
use Rattle.hevc_configuration.specs.Configuration.{unit_rows}
use Rattle.hevc_configuration.specs.Rows.{bytes_of_rows}
use Rattle.hevc_configuration.proofs.writing.append_units.Given as goal

-- what was written and the units that are left
abbrev pub invariant-loop-unit : goal.invariant-loop-unit
invariant-loop-unit l =
    l.out.items ++ bytes_of_rows (unit_rows (map (λ u. u.now) (drop l.unit-index l.units)))
    ≡ l.fn.out.items ++ bytes_of_rows (unit_rows (map (λ u. u.now) l.units))
