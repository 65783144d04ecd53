use Rattle.std.proofs.Common.{◌≡◌, drop, map}
use Rattle.std.specs.List.{list_any}
use Rattle.hevc_configuration.specs.Writing.{is_long_unit}
use Rattle.hevc_configuration.proofs.writing.is_long.Given as goal

-- none of those before is
abbrev pub invariant-loop-unit : goal.invariant-loop-unit
invariant-loop-unit l =
    list_any is_long_unit (map (λ u. u.now) (drop l.unit-index l.units)) ≡ list_any is_long_unit (map (λ u. u.now) l.units)
