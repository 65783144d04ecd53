use Rattle.std.proofs.Common.{◌≡◌, ◌++◌, ◌∷◌, []}
use Rattle.std.specs.Prelude.{map}
use Rattle.std.proofs.lemmas.Result.{err_from_is_err_and}
use Rattle.std.proofs.lemmas.List.{map_push}
use Rattle.hevc_configuration.specs.Reading.{units_at}
use Rattle.hevc_configuration.proofs.Loops.{unit_goes_on, unit_fails, units_end}
use Rattle.hevc_configuration.proofs.reading.read_units.Goals as goal

pub returns-in_err-unit : goal.returns-in_err-unit
returns-in_err-unit c =
    let p = err_from_is_err_and c.from_residual.result c.from_residual.ensures.1 in
    rw (p.1, p.2)
    (unit_fails c.in_err-unit.field-0.0 (map (λ u. u.now) c.loop.units.items) c.args.count c.loop.counter c.loop.rest.now
    (units_at c.args.count c.args.bytes.now) c.loop-test.true c.in_err-unit.ensures c.loop.invariant)

pub loop-preserved : goal.loop-preserved
loop-preserved c =
    let n = c.in_ok-unit.unit in
    let e : map (λ u. u.now) c.push.new.self.items ≡ map (λ u. u.now) c.loop.units.items ++ n.now ∷ [] = rw c.in_ok-push.ensures.items (map_push _ c.loop.units.items n) in
    rw e
    (unit_goes_on (map (λ u. u.now) c.loop.units.items) c.args.count c.loop.counter c.loop.rest.now (n.now)
    c.in_ok-unit.after.now (units_at c.args.count c.args.bytes.now) c.loop-test.true c.in_ok-unit.ensures c.loop.invariant)

pub returns : goal.returns
returns c =
    units_end (map (λ u. u.now) c.loop.units.items) c.args.count c.loop.counter c.loop.rest.now
    (units_at c.args.count c.args.bytes.now) c.loop-test.false c.loop.invariant
