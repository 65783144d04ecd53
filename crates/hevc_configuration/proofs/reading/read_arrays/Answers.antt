use Rattle.std.proofs.Common.{◌≡◌, ◌++◌, ◌∷◌, []}
use Rattle.std.specs.Prelude.{map}
use Rattle.std.proofs.lemmas.Result.{err_from_is_err_and}
use Rattle.std.proofs.lemmas.List.{map_push}
use Rattle.hevc_configuration.specs.Views.{plain_array}
use Rattle.hevc_configuration.specs.Reading.{arrays_at}
use Rattle.hevc_configuration.proofs.Loops.{array_goes_on, array_fails, arrays_end}
use Rattle.hevc_configuration.proofs.reading.read_arrays.Goals as goal

pub returns-in_err-array : goal.returns-in_err-array
returns-in_err-array c =
    let p = err_from_is_err_and c.from_residual.result c.from_residual.ensures.1 in
    rw (p.1, p.2)
    (array_fails c.in_err-array.field-0.0 (map plain_array c.loop.arrays.items) c.args.count c.loop.counter c.loop.rest.now
    (arrays_at c.args.count c.args.bytes.now) c.loop-test.true c.in_err-array.ensures c.loop.invariant)

pub loop-preserved : goal.loop-preserved
loop-preserved c =
    let n = c.in_ok-array.array in
    let e : map plain_array c.push.new.self.items ≡ map plain_array c.loop.arrays.items ++ plain_array n ∷ [] = rw c.in_ok-push.ensures.items (map_push _ c.loop.arrays.items n) in
    rw e
    (array_goes_on (map plain_array c.loop.arrays.items) c.args.count c.loop.counter c.loop.rest.now (plain_array n)
    c.in_ok-array.after.now (arrays_at c.args.count c.args.bytes.now) c.loop-test.true c.in_ok-array.ensures c.loop.invariant)

pub returns : goal.returns
returns c =
    arrays_end (map plain_array c.loop.arrays.items) c.args.count c.loop.counter c.loop.rest.now
    (arrays_at c.args.count c.args.bytes.now) c.loop-test.false c.loop.invariant
