use Rattle.std.proofs.Common.{◌++◌, map}
use Rattle.hevc_configuration.specs.Configuration.{arrays_rows}
use Rattle.hevc_configuration.specs.Rows.{bytes_of_rows}
use Rattle.hevc_configuration.specs.Views.{plain_array}
use Rattle.hevc_configuration.proofs.Steps.{array_written}
use Rattle.hevc_configuration.proofs.writing.append_arrays.Goals as goal

pub loop-array-preserved : goal.loop-array-preserved
loop-array-preserved c =
    array_written c.args.arrays.now c.loop-array.array-index c.array-item.result c.loop-array.out.items
    c.append_array.new.out.items (c.args.out.now.items ++ bytes_of_rows (arrays_rows (map plain_array c.args.arrays.now)))
    c.loop-array-test.true c.array-item.is c.in_ok-append_array.ensures c.loop-array.invariant
