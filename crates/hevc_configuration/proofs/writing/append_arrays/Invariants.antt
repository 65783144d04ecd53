use Rattle.std.proofs.Common.{◌≡◌, ◌++◌, drop, map}
use Rattle.hevc_configuration.specs.Configuration.{arrays_rows}
use Rattle.hevc_configuration.specs.Rows.{bytes_of_rows}
use Rattle.hevc_configuration.specs.Views.{plain_array}
use Rattle.hevc_configuration.proofs.writing.append_arrays.Given as goal

-- what was written and the arrays that are left
abbrev pub invariant-loop-array : goal.invariant-loop-array
invariant-loop-array l =
    l.out.items ++ bytes_of_rows (arrays_rows (map plain_array (drop l.array-index l.arrays)))
    ≡ l.fn.out.items ++ bytes_of_rows (arrays_rows (map plain_array l.arrays))
