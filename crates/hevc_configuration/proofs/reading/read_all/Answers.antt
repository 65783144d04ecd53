use Rattle.std.proofs.Common.{map, ap, sym, ◌∙◌, Ok}
use Rattle.std.proofs.lemmas.Result.{err_from_is_err_and}
use Rattle.hevc_configuration.specs.Views.{plain_array}
use Rattle.hevc_configuration.proofs.Whole.{arrays_refused, whole}
use Rattle.hevc_configuration.proofs.reading.read_all.Goals as goal

pub returns-in_err-arrays : goal.returns-in_err-arrays
returns-in_err-arrays c =
    let p = err_from_is_err_and c.from_residual-in_err-arrays.result c.from_residual-in_err-arrays.ensures.1 in
    rw (p.1, p.2)
    (arrays_refused c.in_err-arrays.field-0.0 c.args.bytes.now c.in_ok-length_size.length_size
    c.in_ok-length_size.ensures.gives c.in_err-arrays.ensures)

pub returns : goal.returns
returns c =
    whole c.args.bytes.now c.in_ok-length_size.length_size (map plain_array c.in_ok-arrays.arrays.items)
    c.in_ok-arrays._after.now c.in_ok-length_size.ensures.gives c.in_ok-arrays.ensures ∙ ap Ok (sym c.with_front.ensures)
