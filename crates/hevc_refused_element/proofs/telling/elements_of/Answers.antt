use Rattle.std.proofs.Common.{◌<◌, arith}
use Rattle.std.specs.Prelude.{vec_len}
use Rattle.std.specs.Vec.{vec_capacity}
use Rattle.hevc_parser.specs.Kept.{kept_by}
use Rattle.hevc_parser.specs.Telling.{told_of_unit}
use Rattle.hevc_refused_element.proofs.Fitting.{fitted}
use Rattle.hevc_refused_element.proofs.telling.elements_of.Goals as goal

pub returns-then-len-capacity : goal.returns-then-len-capacity
returns-then-len-capacity c =
    let room : vec_len c.in_ok-told.told < vec_capacity c.in_ok-told.told =
    omega (arith, c.len.ensures, c.capacity.ensures, c.if-len-capacity.true) in
    fitted c.in_ok-list.list c.in_ok-told.told (told_of_unit (kept_by c.args.parser.now) c.args.nalu.now)
    c.in_ok-told.ensures c.in_ok-list.ensures.items room
