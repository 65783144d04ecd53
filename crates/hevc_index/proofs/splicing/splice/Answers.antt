use Rattle.std.proofs.Common.{ap, sym, ◌∙◌, map}
use Rattle.hevc_index.specs.Indexing.{plain_point, point_at}
use Rattle.hevc_index.proofs.Judging.{all_headed}
use Rattle.hevc_index.proofs.Spliced.{begins_as, found_unit, of_unit, ok_holds, there_is, there_isnt}
use Rattle.hevc_index.proofs.splicing.splice.Goals as goal

pub returns-in_default-clause-seeks : goal.returns-in_default-clause-seeks
returns-in_default-clause-seeks c =
    there_isnt (point_at c.args.number c.args.stream.now)
    (found_unit c.args.number c.args.stream.now (map plain_point c.as_slice.result.now) c.unit_of_point.result
    (ap (map plain_point) c.as_slice.ensures ∙ c.in_ok-points.ensures.points) c.unit_of_point.ensures
    ∙ c.in_default.is)

pub append_spliced-requires-clause-headed : goal.append_spliced-requires-clause-headed
append_spliced-requires-clause-headed c = all_headed c.args.stream.now c.in_ok-points.ensures.refused

pub returns-clause-bytes : goal.returns-clause-bytes
returns-clause-bytes c =
    of_unit (point_at c.args.number c.args.stream.now) c.in-Some.first c.append_spliced.new.out.items
    c.args.out.now.items c.args.stream.now
    (found_unit c.args.number c.args.stream.now (map plain_point c.as_slice.result.now) c.unit_of_point.result
    (ap (map plain_point) c.as_slice.ensures ∙ c.in_ok-points.ensures.points) c.unit_of_point.ensures
    ∙ c.in-Some.is)
    (ok_holds c.append_spliced.result _ c.append_spliced.ensures.bytes (sym c.is_err.ensures.value ∙ c.if-is_err.false))

pub returns-clause-begins : goal.returns-clause-begins
returns-clause-begins c = begins_as c.args.number c.args.stream.now

pub returns-clause-seeks : goal.returns-clause-seeks
returns-clause-seeks c =
    there_is (point_at c.args.number c.args.stream.now) c.in-Some.first
    (found_unit c.args.number c.args.stream.now (map plain_point c.as_slice.result.now) c.unit_of_point.result
    (ap (map plain_point) c.as_slice.ensures ∙ c.in_ok-points.ensures.points) c.unit_of_point.ensures
    ∙ c.in-Some.is)
