use Rattle.std.proofs.Common.{◌+◌, ◌-◌, ◌≤◌, ◌∙◌, ap, sym, arith, List, ◌∷◌, ℕ, length, take, drop}
use Rattle.std.proofs.Math.ListN.{length-take, length-drop}
use Rattle.hevc_spec.specs.Units.{NalUnit, units_from}
use Rattle.hevc_spec.proofs.UnitLaws.{units_from-first, units_from-none}
use Rattle.hevc_bits.proofs.StartCodes.{begins_at, none_begins}
use Rattle.hevc_bits.proofs.nalu.first_cut.Goals as goal

pub returns-in_err-start-clause-none : goal.returns-in_err-start-clause-none
returns-in_err-start-clause-none c =
    let stream = c.args.stream.now in
    rw c.from_residual.ensures
    (λ kept. units_from-none kept stream c.args.from c.requires
    (none_begins stream c.args.from (length stream) c.in_err-start.ensures))

pub returns-clause-first : goal.returns-clause-first
returns-clause-first c kept size small =
    let stream = c.args.stream.now in
    let start = c.in_ok-start.start in
    let end = c.end_of_unit-end.result in
    let e = c.end_of_unit-end.ensures in
    let s = c.in_ok-start.ensures in
    let t = c.trim_trailing_zeros-bytes.ensures in
    let long = length-drop (start + 3) stream in
    let short : length (take (end - (start + 3)) (drop (start + 3) stream)) ≤ end - (start + 3) =
    grind (arith, length-take) in
    let first = units_from-first kept stream start end (begins_at stream start s.1) e.behind e.within
    (none_begins stream (start + 3) end e.none_before)
    (λ lt. begins_at stream end (e.stands lt)) c.args.from size s.0 (none_begins stream c.args.from start s.2)
    (omega (arith, t.shorter)) in
    let P : List ℕ → List NalUnit = λ bytes. record {
      offset = start + 3;
      bytes = kept bytes;
    } ∷ units_from kept (start + 3 + size) stream in
    first ∙ ap P (sym t.trimmed)
