use Rattle.std.proofs.Common.{◌≡◌, drop, map}
use Rattle.std.specs.Prelude.{fold}
use Rattle.std.specs.Int.{int_min}
use Rattle.hevc_report.proofs.report.summary.lowest_count.Given as goal

-- what is left is compared with the lowest so far
abbrev pub invariant-loop-output : goal.invariant-loop-output
invariant-loop-output l =
    fold int_min l.lowest (map (λ o. o.order_count) (drop l.output-index l.others))
    ≡ fold int_min l.initial.lowest (map (λ o. o.order_count) l.others)
