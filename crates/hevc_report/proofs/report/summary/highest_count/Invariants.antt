use Rattle.std.proofs.Common.{◌≡◌, drop, map}
use Rattle.std.specs.Prelude.{fold}
use Rattle.std.specs.Int.{int_max}
use Rattle.hevc_report.proofs.report.summary.highest_count.Given as goal

-- what is left is compared with the highest so far
abbrev pub invariant-loop-output : goal.invariant-loop-output
invariant-loop-output l =
    fold int_max l.highest (map (λ o. o.order_count) (drop l.output-index l.others))
    ≡ fold int_max l.initial.highest (map (λ o. o.order_count) l.others)
