use Rattle.std.proofs.Common.{◌≡◌, ◌≤◌, ◌+◌, drop, map}
use Rattle.hevc_report.specs.Summary.{falls_behind}
use Rattle.hevc_report.proofs.report.summary.number_of_falls.Given as goal

-- the falls so far, and those of what is left
abbrev pub invariant-loop-output : goal.invariant-loop-output
invariant-loop-output l = record {
  few : l.falls ≤ l.output-index;
  rest : l.falls + falls_behind l.last (map (λ o. o.order_count) (drop l.output-index l.others))
      ≡ falls_behind l.initial.last (map (λ o. o.order_count) l.others);
}
