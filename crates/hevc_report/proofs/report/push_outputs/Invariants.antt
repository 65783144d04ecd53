use Rattle.std.proofs.Common.{◌≡◌, ◌++◌, take}
use Rattle.std.specs.List.{flat_map}
use Rattle.hevc_report.specs.Lines.{shown_line}
use Rattle.hevc_report.proofs.report.push_outputs.Given as goal

-- the lines of the outputs so far
abbrev pub invariant-loop-output : goal.invariant-loop-output
invariant-loop-output l = l.text.items ≡ l.initial.text.items ++ flat_map shown_line (take l.output-index l.shown)
