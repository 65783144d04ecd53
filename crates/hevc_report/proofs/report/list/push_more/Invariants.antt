use Rattle.std.proofs.Common.{◌≡◌, ◌++◌, take}
use Rattle.hevc_refs.specs.Lists.{plain_places}
use Rattle.hevc_report.specs.Report.{more_places}
use Rattle.hevc_report.proofs.report.list.push_more.Given as goal

-- the places so far
abbrev pub invariant-loop-place : goal.invariant-loop-place
invariant-loop-place l = l.text.items ≡ l.initial.text.items ++ more_places (plain_places (take l.place-index l.places))
