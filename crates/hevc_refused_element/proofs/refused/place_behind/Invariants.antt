use Rattle.std.proofs.Common.{◌≡◌, drop}
use Rattle.std.specs.Prelude.{fold}
use Rattle.hevc_element_lines.specs.Lines.{place_after}
use Rattle.hevc_refused_element.specs.Refused.{place_behind}
use Rattle.hevc_refused_element.proofs.refused.place_behind.Given as goal

-- the elements that are left come after the place
abbrev pub invariant-loop-one : goal.invariant-loop-one
invariant-loop-one l = fold place_after l.place (drop l.one-index l.told) ≡ place_behind l.told
