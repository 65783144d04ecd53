use Rattle.std.proofs.Common.{◌≡◌, ◌++◌, drop}
use Rattle.hevc_element_names.specs.Seen.{sight_of}
use Rattle.hevc_element_lines.specs.Lines.{element_lines, lines_from}
use Rattle.hevc_element_lines.proofs.lines.push_elements.Given as goal

abbrev pub invariant-loop-one : goal.invariant-loop-one
invariant-loop-one l =
    l.text.items ++ lines_from l.style l.place (sight_of l.seen) (drop l.one-index l.told)
    ≡ l.fn.text.items ++ element_lines l.style l.told
