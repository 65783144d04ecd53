use Rattle.std.proofs.Common.{◌≡◌, ◌++◌, map, take, drop}
use Rattle.hevc_pull.specs.Counting.{told_if_own}
use Rattle.hevc_pull.proofs.counted.tell_each.Given as goal

abbrev pub invariant-loop-one : goal.invariant-loop-one
invariant-loop-one l = l.counted ≡ map (told_if_own l.event) (take l.one-index l.initial.counted)
    ++ drop l.one-index l.initial.counted
