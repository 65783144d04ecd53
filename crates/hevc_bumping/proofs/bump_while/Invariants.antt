use Rattle.std.proofs.Common.{◌+◌, ◌≤◌}
use Rattle.std.specs.VecDeque.{deque_len, deque_capacity}
use Rattle.hevc_dpb.specs.Views.{buffer_of}
use Rattle.hevc_bumping.specs.Bumps.{num_waiting}
use Rattle.hevc_bumping.specs.Rules.{holds}
use Rattle.hevc_bumping.proofs.Steps.{Progress}
use Rattle.hevc_bumping.proofs.bump_while.Given as goal

abbrev pub invariant-loop-rule : goal.invariant-loop-rule
invariant-loop-rule g l = record {
  so_far : Progress (holds l.rule) l.initial.dpb l.dpb l.initial.queue l.queue;
  room : deque_len l.queue + num_waiting (buffer_of l.dpb) ≤ deque_capacity l.queue;
}

abbrev pub decreases-loop-rule : goal.decreases-loop-rule
decreases-loop-rule g l = num_waiting (buffer_of l.dpb)
