use Rattle.std.proofs.Common.{◌≡◌, ◌++◌, length, map, take, drop}
use Rattle.hevc_walk.specs.ReferenceSets.{marked_if, all_members}
use Rattle.hevc_dpb.specs.Views.{stored_entries, buffer_of}
use Rattle.hevc_refs.specs.Sets.{plain_set}
use Rattle.hevc_refs.specs.Marking.{KeepsAllButMarks}
use Rattle.hevc_refs.proofs.marking.unmark_others.Given as goal

abbrev pub invariant-loop-position : goal.invariant-loop-position
invariant-loop-position g l = record {
  marked : buffer_of l.dpb ≡ map (marked_if (all_members (plain_set l.set)))
      (take l.position (buffer_of l.initial.dpb)) ++ drop l.position (buffer_of l.initial.dpb);
  same_length : length (stored_entries l.dpb) ≡ length (stored_entries l.initial.dpb);
  kept : KeepsAllButMarks l.initial.dpb l.dpb;
}
