use Rattle.std.proofs.Common.{◌≡◌, ◌++◌, length, map, take, drop}
use Rattle.hevc_walk.specs.ReferenceSets.{long_term_if}
use Rattle.hevc_dpb.specs.Views.{stored_entries, buffer_of}
use Rattle.hevc_refs.specs.Marking.{KeepsAllButMarks}
use Rattle.hevc_refs.proofs.marking.mark_long_term.Given as goal

abbrev pub invariant-loop-position : goal.invariant-loop-position
invariant-loop-position g l = record {
  marked : buffer_of l.dpb ≡ map (long_term_if (l.curr ++ l.foll))
      (take l.position (buffer_of l.initial.dpb)) ++ drop l.position (buffer_of l.initial.dpb);
  same_length : length (stored_entries l.dpb) ≡ length (stored_entries l.initial.dpb);
  kept : KeepsAllButMarks l.initial.dpb l.dpb;
}
