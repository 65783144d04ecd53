use Rattle.std.proofs.Common.{ℕ, ℤ, ◌<◌, ◌≤ℤ◌, length}
use Rattle.std.specs.Prelude.{slice_index_or}
use Rattle.hevc_check.proofs.sequence.place_of_lowest.Given as goal

-- of the places so far it is the lowest
abbrev pub invariant-loop-place : goal.invariant-loop-place
invariant-loop-place l = record {
  inside : l.lowest < length l.counts.items;
  lowest : (k : ℕ) (d : ℤ) → k < l.place
      → slice_index_or l.counts.items l.lowest d ≤ℤ slice_index_or l.counts.items k d;
}
