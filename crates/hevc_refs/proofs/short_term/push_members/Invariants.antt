use Rattle.std.proofs.Common.{◌≡◌, ◌≤◌, ◌+◌, ◌++◌, map, filter}
use Rattle.arrayvec.specs.ArrayVec.{array_vec_len}
use Rattle.hevc_walk_inputs.specs.Headers.{short_term_member}
use Rattle.hevc_walk.specs.Pictures.{Head}
use Rattle.hevc_walk.specs.ReferenceSets.{short_term_entry}
use Rattle.hevc_walk.specs.ReferenceLists.{numbers_below}
use Rattle.hevc_dpb.specs.Views.{buffer_of}
use Rattle.hevc_refs.specs.Marking.{is_wanted}
use Rattle.hevc_refs.proofs.short_term.push_members.Given as goal

abbrev pub invariant-loop-i : goal.invariant-loop-i
invariant-loop-i g l = record {
  few : array_vec_len l.out ≤ array_vec_len l.initial.out + l.i;
  pushed : (p : Head) → l.order_count ≡ p.order_count
      → l.out.items ≡ l.initial.out.items
      ++ map (short_term_entry p (buffer_of l.dpb))
      (filter (is_wanted l.wanted) (map (short_term_member l.deltas l.used) (numbers_below l.i)));
}
