use Rattle.std.proofs.Common.{◌≡◌, ◌%◌, length, map, slice_index_or, Some, None}
use Rattle.std.specs.Prelude.{if◌then◌else◌}
use Rattle.arrayvec.specs.ArrayVec.{array_vec_len}
use Rattle.hevc_walk.specs.ReferenceLists.{entry_index, numbers_below}
use Rattle.hevc_refs.specs.Lists.{base_places, plain_places}
use Rattle.hevc_refs.proofs.ref_pic_lists.push_places.Given as goal

abbrev pub invariant-loop-i : goal.invariant-loop-i
invariant-loop-i l = record {
  whole : array_vec_len l.places ≡ l.i;
  placed : plain_places l.places.items ≡ map
      (λ i. slice_index_or
      (base_places l.base.first.now l.base.second.now l.base.long_term.now l.base.has_current)
      (entry_index (if l.is_changed then Some l.list_entry else None) i % length
      (base_places l.base.first.now l.base.second.now l.base.long_term.now l.base.has_current)) None)
      (numbers_below l.i);
}
