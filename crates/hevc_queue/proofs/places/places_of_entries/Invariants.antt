use Rattle.std.proofs.Common.{◌≡◌, map, take}
use Rattle.arrayvec.specs.ArrayVec.{array_vec_len}
use Rattle.hevc_queue.specs.Events.{entry_kind, entry_number}
use Rattle.hevc_queue.proofs.places.places_of_entries.Given as goal

abbrev pub invariant-loop-entry : goal.invariant-loop-entry
invariant-loop-entry l = record {
  few_numbers : array_vec_len l.numbers ≡ l.entry-index;
  few_kinds : array_vec_len l.kinds ≡ l.entry-index;
  numbered : l.numbers.items ≡ map entry_number (take l.entry-index l.entries);
  told : l.kinds.items ≡ map entry_kind (take l.entry-index l.entries);
}
