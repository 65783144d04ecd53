use Rattle.std.proofs.Common.{◌≡◌, map, take}
use Rattle.arrayvec.specs.ArrayVec.{array_vec_len}
use Rattle.hevc_queue.specs.Events.{member_kind, member_number}
use Rattle.hevc_queue.proofs.places.places_of_members.Given as goal

abbrev pub invariant-loop-member : goal.invariant-loop-member
invariant-loop-member l = record {
  few_numbers : array_vec_len l.numbers ≡ l.member-index;
  few_kinds : array_vec_len l.kinds ≡ l.member-index;
  numbered : l.numbers.items ≡ map member_number (take l.member-index l.members);
  told : l.kinds.items ≡ map member_kind (take l.member-index l.members);
}
