use Rattle.std.proofs.Common.{◌≡◌, map, take}
use Rattle.arrayvec.specs.ArrayVec.{array_vec_len}
use Rattle.hevc_v4l2.specs.Buffer.{member_index}
use Rattle.hevc_v4l2.proofs.buffer.member_indices.Given as goal

abbrev pub invariant-loop-member : goal.invariant-loop-member
invariant-loop-member l = record {
  few : array_vec_len l.indices ≡ l.member-index;
  found : l.indices.items ≡ map (member_index l.numbers) (take l.member-index l.members);
}
