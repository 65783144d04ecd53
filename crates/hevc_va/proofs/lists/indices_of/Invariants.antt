use Rattle.std.proofs.Common.{◌≡◌, map, take}
use Rattle.arrayvec.specs.ArrayVec.{array_vec_len}
use Rattle.hevc_va.specs.Lists.{place_index}
use Rattle.hevc_va.proofs.lists.indices_of.Given as goal

abbrev pub invariant-loop-place : goal.invariant-loop-place
invariant-loop-place l = record {
  few : array_vec_len l.indices ≡ l.place-index;
  found : l.indices.items ≡ map (place_index l.numbers l.current) (take l.place-index l.places);
}
