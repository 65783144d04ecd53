use Rattle.std.proofs.Common.{◌≡◌, ◌≤◌, map, filter, take}
use Rattle.arrayvec.specs.ArrayVec.{array_vec_len}
use Rattle.hevc_dpb.specs.Entries.{is_ref}
use Rattle.hevc_refs.specs.Sets.{plain_set}
use Rattle.hevc_va.specs.References.{frame_of}
use Rattle.hevc_va.proofs.references.stored_frames.Given as goal

abbrev pub invariant-loop-entry : goal.invariant-loop-entry
invariant-loop-entry l = record {
  few : array_vec_len l.frames ≤ l.entry-index;
  found : l.frames.items
      ≡ map (frame_of (plain_set l.rps) l.surfaces) (filter is_ref (take l.entry-index l.entry-items));
}
