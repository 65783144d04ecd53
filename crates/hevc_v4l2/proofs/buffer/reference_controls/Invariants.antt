use Rattle.std.proofs.Common.{◌≡◌, ◌≤◌, map, filter, take}
use Rattle.arrayvec.specs.ArrayVec.{array_vec_len}
use Rattle.hevc_dpb.specs.Entries.{is_ref}
use Rattle.hevc_v4l2.specs.Buffer.{control_of_entry}
use Rattle.hevc_v4l2.proofs.buffer.reference_controls.Given as goal

abbrev pub invariant-loop-entry : goal.invariant-loop-entry
invariant-loop-entry l = record {
  few : array_vec_len l.controls ≤ l.entry-index;
  found : l.controls.items ≡ map control_of_entry (filter is_ref (take l.entry-index l.entry-items));
}
