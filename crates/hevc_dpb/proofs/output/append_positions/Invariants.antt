use Rattle.std.proofs.Common.{◌≡◌, ◌≤◌, ◌+◌, ◌-◌, ◌++◌, List, length, take, vec_len}
use Rattle.std.specs.Vec.{vec_capacity}
use Rattle.hevc_dpb.specs.declared.entry.DpbEntry.{DpbEntry}
use Rattle.hevc_dpb.specs.Output.{AreAt}
use Rattle.hevc_dpb.proofs.output.append_positions.Given as goal

abbrev pub invariant-loop-place : goal.invariant-loop-place
invariant-loop-place g l = record {
  room : vec_len l.out + (length l.places - l.place-index) ≤ vec_capacity l.out;
  appended : (fs : List (DpbEntry g.row.T.Denot)) → AreAt l.entries.items l.places fs → l.out.items ≡ l.initial.out.items ++ take l.place-index fs;
}
