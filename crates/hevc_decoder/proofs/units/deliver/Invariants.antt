use Rattle.std.proofs.Common.{◌≡◌, ◌+◌, ◌≤◌, length, vec_len, vec_capacity}
use Rattle.hevc_stateless.specs.Decoders.{view_of, kept_in, set_for}
use Rattle.hevc_decoder.proofs.Delivering.{MovesTo}
use Rattle.hevc_decoder.proofs.units.deliver.Given as goal

-- a prefix of the queue was moved
abbrev pub invariant-loop-frame : goal.invariant-loop-frame
invariant-loop-frame g l = record {
  so_far : MovesTo l.unit (view_of l.fn.decoder).queue (view_of l.decoder).queue l.fn.shown.items l.shown.items;
  view : view_of l.decoder ≡ record (view_of l.fn.decoder) { queue = (view_of l.decoder).queue };
  kept : kept_in l.decoder ≡ kept_in l.fn.decoder;
  options : set_for l.decoder ≡ set_for l.fn.decoder;
  room : vec_len l.shown + length (view_of l.decoder).queue ≤ vec_capacity l.shown;
}

abbrev pub decreases-loop-frame : goal.decreases-loop-frame
decreases-loop-frame g l = length (view_of l.decoder).queue
