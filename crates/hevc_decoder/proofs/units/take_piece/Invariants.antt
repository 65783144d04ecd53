use Rattle.std.proofs.Common.{◌≡◌, ◌+◌, ◌-◌, ◌≤◌, [], ◌++◌, List, length}
use Rattle.hevc_spec.specs.Units.{NalUnit, units, units_from, kept_bytes}
use Rattle.hevc_stateless.specs.Decoders.{view_of, set_for}
use Rattle.hevc_decoder.specs.Scenes.{Scene, scene}
use Rattle.hevc_decoder.specs.Runs.{Reached}
use Rattle.hevc_decoder.proofs.units.take_piece.Given as goal

-- so many units were taken, and the rest of the piece is from the position on
abbrev pub invariant-loop-nalu : goal.invariant-loop-nalu
invariant-loop-nalu g l = record {
  within : l.position ≤ length l.piece;
  few : l.unit ≤ l.first + l.position;
  empty : (view_of l.decoder).queue ≡ [];
  counts : g.B.StatelessH265DecoderBackend.counts (view_of l.decoder).backend
      ≡ g.B.StatelessH265DecoderBackend.counts (view_of l.fn.decoder).backend;
  faultless : g.B.StatelessH265DecoderBackend.is_faultless (view_of l.fn.decoder).backend
      → g.B.StatelessH265DecoderBackend.is_faultless (view_of l.decoder).backend;
  options : set_for l.decoder ≡ set_for l.fn.decoder;
  reached : (begin : Scene g.row.B.Denot g.row.B-Handle.Denot) (all later : List NalUnit)
      → Reached (set_for l.fn.decoder) all l.first begin
      (scene g.B.StatelessH265DecoderBackend.log g.B.StatelessH265DecoderBackend.handed
      g.B.StatelessH265DecoderBackend.frames l.fn.decoder l.fn.shown.items) (units l.piece ++ later)
      → Reached (set_for l.fn.decoder) all l.unit begin
      (scene g.B.StatelessH265DecoderBackend.log g.B.StatelessH265DecoderBackend.handed
      g.B.StatelessH265DecoderBackend.frames l.decoder l.shown.items)
      (units_from kept_bytes l.position l.piece ++ later);
}

abbrev pub decreases-loop-nalu : goal.decreases-loop-nalu
decreases-loop-nalu g l = length l.piece - l.position
