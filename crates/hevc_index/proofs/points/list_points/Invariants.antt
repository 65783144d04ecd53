use Rattle.std.proofs.Common.{◌≡◌, ◌-◌, ◌≤◌, [], length, map}
use Rattle.hevc_stateless.specs.Decoders.{view_of}
use Rattle.hevc_index.specs.Indexing.{plain_point}
use Rattle.hevc_index.proofs.Passing.{Collected}
use Rattle.hevc_index.proofs.points.list_points.Given as goal

-- the points so far are those of the units so far
abbrev pub invariant-loop-shown : goal.invariant-loop-shown
invariant-loop-shown g l = record {
  within : l.position ≤ length l.stream;
  few : l.unit ≤ l.position;
  empty : (view_of l.decoder).queue ≡ [];
  collected : Collected g.B.StatelessH265DecoderBackend.log g.B.StatelessH265DecoderBackend.handed
      g.B.StatelessH265DecoderBackend.frames g.B.StatelessH265DecoderBackend.counts
      g.B.StatelessH265DecoderBackend.is_faultless l.stream l.position l.unit (map plain_point l.points) l.decoder;
}

abbrev pub decreases-loop-shown : goal.decreases-loop-shown
decreases-loop-shown g l = length l.stream - l.position
