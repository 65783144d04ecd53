use Rattle.std.proofs.Common.{◌≡◌, ◌-◌, ◌≤◌, [], length}
use Rattle.hevc_spec.specs.Units.{kept_bytes, units, units_from}
use Rattle.hevc_stream.specs.Options.{Options}
use Rattle.hevc_stateless.specs.Decoders.{view_of}
use Rattle.hevc_decoder.specs.Stepping.{StandsIn}
use Rattle.hevc_decoder.proofs.Stepping.{Along}
use Rattle.hevc_decoder.proofs.stream.judge_units.Given as goal

-- so many units were taken, and the rest of the stream is from the position on
abbrev pub invariant-loop-shown : goal.invariant-loop-shown
invariant-loop-shown g l = record {
  within : l.position ≤ length l.stream;
  few : l.unit ≤ l.position;
  empty : (view_of l.decoder).queue ≡ [];
  along : (o : Options) (backend : g.row.B.Denot)
      → StandsIn g.B.StatelessH265DecoderBackend.log g.B.StatelessH265DecoderBackend.handed
      g.B.StatelessH265DecoderBackend.frames g.B.StatelessH265DecoderBackend.counts
      g.B.StatelessH265DecoderBackend.is_faultless o l.stream 0 (units l.stream) backend [] l.fn.decoder
      → Along g.B.StatelessH265DecoderBackend.log g.B.StatelessH265DecoderBackend.handed
      g.B.StatelessH265DecoderBackend.frames g.B.StatelessH265DecoderBackend.counts
      g.B.StatelessH265DecoderBackend.is_faultless o l.stream l.unit
      (units_from kept_bytes l.position l.stream) backend l.decoder;
}

abbrev pub decreases-loop-shown : goal.decreases-loop-shown
decreases-loop-shown g l = length l.stream - l.position
