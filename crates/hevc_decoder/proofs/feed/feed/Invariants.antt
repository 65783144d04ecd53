use Rattle.std.proofs.Common.{◌≡◌, ℕ, ◌+◌, ◌≤◌, [], List, length}
use Rattle.std.specs.Io.KnownBytes.{Consumes}
use Rattle.hevc_stateless.specs.Decoders.{view_of, set_for}
use Rattle.hevc_decoder.specs.Scenes.{scene}
use Rattle.hevc_decoder.specs.Sources.{Fed}
use Rattle.hevc_bits.specs.StartCode.{NoneStands}
use Rattle.hevc_decoder.proofs.feed.feed.Given as goal

-- the units before the window were taken
abbrev pub invariant-loop-count : goal.invariant-loop-count
invariant-loop-count g l = record {
  fed : (given : List ℕ) × Consumes (g.S.Source.left l.fn.source) (g.S.Source.left l.source) given
      × (length given + l.left ≡ l.fn.left)
      × Fed (set_for l.fn.decoder) given l.window l.unit
      (scene g.B.StatelessH265DecoderBackend.log g.B.StatelessH265DecoderBackend.handed
      g.B.StatelessH265DecoderBackend.frames l.fn.decoder l.fn.shown.items)
      (scene g.B.StatelessH265DecoderBackend.log g.B.StatelessH265DecoderBackend.handed
      g.B.StatelessH265DecoderBackend.frames l.decoder l.shown.items);
  one : NoneStands l.window 1 (length l.window);
  few : l.unit + length l.window + l.left ≤ l.fn.left;
  empty : (view_of l.decoder).queue ≡ [];
  counts : g.B.StatelessH265DecoderBackend.counts (view_of l.decoder).backend
      ≡ g.B.StatelessH265DecoderBackend.counts (view_of l.fn.decoder).backend;
  faultless : g.B.StatelessH265DecoderBackend.is_faultless (view_of l.fn.decoder).backend
      → g.B.StatelessH265DecoderBackend.is_faultless (view_of l.decoder).backend;
  options : set_for l.decoder ≡ set_for l.fn.decoder;
  later : g.S.Source.faults l.fn.source ≤ g.S.Source.faults l.source;
}

-- each turn but the last takes a byte at least
abbrev pub decreases-loop-count : goal.decreases-loop-count
decreases-loop-count g l = l.left
