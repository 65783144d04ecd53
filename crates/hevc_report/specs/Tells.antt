-- What a run tells of a stream that it has read to its end.
use Rattle.std.specs.Prelude.{◌≡◌, ℕ, ◌≤◌, Bool, true, List, length, is_ok}
use Rattle.hevc_walk.specs.Clean.{IsClean}
use Rattle.hevc_walk.specs.Results.{outputs}
use Rattle.hevc_walk_order.specs.DisplayOrder.{ComeInOrder, ComeInTurn}
use Rattle.hevc_stream.specs.Options.{Options}
use Rattle.hevc_stream.specs.Stream.{meanings}
use Rattle.hevc_report.specs.Report.{ending_of}

-- By whether the stream, of at most so many bytes, was decoded to its end.
pub record Tells (limit : ℕ) (options : Options) (stream : List ℕ) (is_decoded : Bool)
    : Type 0 where
  pub limit_kept : length stream ≤ limit
  pub decoded : is_decoded ≡ is_ok (ending_of options stream)
  pub clean : IsClean (meanings options stream) → is_decoded ≡ true
  -- then its pictures were output sequence by sequence, and each sequence that keeps the order that
  -- it declares in display order
  pub in_turn : is_decoded ≡ true
      → ComeInTurn (meanings options stream) (outputs (meanings options stream))
  pub display_order : is_decoded ≡ true
      → ComeInOrder (meanings options stream) (outputs (meanings options stream))
