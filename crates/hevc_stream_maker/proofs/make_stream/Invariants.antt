use Rattle.std.proofs.Common.{◌≡◌, ◌∷◌, map}
use Rattle.std.specs.List.{range_with_len}
use Rattle.hevc_bit_writer.specs.WrittenUnits.{stream_of}
use Rattle.hevc_stream_maker.specs.Made.{sequence_set, picture_set, first_picture, picture_unit}
use Rattle.hevc_stream_maker.proofs.make_stream.Given as goal

-- the pictures up to here
abbrev pub invariant-loop-number : goal.invariant-loop-number
invariant-loop-number l =
    l.stream.items ≡ stream_of
    (sequence_set ∷ picture_set ∷ first_picture ∷ map picture_unit (range_with_len 0 l.number))
