-- Made streams, of any number of pictures.
use Rattle.std.specs.Prelude.{ℕ, ◌-◌, List, [], ◌∷◌, map}
use Rattle.std.specs.List.{range_with_len}
use Rattle.hevc_bit_writer.specs.WrittenUnits.{stream_of}
use Rattle.hevc_stream_maker.specs.Groups.{picture, order_count}
use Rattle.hevc_stream_maker.specs.Slices.{slice_unit}

-- 16 by 16 samples, eight bits of order counts, three pictures may be needed for output
abbrev pub sequence_set : List ℕ
sequence_set =
    66 ∷ 1 ∷ 1 ∷ 1 ∷ 96 ∷ 0 ∷ 0 ∷ 3 ∷ 0 ∷ 144 ∷ 0 ∷ 0 ∷ 3 ∷ 0 ∷ 0 ∷ 3 ∷ 0 ∷ 60 ∷ 160 ∷ 136 ∷ 69
    ∷ 150 ∷ 32 ∷ 154 ∷ 188 ∷ 32 ∷ 128 ∷ []

abbrev pub picture_set : List ℕ
picture_set = 68 ∷ 1 ∷ 192 ∷ 113 ∷ 128 ∷ 18 ∷ []

-- a whole IDR picture
abbrev pub first_picture : List ℕ
first_picture = 38 ∷ 1 ∷ 175 ∷ 128 ∷ []

-- the unit of the picture of this number after the first one, from 0
unfoldable pub picture_unit : ℕ → List ℕ
picture_unit number = slice_unit (picture number) (order_count number)

-- the units of so many pictures, the first one at least
abbrev pub made_units : ℕ → List (List ℕ)
made_units pictures =
    sequence_set ∷ picture_set ∷ first_picture ∷ map picture_unit (range_with_len 0 (pictures - 1))

-- the stream of so many pictures, the first one at least
abbrev pub made : ℕ → List ℕ
made pictures = stream_of (made_units pictures)
