-- What is told of the points of worked streams.
use Rattle.std.specs.Prelude.{ℕ, pos, List, [], ◌∷◌, ◌++◌, map}
use Rattle.hevc_walk.specs.Meanings.{Meaning, CodedSlice, I}
use Rattle.hevc_walk_examples.specs.Streams.{plain_format, plain_sets, plain_header, first_slice}
use Rattle.hevc_walk_splice.specs.Points.{its_sets}
use Rattle.hevc_index_laws.specs.Points.{points, PlainPoint}

-- IDR_W_RADL, of order count 0
abbrev pub idr_at : (number unit offset : ℕ) → PlainPoint
idr_at number unit offset = record {
  number = number;
  unit = unit;
  offset = offset;
  nal_unit_type = 19;
  order_count = pos 0;
}

-- the units at which points begin
abbrev pub point_units : List Meaning → List ℕ
point_units us = map (λ p. p.unit) (points us)

-- sets, and a picture of a type
abbrev pub one_of_type : ℕ → List Meaning
one_of_type type =
    its_sets
    ++ CodedSlice (first_slice type [] (plain_sets plain_format) (plain_header I 0 [] [] 0)) ∷ []
