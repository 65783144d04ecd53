-- The pictures of a stream at which decoding can start.
use Rattle.std.specs.Prelude.{◌≡◌, ℕ, ℤ, ◌==◌, Bool, ◌&&◌, ◌||◌, List, filter, find, map, reverse, slice_index_or, Option, Ok}
use Rattle.hevc_spec.specs.UnitHeader.{UnitHeader, unit_header}
use Rattle.hevc_spec.specs.Units.{NalUnit, units}
use Rattle.hevc_spec.specs.UnitTypes.{is_idr, is_bla}
use Rattle.hevc_walk.specs.Meanings.{Meaning}
use Rattle.hevc_walk.specs.Pictures.{Picture, pictures}
use Rattle.hevc_stream.specs.Options.{Options}
use Rattle.hevc_stream.specs.Slices.{temporal_id}
use Rattle.hevc_stream.specs.Stream.{meanings}

-- an IDR or BLA picture whose temporal id is 0 (7.4.2.2, 8.1.3)
abbrev pub is_point : Picture → Bool
is_point p = (is_idr p.nal_unit_type || is_bla p.nal_unit_type) && p.first.temporal_id == 0

-- in decoding order
abbrev pub points : List Meaning → List Picture
points us = filter is_point (reverse (pictures us))

-- the point that has a picture number
abbrev pub point_numbered : ℕ → List Meaning → Option Picture
point_numbered number us = find (λ p. p.number == number) (points us)

-- What is told of a point: the unit of its first slice, and the place of that unit's first header
-- byte in the stream.
pub record PlainPoint : Type 0 where
  pub number : ℕ
  pub unit : ℕ
  pub offset : ℕ
  pub nal_unit_type : ℕ
  -- PicOrderCntVal
  pub order_count : ℤ

abbrev pub plain_point : List ℕ → Picture → PlainPoint
plain_point stream p = record {
  number = p.number;
  unit = p.unit;
  offset = slice_index_or (map (λ u. u.offset) (units stream)) p.unit 0;
  nal_unit_type = p.nal_unit_type;
  order_count = p.order_count;
}

-- the points of a stream, in decoding order
abbrev pub points_of : Options → List ℕ → List PlainPoint
points_of options stream = map (plain_point stream) (points (meanings options stream))

-- a unit's header has the type and the temporal id of the picture that the unit begins
pub record BeginsPicture (p : Picture) (u : NalUnit) : Type 0 where
  pub header : UnitHeader
  pub is_header : unit_header u.bytes ≡ Ok header
  pub nal_unit_type : header.nal_unit_type ≡ p.nal_unit_type
  pub temporal_id : temporal_id header ≡ p.first.temporal_id
