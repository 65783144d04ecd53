-- Where units lie among bytes.
use Rattle.std.specs.Prelude.{◌+◌, List, [], ◌∷◌, length}
use Rattle.hevc_spec.specs.Units.{NalUnit}
use Rattle.hevc_pull.specs.declared.extent.Extent.{Extent}

-- where a unit lies, and the place after it, from which on the next one is sought
abbrev pub extent_of : NalUnit → Extent
extent_of u = record {
  offset = u.offset;
  size = length u.bytes;
  next = u.offset + length u.bytes;
}

-- those of no unit
abbrev pub no_extent : Extent
no_extent = record { offset = 0; size = 0; next = 0 }

-- those of the first of these units
abbrev pub first_extent : List NalUnit → Extent
first_extent [] = no_extent
first_extent (u ∷ others) = extent_of u
