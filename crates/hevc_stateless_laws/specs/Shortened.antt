-- A stream of which the first bytes are left out.
use Rattle.std.specs.Prelude.{ℕ, ◌+◌}
use Rattle.hevc_spec.specs.Units.{NalUnit}

-- a unit of what is left, at its place in the whole stream
abbrev pub moved : (left_out : ℕ) → NalUnit → NalUnit
moved left_out u = record { offset = left_out + u.offset; bytes = u.bytes }
