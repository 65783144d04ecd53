-- A stream that begins at its first picture.
use Rattle.std.specs.Prelude.{◌≡◌, ℕ, List}
use Rattle.hevc_walk.specs.Pictures.{Picture}
use Rattle.hevc_stream.specs.Options.{default_options}
use Rattle.hevc_index_laws.specs.Begun.{BeginsAt}

-- a picture is the first, and begins with unit 2
abbrev pub IsFirst : Picture → Type 0
IsFirst p = (p.number ≡ 0) × (p.unit ≡ 2)

-- bytes are decoded as a stream of m pictures is from a picture on
abbrev pub Begins : Picture → (m : ℕ) → (stream bytes : List ℕ) → Type 0
Begins p m stream bytes = BeginsAt default_options p m stream bytes
