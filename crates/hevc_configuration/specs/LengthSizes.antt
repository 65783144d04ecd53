-- How many bytes the length of a unit has.
use Rattle.std.specs.Prelude.{ℕ, ◌+◌, ◌==◌, if◌then◌else◌, Result, Ok, Err}
use Rattle.hevc_configuration.specs.declared.error.ConfigurationError.{ConfigurationError}
use Rattle.hevc_configuration.specs.declared.error.ConfigurationError.TheVariants.{UnsupportedLengthSize}
use Rattle.hevc_configuration.specs.declared.length_size.LengthSize.{LengthSize}
use Rattle.hevc_configuration.specs.declared.length_size.LengthSize.TheVariants.{One, Two, Four}

-- lengthSizeMinusOne
abbrev pub size_minus_one : LengthSize → ℕ
size_minus_one One = 0
size_minus_one Two = 1
size_minus_one Four = 3

-- the size of a lengthSizeMinusOne of two bits; there is none of 2
abbrev pub length_size_of : ℕ → Result LengthSize ConfigurationError
length_size_of number =
    if number == 0 then Ok One
    else if number == 1 then Ok Two
    else if number == 2 then Err UnsupportedLengthSize
    else Ok Four

-- how many bytes a length has
abbrev pub byte_count : LengthSize → ℕ
byte_count length_size = size_minus_one length_size + 1
