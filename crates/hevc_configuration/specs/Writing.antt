-- What can't be held, and the first such thing.
use Rattle.std.specs.Prelude.{◌≡◌, ℕ, Bool, List, length, Option, Some, None, Result, Ok, Err, nat_lt, if◌then◌else◌}
use Rattle.std.specs.List.{list_any}
use Rattle.hevc_configuration.specs.declared.error.ConfigurationWriteError.{ConfigurationWriteError}
use Rattle.hevc_configuration.specs.declared.error.ConfigurationWriteError.TheVariants.{TooManyArrays, TooManyUnits, UnitTooLong, NoMemory}
use Rattle.hevc_configuration.specs.Configuration.{PlainArray, PlainConfiguration}

abbrev pub is_long_unit : List ℕ → Bool
is_long_unit unit = nat_lt 65535 (length unit)

abbrev pub has_too_many : PlainArray → Bool
has_too_many a = nat_lt 65535 (length a.units)

abbrev pub has_long_unit : PlainArray → Bool
has_long_unit a = list_any is_long_unit a.units

abbrev pub unheld : PlainConfiguration → Option ConfigurationWriteError
unheld c =
    if nat_lt 255 (length c.arrays) then Some TooManyArrays
    else if list_any has_too_many c.arrays then Some TooManyUnits
    else if list_any has_long_unit c.arrays then Some UnitTooLong
    else None

-- the answer names it, and there is one exactly then, unless memory runs out
abbrev pub TellsUnheld : {A : Type 0} → Result A ConfigurationWriteError → Option ConfigurationWriteError → Type 0
TellsUnheld (Ok x) found = found ≡ None
TellsUnheld (Err TooManyArrays) found = found ≡ Some TooManyArrays
TellsUnheld (Err TooManyUnits) found = found ≡ Some TooManyUnits
TellsUnheld (Err UnitTooLong) found = found ≡ Some UnitTooLong
TellsUnheld (Err NoMemory) found = Unit {0}
