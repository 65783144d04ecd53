-- The statuses of answers, and what goes with them.
use Rattle.std.specs.Prelude.{ℕ, Result, Ok, Err}
use Rattle.hevc_driver.specs.declared.decode_error.DecodeError.{DecodeError}
use Rattle.hevc_driver.specs.declared.decode_error.DecodeError.TheVariants.{NoNal, TruncatedNalu}
use Rattle.hevc_driver.specs.declared.decode_error.DecodeError.TheVariants.{InvalidNaluType}
use Rattle.hevc_driver.specs.declared.decode_error.DecodeError.TheVariants.{OutOfBits, OutOfRange}
use Rattle.hevc_driver.specs.declared.decode_error.DecodeError.TheVariants.{MissingPps}
use Rattle.hevc_driver.specs.declared.decode_error.DecodeError.TheVariants.{NoIndependentSlice}
use Rattle.hevc_driver.specs.declared.decode_error.DecodeError.TheVariants.{ChangedMidPicture}
use Rattle.hevc_driver.specs.declared.decode_error.DecodeError.TheVariants.{PocOutOfRange, DpbFull}
use Rattle.hevc_driver.specs.declared.decode_error.DecodeError.TheVariants.{NotEnoughOutputBuffers}
use Rattle.hevc_driver.specs.declared.decode_error.DecodeError.TheVariants.{CheckEvents}
use Rattle.hevc_driver.specs.declared.decode_error.DecodeError.TheVariants.{PictureNumbersSpent}
use Rattle.hevc_driver.specs.declared.decode_error.DecodeError.TheVariants.{Backend, NoMemory}

-- each error has a status of its own
abbrev pub status_of : DecodeError → ℕ
status_of NoNal = 1
status_of CheckEvents = 2
status_of (NotEnoughOutputBuffers wanted) = 3
status_of NoMemory = 4
status_of TruncatedNalu = 5
status_of (InvalidNaluType number) = 6
status_of OutOfBits = 7
status_of (OutOfRange table row) = 8
status_of (MissingPps id) = 9
status_of NoIndependentSlice = 10
status_of (ChangedMidPicture accepted named) = 11
status_of PocOutOfRange = 12
status_of DpbFull = 13
status_of PictureNumbersSpent = 14
status_of Backend = 15

abbrev pub status_in : {T : Type 0} → Result T DecodeError → ℕ
status_in (Ok value) = 0
status_in (Err error) = status_of error

-- the table and the row of an element that is out of range
abbrev pub table_of : DecodeError → ℕ
table_of (OutOfRange table row) = table
table_of error = 0

-- or else the number that an error tells of
abbrev pub row_of : DecodeError → ℕ
row_of (OutOfRange table row) = row
row_of (InvalidNaluType number) = number
row_of (MissingPps id) = id
row_of error = 0
