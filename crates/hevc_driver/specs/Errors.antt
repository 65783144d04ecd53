-- The names of errors: of a backend, of units and of the parts of a stream.
use Rattle.hevc_backend.specs.declared.error.BackendError as backend
use Rattle.hevc_backend.specs.declared.error.BackendError.TheVariants.{Failed, NoMemory}
use Rattle.hevc_bits.specs.declared.header.UnitError.{UnitError}
use Rattle.hevc_bits.specs.declared.header.UnitError.TheVariants.{NoNal, TruncatedNalu}
use Rattle.hevc_bits.specs.declared.header.UnitError.TheVariants.{InvalidNaluType, TemporalIdZero}
use Rattle.hevc_walk.specs.Meanings as meaning
use Rattle.hevc_walk.specs.Meanings.{UnitCause}
use Rattle.hevc_walk.specs.Refusals.{Cause, UnitRefused, NoIndependentSlice, ChangedMidPicture}
use Rattle.hevc_walk.specs.Refusals.{PocOutOfRange, DpbFull}
use Rattle.hevc_backend.specs.Negotiation.{info_of}
use Rattle.hevc_driver.specs.declared.decode_error.DecodeError.{DecodeError}
use Rattle.hevc_driver.specs.declared.decode_error.DecodeError.TheVariants as errors

abbrev pub backend_error : backend.BackendError → DecodeError
backend_error Failed = errors.Backend
backend_error NoMemory = errors.NoMemory

-- nuh_temporal_id_plus1 is row 1 of table 0
abbrev pub unit_error : UnitError → DecodeError
unit_error NoNal = errors.NoNal
unit_error TruncatedNalu = errors.TruncatedNalu
unit_error (InvalidNaluType number) = errors.InvalidNaluType number
unit_error TemporalIdZero = errors.OutOfRange 0 1

abbrev pub cause_error : UnitCause → DecodeError
cause_error meaning.TruncatedNalu = errors.TruncatedNalu
cause_error (meaning.InvalidNaluType nal_unit_type) = errors.InvalidNaluType nal_unit_type
cause_error meaning.OutOfBits = errors.OutOfBits
cause_error (meaning.OutOfRange table row) = errors.OutOfRange table row
cause_error (meaning.MissingPps pic_parameter_set_id) = errors.MissingPps pic_parameter_set_id

abbrev pub error_of : Cause → DecodeError
error_of (UnitRefused cause) = cause_error cause
error_of NoIndependentSlice = errors.NoIndependentSlice
error_of (ChangedMidPicture accepted named) =
    errors.ChangedMidPicture (info_of accepted) (info_of named)
error_of PocOutOfRange = errors.PocOutOfRange
error_of DpbFull = errors.DpbFull
