-- Units after their lengths (ISO/IEC 14496-15, 4.3.3).
use Rattle.std.specs.Prelude.{◌≡◌, ℕ, List, length, take, drop, slice_index, Result, Ok, Err, nat_lt, ◌==◌}
use Rattle.std.specs.Prelude.{if◌then◌else◌}
use Rattle.std.specs.Int.{w16, w32, from_be_bytes}
use Rattle.hevc_configuration.specs.declared.length_size.LengthSize.{LengthSize}
use Rattle.hevc_configuration.specs.declared.length_size.LengthSize.TheVariants.{One, Two, Four}
use Rattle.hevc_configuration.specs.LengthSizes.{byte_count}
use Rattle.hevc_samples.specs.declared.error.SampleError.{SampleError}
use Rattle.hevc_samples.specs.declared.error.SampleError.TheVariants.{LengthCut, EmptyUnit, UnitBeyondSample}

-- the length that bytes begin with, the highest byte first
abbrev pub length_at : LengthSize → List ℕ → ℕ
length_at One bytes = slice_index bytes 0
length_at Two bytes = from_be_bytes w16 bytes
length_at Four bytes = from_be_bytes w32 bytes

-- so many bytes, and those after them
abbrev pub cut_at : ℕ → List ℕ → Result (List ℕ × List ℕ) SampleError
cut_at size bytes =
    if size == 0 then Err EmptyUnit
    else if nat_lt (length bytes) size then Err UnitBeyondSample
    else Ok (take size bytes, drop size bytes)

-- the unit that bytes begin with, and the bytes after it
abbrev pub unit_at : LengthSize → List ℕ → Result (List ℕ × List ℕ) SampleError
unit_at length_size bytes =
    if nat_lt (length bytes) (byte_count length_size) then Err LengthCut
    else cut_at (length_at length_size bytes) (drop (byte_count length_size) bytes)

-- what was returned, seen by view, is this
abbrev pub SeenAs : {X Y : Type 0} → (X → Y) → Result X SampleError → Result Y SampleError → Type 0
SeenAs view (Ok x) given = given ≡ Ok (view x)
SeenAs view (Err e) given = given ≡ Err e
