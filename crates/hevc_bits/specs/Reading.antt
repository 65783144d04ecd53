-- What a read answered, and where it left the reader.
use Rattle.std.specs.Prelude.{◌≡◌, ℕ, ◌<◌, ◌≤◌, [], ◌∷◌, length, Bool, true, false, Result, Ok, Err}
use Rattle.std.specs.Prelude.{Option, Some, None, ℤ}
use Rattle.hevc_spec.specs.Payload.{Place, bits, with_bits, has_more, PassesBytes, IsAhead}
use Rattle.hevc_spec.specs.Payload.{IsReached}
use Rattle.hevc_spec.specs.Bits.{Found, found, out_of_bounds, ended, bits_after, less_one, signed}
use Rattle.hevc_bits.specs.declared.bit_error.BitError.{BitError}
use Rattle.hevc_bits.specs.declared.bit_error.BitError.TheVariants.{OutOfBits, OutOfRange}

-- The result is the next bit, and the reader is after it.
-- Where there is none it stays as it was.
abbrev pub TakesBit : Result Bool BitError → Place → Place → Type 0
TakesBit (Ok b) old new = bits old ≡ b ∷ bits new
TakesBit (Err OutOfBits) old new = (bits old ≡ []) × (new ≡ old)
TakesBit (Err OutOfRange) old new = ⊥

-- The result is what was found, and the reader is after it;
-- on a refusal the reader hasn't moved.
abbrev pub Finds : {X : Type 0} → (X → ℕ) → Result X BitError → Place → Place → Found → Type 0
Finds value (Ok x) old new f = f ≡ found (value x) (bits new)
Finds value (Err OutOfBits) old new f = (f ≡ ended) × (new ≡ old)
Finds value (Err OutOfRange) old new f = (f ≡ out_of_bounds) × (new ≡ old)

-- The same of a signed number, which table 9-3 gives for what was found.
abbrev pub FindsSigned : Result ℤ BitError → Place → Place → Found → Type 0
FindsSigned (Ok x) old new f = (n : ℕ) × (f ≡ found n (bits new)) × (signed n ≡ x)
FindsSigned (Err OutOfBits) old new f = (f ≡ ended) × (new ≡ old)
FindsSigned (Err OutOfRange) old new f = (f ≡ out_of_bounds) × (new ≡ old)

-- A number was found, and the reader is after it; or none was looked for,
-- and the reader is where it was.
abbrev pub MayFind : Option ℕ → Place → Place → Found → Type 0
MayFind (Some n) old new f = (f ≡ found n (bits new)) × IsAhead old new × IsReached old new
MayFind None old new f = new ≡ old

-- A number was found, and another reader is after it; or none was looked for.
abbrev pub IsHeld : Option (ℕ × Place) → Place → Found → Type 0
IsHeld (Some held) old f =
    (f ≡ found held.0 (bits held.1)) × IsAhead old held.1 × IsReached old held.1
IsHeld None old f = Unit {0}

-- The answer to whether there is more, by the place with a byte loaded: where there is more the
-- reader is there, and where not, after all bytes.
abbrev pub LooksForMore : Bool → Place → Place → Option Place → Type 0
LooksForMore more old new None = (more ≡ false) × (new ≡ old)
LooksForMore true old new (Some p) = (has_more p ≡ true) × (new ≡ p)
LooksForMore false old new (Some p) = (has_more p ≡ false) × PassesBytes p new

-- The place with a byte loaded, if there is one to load.
abbrev pub LoadsByte : Bool → Place → Place → Type 0
LoadsByte true old new = (with_bits old ≡ Some new) × (0 < length new.loaded)
LoadsByte false old new = (with_bits old ≡ None) × (new ≡ old)

-- The zeros of an Exp-Golomb number and its first one are passed;
-- the number is spelled by the one and as many bits.
abbrev pub PassesZeros : Result ℕ BitError → Place → Place → Found → Type 0
PassesZeros (Ok zeros) old new f = (zeros ≤ 31) × (f ≡ less_one (bits_after 1 zeros (bits new)))
PassesZeros (Err OutOfBits) old new f = (f ≡ ended) × (new ≡ old)
PassesZeros (Err OutOfRange) old new f = (f ≡ out_of_bounds) × (new ≡ old)
