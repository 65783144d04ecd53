-- The units of a sample, one after another.
use Rattle.std.specs.Prelude.{◌≡◌, ◌≢◌, ℕ, List, [], Option, Some, None, Result, Ok, Err}
use Rattle.std.specs.Borrow.{Bor}
use Rattle.hevc_samples.specs.declared.error.SampleError.{SampleError}
use Rattle.hevc_samples.specs.Left.{LeftOfSample}
use Rattle.hevc_samples.specs.Units.{unit_at}

-- none is left only where no byte is; after an error no byte is left
abbrev pub GivesUnit : LeftOfSample → Option (Result (Bor (List ℕ)) SampleError) → LeftOfSample → Type 0
GivesUnit old None new = (old.rest ≡ []) × (new.rest ≡ [])
GivesUnit old (Some (Ok unit)) new =
    (unit_at old.length_size old.rest ≡ Ok (unit.now, new.rest))
    × (new.length_size ≡ old.length_size)
GivesUnit old (Some (Err e)) new =
    (old.rest ≢ []) × (unit_at old.length_size old.rest ≡ Err e) × (new.rest ≡ [])
