-- The statuses of the program.
use Rattle.std.specs.Prelude.{◌≡◌, ℕ, ◌⊎◌, Result, Ok, Err}
use Rattle.hevc_decoder.specs.declared.decoded.Refused.{Refused}
use Rattle.hevc_decoder.specs.Answers.{IsNoMemory}

-- 0 where the stream was decoded, 1 where it was refused
abbrev pub status_of : Result ℕ Refused → ℕ
status_of (Ok pictures) = 0
status_of (Err refused) = 1

-- 0, 1 or 5
abbrev pub IsDone : ℕ → Type 0
IsDone status = (status ≡ 0) ⊎ (status ≡ 1) ⊎ (status ≡ 5)

-- 0, 1, 4 or 5
abbrev pub IsMade : ℕ → Type 0
IsMade status = (status ≡ 0) ⊎ (status ≡ 1) ⊎ (status ≡ 4) ⊎ (status ≡ 5)

-- the decoding ended since an allocation failed
abbrev pub WantsMemory : Result ℕ Refused → Type 0
WantsMemory (Ok pictures) = ⊥
WantsMemory (Err refused) = IsNoMemory refused.error
