-- Where a window of a byte stream is cut (B.2).
use Rattle.std.specs.Prelude.{◌≡◌, ℕ, ◌+◌, ◌-◌, ◌≤◌, ◌⊎◌, max, List, length, if◌then◌else◌}
use Rattle.hevc_bits.specs.StartCode.{StandsAt, NoneStands}
use Rattle.hevc_spec.specs.Units.{begins_with_start_code}

-- of the start codes that end after the bytes that were seen the last one is there, or none
-- does after place 0, and it is 0
abbrev pub IsLastStart : List ℕ → (seen found : ℕ) → Type 0
IsLastStart bytes seen found =
    ((found ≡ 0) ⊎ (seen ≤ found + 2) × StandsAt bytes found)
    × NoneStands bytes (max (found + 1) (seen - 2)) (length bytes)

-- the bytes before the first start code, which may begin in the last two (B.2.2,
-- leading_zero_8bits), of bytes that have a start code at their front alone, if any
abbrev pub lead_length : List ℕ → ℕ
lead_length bytes = if begins_with_start_code bytes then 0 else length bytes - 2
