-- Units as they are written in a byte stream (7.3.1.1, 7.4.2, Annex B).
use Rattle.std.specs.Prelude.{◌≡◌, ℕ, ◌+◌, Bool, true, not, ◌&&◌, ◌==◌, nat_le, List, [], ◌∷◌, ◌++◌}
use Rattle.std.specs.Prelude.{length, if◌then◌else◌}
use Rattle.hevc_spec.specs.Payload.{run_behind}
use Rattle.hevc_spec.specs.Units.{NalUnit, kept_bytes}

-- Payload bytes that come after a run of zeros, with emulation_prevention_three_byte (7.4.2): a
-- 03 before each byte of at most 3 that would come directly after two zero bytes.
abbrev pub escaped_after : ℕ → List ℕ → List ℕ
escaped_after run [] = []
escaped_after run (byte ∷ bytes) =
    if run == 2 && nat_le byte 3 then 3 ∷ byte ∷ escaped_after (run_behind 0 byte) bytes
    else byte ∷ escaped_after (run_behind run byte) bytes

-- the bytes of a unit after its header, of these payload bytes
abbrev pub escaped : List ℕ → List ℕ
escaped payload = escaped_after 0 payload

-- a unit after its start code (B.2.1)
abbrev pub started : List ℕ → List ℕ
started unit = 0 ∷ 0 ∷ 1 ∷ unit

-- units one after another, each after its start code
abbrev pub stream_of : List (List ℕ) → List ℕ
stream_of [] = []
stream_of (unit ∷ units) = started unit ++ stream_of units

-- the units of such a stream, from a place of it on
abbrev pub placed : ℕ → List (List ℕ) → List NalUnit
placed place [] = []
placed place (unit ∷ units) =
    record { offset = place + 3; bytes = unit } ∷ placed (place + 3 + length unit) units

-- None of 00 00 00, 00 00 01 and 00 00 02 is in bytes that come after a run of zeros, and
-- they don't end in 00 (7.4.2).
abbrev pub stays_whole : ℕ → List ℕ → Bool
stays_whole run [] = run == 0
stays_whole run (byte ∷ bytes) =
    not (run == 2 && nat_le byte 2) && stays_whole (run_behind run byte) bytes

-- the bytes of a unit that is found as it was written
pub record IsUnit (bytes : List ℕ) : Type 0 where
  pub whole : stays_whole 0 bytes ≡ true
  pub kept : kept_bytes bytes ≡ bytes
