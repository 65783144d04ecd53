-- The payload bits of the bytes after a unit's header (7.3.1.1).
use Rattle.std.specs.Prelude.{◌≡◌, ℕ, zero, suc, ◌+◌, ◌-◌, ◌*◌, ◌≤◌, min, Bool, true, false, not}
use Rattle.std.specs.Prelude.{◌&&◌, ◌||◌, ◌==◌, if◌then◌else◌, List, [], ◌∷◌, ◌++◌, length, drop}
use Rattle.std.specs.Prelude.{Option, Some, None, option_map, option_and_then}
use Rattle.std.specs.Int.{bit_at}
use Rattle.std.specs.List.{list_any}

-- how many zero bytes are directly before the next byte, counted up to 2
abbrev pub run_behind : ℕ → ℕ → ℕ
run_behind run byte = if byte == 0 then min (run + 1) 2 else 0

-- The payload bytes: each 03 that comes directly after two zero bytes
-- (emulation_prevention_three_byte) is dropped, and the count of zeros begins anew after it.
abbrev pub payload_after : ℕ → List ℕ → List ℕ
payload_after run [] = []
payload_after run (byte ∷ bytes) =
    if run == 2 && byte == 3 then payload_after 0 bytes
    else byte ∷ payload_after (run_behind run byte) bytes

-- the low n bits of a byte, the most significant first
abbrev pub low_bits : ℕ → ℕ → List Bool
low_bits zero byte = []
low_bits (suc n) byte = (bit_at byte n == 1) ∷ low_bits n byte

abbrev pub bits_of : List ℕ → List Bool
bits_of [] = []
bits_of (byte ∷ bytes) = low_bits 8 byte ++ bits_of bytes

-- the payload bits of bytes that come after a run of zeros
unfoldable pub payload_bits : ℕ → List ℕ → List Bool
payload_bits run bytes = bits_of (payload_after run bytes)

-- the payload of a unit: the bits after its two header bytes
abbrev pub payload : List ℕ → List Bool
payload bytes = payload_bits 0 (drop 2 bytes)

-- Where a reader is: the unread bits of the byte that it has loaded, the zero bytes directly
-- before the next one, the bytes after it, and how many 03 bytes were dropped.
pub record Place : Type 0 where
  pub loaded : List Bool
  pub zero_run : ℕ
  pub behind : List ℕ
  pub dropped : ℕ

-- the payload bits that are left
unfoldable pub bits : Place → List Bool
bits p = p.loaded ++ payload_bits p.zero_run p.behind

-- num_bits_left: eight bits for each byte after the loaded one, a 03 that isn't passed yet among
-- them, and the unread bits of that one
unfoldable pub bits_left : Place → ℕ
bits_left p = length p.loaded + 8 * length p.behind

-- the place before the first payload bit of bytes
abbrev pub first_place : List ℕ → Place
first_place bytes = record { loaded = []; zero_run = 0; behind = bytes; dropped = 0 }

-- the place with the next payload byte of bytes after a run of zeros loaded, if there is one
abbrev pub loading : ℕ → ℕ → List ℕ → Option Place
loading run dropped [] = None
loading run dropped (byte ∷ bytes) =
    if run == 2 && byte == 3 then loading 0 (dropped + 1) bytes
    else Some (record {
      loaded = low_bits 8 byte;
      zero_run = run_behind run byte;
      behind = bytes;
      dropped = dropped;
    })

abbrev pub no_bits : List Bool → Bool
no_bits [] = true
no_bits (_ ∷ _) = false

-- the place with a byte loaded of which a bit is unread
abbrev pub with_bits : Place → Option Place
with_bits p = if no_bits p.loaded then loading p.zero_run p.dropped p.behind else Some p

abbrev pub one_bit_on : Place → Place
one_bit_on p = record p { loaded = drop 1 p.loaded }

-- the place one payload bit further on, if a bit is left
abbrev pub next_place : Place → Option Place
next_place p = option_map one_bit_on (with_bits p)

-- the place so many payload bits further on, if so many are left
abbrev pub place_behind : ℕ → Place → Option Place
place_behind zero p = Some p
place_behind (suc n) p = option_and_then (place_behind n) (next_place p)

-- The second place is the one that the payload bits lead to which it has fewer: a 03 is dropped as
-- the byte after it is loaded, and a byte as its first bit is read.
pub record IsReached (old new : Place) : Type 0 where
  pub place : place_behind (length (bits old) - length (bits new)) old ≡ Some new
  pub fewer : length (bits new) ≤ length (bits old)

-- the same, as a word that stays shut
unfoldable pub LeadsTo : Place → Place → Type 0
LeadsTo old new = IsReached old new

-- What leads to the first place leads to the second, so the first itself does. The bits left fall
-- by the payload bits between them, and by eight for each 03 that was dropped.
pub record IsAhead (old new : Place) : Type 0 where
  pub moved : bits_left old + 8 * old.dropped + length (bits new)
      ≡ bits_left new + 8 * new.dropped + length (bits old)
  pub fewer : length (bits new) ≤ length (bits old)
  pub onward : (p : Place) → LeadsTo p old → LeadsTo p new

-- more_rbsp_data (7.2): the next bit isn't the stop bit, since a one comes after it in its byte,
-- or a byte that isn't 0 after that
abbrev pub has_more : Place → Bool
has_more p = list_any (λ b. b) (drop 1 p.loaded) || list_any (λ byte. not (byte == 0)) p.behind

-- the second place comes after all bytes of the first, with the same bits loaded
pub record PassesBytes (old new : Place) : Type 0 where
  pub loaded : new.loaded ≡ old.loaded
  pub behind : new.behind ≡ []
  pub dropped : new.dropped ≡ old.dropped
