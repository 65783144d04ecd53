-- Payload bits that are ahead of a place in a word.
use Rattle.std.specs.Prelude.{◌≡◌, ℕ, zero, suc, ◌+◌, ◌-◌, ◌*◌, ◌/◌, ◌^◌, ◌<◌, ◌≤◌, Bool, true}
use Rattle.std.specs.Prelude.{false, List, [], length, Some, unwrap_or, ◌%◌, count_ones, min}
use Rattle.std.specs.Int.{bit_at}
use Rattle.hevc_spec.specs.Payload.{Place, bits, low_bits, loading, place_behind, IsAhead}
use Rattle.hevc_spec.specs.Payload.{IsReached}
use Rattle.hevc_spec.specs.Bits.{found, bits_after, ue_at}
use Rattle.hevc_bits.specs.declared.load.Loaded.{Loaded}
use Rattle.hevc_bits.specs.declared.word.Word.{Word}
use Rattle.hevc_bits.specs.declared.stream_limit.TheConstants.{STREAM_LIMIT}

-- the place after a payload byte, none of whose bits is read
abbrev pub loaded_place : Loaded → Place
loaded_place l = record {
  loaded = low_bits 8 l.byte;
  zero_run = l.zeros;
  behind = l.behind.now;
  dropped = l.dropped;
}

-- the place with the next payload byte loaded
unfoldable pub byte_on : Place → Place
byte_on p = unwrap_or (loading p.zero_run p.dropped p.behind) p

-- the place so many payload bytes on
unfoldable pub bytes_on : ℕ → Place → Place
bytes_on zero p = p
bytes_on (suc n) p = byte_on (bytes_on n p)

-- the place with so many low bits of a number loaded
abbrev pub loaded_with : ℕ → ℕ → Place → Place
loaded_with unread number p = record p { loaded = low_bits unread number }

-- where a word is with so many unread bits, of which so many whole bytes aren't reached
abbrev pub place_in : ℕ → ℕ → ℕ → ℕ → Place → Place
place_in left ahead filled cache base =
    loaded_with (left - 8 * ahead) (cache / 2 ^ (8 * ahead)) (bytes_on (filled - ahead) base)

abbrev pub base_of : Word → Place
base_of w = record { loaded = []; zero_run = 0; behind = w.bytes.now; dropped = w.before }

-- the place after all bytes in a word
abbrev pub end_of : Word → Place
end_of w = record { loaded = []; zero_run = w.zeros; behind = w.rest.now; dropped = w.dropped }

-- how many bytes of a word aren't reached yet
abbrev pub ahead : Word → ℕ
ahead w = min w.most_ahead (w.left / 8)

-- where a word is: at the byte that holds the next bit or that is read up,
-- whatever bytes it holds after that
abbrev pub place_of : Word → Place
place_of w = place_in w.left (ahead w) w.filled w.cache (base_of w)

-- The next payload byte has these bits, and a mark tells whether a 03 is dropped before it.
pub record IsNextByte (byte : List Bool) (mark : ℕ) (old new : Place) : Type 0 where
  pub loads : loading old.zero_run old.dropped old.behind ≡ Some new
  pub loaded : new.loaded ≡ byte
  pub dropped : new.dropped ≡ old.dropped + mark
  pub shorter : length old.behind ≡ length new.behind + 1 + mark

pub record IsSameBut (old new : Place) : Type 0 where
  pub zero_run : new.zero_run ≡ old.zero_run
  pub behind : new.behind ≡ old.behind
  pub dropped : new.dropped ≡ old.dropped

-- The low bytes of a word, so many, are the payload bytes from one place up to another.
unfoldable pub Holds : ℕ → ℕ → ℕ → Place → Place → Type 0
Holds zero cache marks p end = IsSameBut p end
Holds (suc n) cache marks p end =
    IsNextByte (low_bits 8 (cache / 2 ^ (8 * n))) (bit_at marks n) p (byte_on p)
    × Holds n cache marks (byte_on p) end

-- what every word keeps
pub record IsFilled (w : Word) : Type 0 where
  pub whole : w.left ≤ 8 * ahead w + 8
  pub fits : w.left ≤ 63
  pub among : w.most_ahead ≤ w.filled
  pub zeros : w.zeros ≤ 2
  pub part : w.filled + length w.rest.now ≤ length w.bytes.now
  pub short : length w.bytes.now < STREAM_LIMIT
  pub few : w.dropped + length w.rest.now < STREAM_LIMIT
  pub holds : Holds (ahead w) w.cache w.marks (bytes_on (w.filled - ahead w) (base_of w)) (end_of w)

-- The word is where it was, with bits put in: so many, unless the payload has fewer.
pub record Fills (num_bits : ℕ) (enough : Bool) (old new : Word) : Type 0 where
  pub filled : IsFilled new
  pub same : place_of new ≡ place_of old
  pub held : enough ≡ true → num_bits ≤ new.left
  pub ends : enough ≡ false → length (bits (place_of old)) < num_bits

-- The word is so many bits on, which spell the value after any number.
pub record Takes (num_bits value : ℕ) (old new : Word) : Type 0 where
  pub filled : IsFilled new
  pub passes : place_behind num_bits (place_of old) ≡ Some (place_of new)
  pub spells : (front : ℕ)
      → bits_after front num_bits (bits (place_of old))
      ≡ found (front * 2 ^ num_bits + value) (bits (place_of new))

-- The word is after an Exp-Golomb number of the value.
pub record TakesGolomb (value : ℕ) (old new : Word) : Type 0 where
  pub filled : IsFilled new
  pub ahead : IsAhead (place_of old) (place_of new)
  pub reached : IsReached (place_of old) (place_of new)
  pub finds : ue_at (bits (place_of old)) ≡ found value (bits (place_of new))

-- how many 03 were dropped before bytes of a word that aren't reached
abbrev pub marked : Word → ℕ
marked w = count_ones (w.marks % 2 ^ ahead w)
