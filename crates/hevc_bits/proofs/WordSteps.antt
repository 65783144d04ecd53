-- A word that moves over its bits.
use Rattle.std.proofs.Common.{◌≡◌, ℕ, zero, suc, ◌+◌, ◌-◌, ◌*◌, ◌/◌, ◌^◌, ◌<◌, ◌≤◌, ◌⊎◌, inl, inr}
use Rattle.std.proofs.Common.{Bool, List, length, Some, refl, ap, subst, ◌∙◌, arith}
use Rattle.std.specs.Prelude.{min, option_and_then}
use Rattle.std.specs.Int.{bit_at}
use Rattle.std.proofs.lemmas.Bool.{cases_lt}
use Rattle.hevc_spec.specs.Payload.{Place, low_bits, loading, with_bits, next_place, place_behind}
use Rattle.hevc_spec.proofs.PlaceLaws.{low_bits_length}
use Rattle.hevc_bits.specs.Cached.{byte_on, bytes_on, loaded_with, place_in, IsNextByte, IsSameBut, Holds}

pub bytes_on-suc : (n : ℕ) (p : Place) → bytes_on (suc n) p ≡ byte_on (bytes_on n p)
unfolding bytes_on
bytes_on-suc n p = refl

pub bytes_on-zero : (p : Place) → bytes_on 0 p ≡ p
unfolding bytes_on
bytes_on-zero p = refl

pub byte_on-loads : (p q : Place) → loading p.zero_run p.dropped p.behind ≡ Some q → byte_on p ≡ q
unfolding byte_on
byte_on-loads p q e = rw e refl

pub holds_none : (c marks : ℕ) (p end : Place) → IsSameBut p end → Holds 0 c marks p end
unfolding Holds
holds_none c marks p end same = same

pub holds_ends : (c marks : ℕ) (p end : Place) → Holds 0 c marks p end → IsSameBut p end
unfolding Holds
holds_ends c marks p end h = h

pub holds_first : (n c marks : ℕ) (p end : Place) → Holds (suc n) c marks p end
    → IsNextByte (low_bits 8 (c / 2 ^ (8 * n))) (bit_at marks n) p (byte_on p)
unfolding Holds
holds_first n c marks p end h = h.0

pub holds_others : (n c marks : ℕ) (p end : Place) → Holds (suc n) c marks p end → Holds n c marks (byte_on p) end
unfolding Holds
holds_others n c marks p end h = h.1

pub holds_more : (n c marks : ℕ) (p end : Place)
    → IsNextByte (low_bits 8 (c / 2 ^ (8 * n))) (bit_at marks n) p (byte_on p) → Holds n c marks (byte_on p) end
    → Holds (suc n) c marks p end
unfolding Holds
holds_more n c marks p end first others = (first, others)

-- where so many bits are left of a word, of which so many bytes aren't reached
pub record Stands (left ahead filled c marks : ℕ) (base end : Place) : Type 0 where
  pub unread : 8 * ahead ≤ left
  pub whole : left ≤ 8 * ahead + 8
  pub among : ahead ≤ filled
  pub holds : Holds ahead c marks (bytes_on (filled - ahead) base) end

-- one bit of the byte that is reached
stay : (unread n : ℕ) (p : Place) → next_place (loaded_with (suc unread) n p) ≡ Some (loaded_with unread n p)
stay unread n p = refl

-- the first bit of the next byte
cross : (m n mark : ℕ) (p q : Place) → IsNextByte (low_bits 8 n) mark p q
    → next_place (loaded_with 0 m p) ≡ Some (loaded_with 7 n q)
cross m n mark p q next = rw (next.loads, next.loaded) refl

record Steps (from to left ahead filled c marks : ℕ) (base end : Place) : Type 0 where
  pub moves : next_place (place_in from ahead filled c base) ≡ Some (place_in left to filled c base)
  pub stands : Stands left to filled c marks base end

step : (left ahead filled c marks : ℕ) (base end : Place) → Stands (suc left) ahead filled c marks base end
    → Steps (suc left) (min ahead (left / 8)) left ahead filled c marks base end
step left ahead filled c marks base end s = by_order (cases_lt (8 * ahead) (suc left))
  where
    by_ahead : (a : ℕ) → ahead ≡ a → suc left ≤ 8 * ahead
        → Steps (suc left) (min ahead (left / 8)) left ahead filled c marks base end
    by_ahead zero is le = absurd (omega arith)
    by_ahead (suc a) is le =
        let here = bytes_on (filled - ahead) base in
        let holds : Holds (suc a) c marks here end = subst (λ (x : ℕ). Holds x c marks here end) is s.holds in
        let first = holds_first a c marks here end holds in
        let crossed : min ahead (left / 8) ≡ a = omega (arith, s.unread) in
        let none : suc left - 8 * ahead ≡ 0 = omega arith in
        let seven : left - 8 * a ≡ 7 = omega (arith, s.unread) in
        let one_on : filled - a ≡ suc (filled - ahead) = omega (arith, s.among) in
        let there : bytes_on (filled - a) base ≡ byte_on here = rw one_on (bytes_on-suc (filled - ahead) base) in
        rw crossed (record {
          moves = rw (none, seven, there)
              (cross (c / 2 ^ (8 * ahead)) (c / 2 ^ (8 * a)) (bit_at marks a) here (byte_on here) first);
          stands = record {
            unread = omega (arith, s.unread);
            whole = omega (arith, s.unread);
            among = omega (arith, s.among);
            holds = rw there (holds_others a c marks here end holds);
          };
        })

    by_order : (8 * ahead < suc left) ⊎ (suc left ≤ 8 * ahead)
        → Steps (suc left) (min ahead (left / 8)) left ahead filled c marks base end
    by_order (inl lt) =
        let stays : min ahead (left / 8) ≡ ahead = omega arith in
        let more : suc left - 8 * ahead ≡ suc (left - 8 * ahead) = omega arith in
        rw stays (record {
          moves = rw more (stay (left - 8 * ahead) (c / 2 ^ (8 * ahead)) (bytes_on (filled - ahead) base));
          stands = record { unread = omega arith; whole = omega (arith, s.whole); among = s.among; holds = s.holds };
        })
    by_order (inr le) = by_ahead ahead refl le

-- a word passes bits
pub record Passes (num left ahead filled c marks : ℕ) (base end : Place) : Type 0 where
  pub moves : place_behind num (place_in left ahead filled c base) ≡ Some
      (place_in (left - num) (min ahead ((left - num) / 8)) filled c base)
  pub stands : Stands (left - num) (min ahead ((left - num) / 8)) filled c marks base end

pub passes : (num left ahead filled c marks : ℕ) (base end : Place) → num ≤ left
    → Stands left ahead filled c marks base end → Passes num left ahead filled c marks base end
passes zero left ahead filled c marks base end le s =
    let k : left - 0 ≡ left = omega arith in
    let stays : min ahead (left / 8) ≡ ahead = omega (arith, s.unread) in
    record { moves = rw (k, stays) refl; stands = rw (k, stays) s }
passes (suc num) zero ahead filled c marks base end le s = absurd (omega arith)
passes (suc num) (suc left) ahead filled c marks base end le s =
    let one = step left ahead filled c marks base end s in
    let a = min ahead (left / 8) in
    let rest = passes num left a filled c marks base end (omega arith) one.stands in
    let k : suc left - suc num ≡ left - num = omega arith in
    let least : min a ((left - num) / 8) ≡ min ahead ((left - num) / 8) = omega arith in
    record {
      moves = rw (k, ← least) (ap (option_and_then (place_behind num)) one.moves ∙ rest.moves);
      stands = rw (k, ← least) rest.stands;
    }

-- ---- the next byte

-- a word whose bits of the byte that is reached are read up reaches the next one
pub loads : (left ahead filled c marks : ℕ) (base end : Place) → left ≡ 8 * suc ahead
    → Stands left (suc ahead) filled c marks base end
    → (with_bits (place_in left (suc ahead) filled c base) ≡ Some (place_in left ahead filled c base))
    × Stands left ahead filled c marks base end
loads left ahead filled c marks base end read_up s =
    let here = bytes_on (filled - suc ahead) base in
    let first = holds_first ahead c marks here end s.holds in
    let none : left - 8 * suc ahead ≡ 0 = omega arith in
    let eight : left - 8 * ahead ≡ 8 = omega arith in
    let one_on : filled - ahead ≡ suc (filled - suc ahead) = omega (arith, s.among) in
    let there : bytes_on (filled - ahead) base ≡ byte_on here = rw one_on (bytes_on-suc (filled - suc ahead) base) in
    let same : byte_on here ≡ loaded_with 8 (c / 2 ^ (8 * ahead)) (byte_on here) =
    ap (λ (l : List Bool). record (byte_on here) { loaded = l }) first.loaded in (
      rw (none, eight, there) (first.loads ∙ ap Some same),
      record {
        unread = omega arith;
        whole = omega arith;
        among = omega (arith, s.among);
        holds = rw there (holds_others ahead c marks here end s.holds);
      },
    )

pub some_loaded : (unread n : ℕ) (p : Place) → 0 < unread
    → (with_bits (loaded_with unread n p) ≡ Some (loaded_with unread n p)) × (0 < length (low_bits unread n))
some_loaded zero n p some = absurd (omega arith)
some_loaded (suc unread) n p some = (refl, omega (arith, low_bits_length (suc unread) n))
