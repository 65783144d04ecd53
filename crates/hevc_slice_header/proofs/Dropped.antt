-- How many 03 bytes are dropped.
use Rattle.std.proofs.Common.{◌≡◌, ℕ, zero, suc, ◌+◌, ◌-◌, ◌≤◌, Bool, true, false, List, [], ◌∷◌}
use Rattle.std.proofs.Common.{length, Option, Some, None, refl, ap, subst, arith}
use Rattle.hevc_records.specs.SliceHeader.{PlainSliceSegmentHeader}
use Rattle.hevc_tables.specs.SliceHeaderTable.{emulation_prevention_bytes, with_sizes}
use Rattle.std.specs.Prelude.{◌==◌, ◌&&◌, if◌then◌else◌, option_map, option_and_then}
use Rattle.hevc_spec.specs.Payload.{Place, run_behind, low_bits, loading, no_bits, with_bits}
use Rattle.hevc_spec.specs.Payload.{one_bit_on, next_place, place_behind, first_place, bits}
use Rattle.hevc_spec.specs.Payload.{IsReached}

-- after a byte that isn't dropped, the next one is loaded
loads_next : (dropped : ℕ) (bytes : List ℕ) (q : Place) → loading 0 dropped bytes ≡ Some q → q.dropped ≡ dropped
loads_next dropped [] q e = absurd cc
loads_next dropped (byte ∷ bytes) q e = let same : record {
  loaded = low_bits 8 byte;
  zero_run = run_behind 0 byte;
  behind = bytes;
  dropped = dropped;
} ≡ q = cc in rw (← same) refl

module _ (run dropped : ℕ) (byte : ℕ) (bytes : List ℕ) (q : Place) where
  loads_one : (b : Bool) → (run == 2 && byte == 3) ≡ b
      → (if b then loading 0 (dropped + 1) bytes else Some (record {
        loaded = low_bits 8 byte;
        zero_run = run_behind run byte;
        behind = bytes;
        dropped = dropped;
      })) ≡ Some q → q.dropped ≤ dropped + 1
  loads_one true t e = grind (arith, loads_next (dropped + 1) bytes q e)
  loads_one false t e = let same : record {
    loaded = low_bits 8 byte;
    zero_run = run_behind run byte;
    behind = bytes;
    dropped = dropped;
  } ≡ q = cc in rw (← same) (grind arith)

loads : (run dropped : ℕ) (bytes : List ℕ) (q : Place) → loading run dropped bytes ≡ Some q → q.dropped ≤ dropped + 1
loads run dropped [] q e = absurd cc
loads run dropped (byte ∷ bytes) q e = loads_one run dropped byte bytes q (run == 2 && byte == 3) refl e

has_bits : (p q : Place) (b : Bool) → no_bits p.loaded ≡ b
    → (if b then loading p.zero_run p.dropped p.behind else Some p) ≡ Some q → q.dropped ≤ p.dropped + 1
has_bits p q true t e = loads p.zero_run p.dropped p.behind q e
has_bits p q false t e = let same : p ≡ q = cc in rw (← same) (grind arith)

one_on : (p q : Place) (m : Option Place) → with_bits p ≡ m → option_map one_bit_on m ≡ Some q
    → q.dropped ≤ p.dropped + 1
one_on p q None w e = absurd cc
one_on p q (Some l) w e =
    let same : one_bit_on l ≡ q = cc in
    let few : l.dropped ≤ p.dropped + 1 = has_bits p l (no_bits p.loaded) refl w in
    rw (← same) few

behind_next : (n : ℕ) (p q : Place) (m : Option Place) (each : (l : Place) → place_behind n l ≡ Some q
    → q.dropped ≤ l.dropped + n) → next_place p ≡ m → option_and_then (place_behind n) m ≡ Some q
    → q.dropped ≤ p.dropped + suc n
behind_next n p q None each w e = absurd cc
behind_next n p q (Some l) each w e = grind (arith, one_on p l (with_bits p) refl w, each l e)

-- not more than bits are passed
few_dropped : (n : ℕ) (p q : Place) → place_behind n p ≡ Some q → q.dropped ≤ p.dropped + n
few_dropped zero p q e = let same : p ≡ q = cc in rw (← same) (grind arith)
few_dropped (suc n) p q e = behind_next n p q (next_place p) (λ l. few_dropped n l q) refl e

counted : (bytes : List ℕ) (n : ℕ) (p q : Place) → p ≡ first_place bytes → place_behind n p ≡ Some q
    → emulation_prevention_bytes bytes n ≡ q.dropped
unfolding emulation_prevention_bytes
counted bytes n p q first e = let at : place_behind n (first_place bytes) ≡ Some q =
    subst (λ (x : Place). place_behind n x ≡ Some q) first e in rw at refl

-- What a reader has dropped since the first place is what the table counts, and no more than the bits that it has passed.
module _ (bytes : List ℕ) (p q : Place) (first : p ≡ first_place bytes) (reached : IsReached p q) where
  pub few_between : q.dropped ≤ length (bits p) - length (bits q)
  few_between =
      let few = few_dropped (length (bits p) - length (bits q)) p q reached.place in
      let none : p.dropped ≡ 0 = rw first refl in
      grind (arith, few, none)

  pub sized : (h : PlainSliceSegmentHeader) → with_sizes bytes h (length (bits p) - length (bits q))
      ≡ record h {
        header_bit_size = 16 + (length (bits p) - length (bits q));
        n_emulation_prevention_bytes = q.dropped;
      }
  unfolding with_sizes
  sized h = ap
      (λ (n : ℕ). record h {
        header_bit_size = 16 + (length (bits p) - length (bits q));
        n_emulation_prevention_bytes = n;
      })
      (counted bytes (length (bits p) - length (bits q)) p q first reached.place)
