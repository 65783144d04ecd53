-- Payload bytes with 03 bytes: they are read back, and no start code is in them.
use Rattle.std.proofs.Common.{◌≡◌, ◌≢◌, ℕ, ◌+◌, ◌%◌, ◌≤◌, Bool, true, false, cond, eqb, List, []}
use Rattle.std.proofs.Common.{◌∷◌, length, refl, ap, ◌∙◌, arith}
use Rattle.std.specs.Prelude.{nat_le, min, ◌&&◌}
use Rattle.hevc_spec.specs.Payload.{run_behind, payload_after, payload_bits, payload, bits_of}
use Rattle.hevc_spec.specs.Units.{is_empty, without_trailing_zeros}
use Rattle.hevc_bit_writer.specs.Writing.{packed}
use Rattle.hevc_bit_writer.specs.WrittenUnits.{escaped_after, escaped, stays_whole}
use Rattle.hevc_bit_writer.proofs.Packing.{bits_packed}

-- ---- reading back

read_back : (run : ℕ) (bytes : List ℕ) → payload_after run (escaped_after run bytes) ≡ bytes
read_back run [] = refl
read_back run (byte ∷ bytes) =
    by_test (read_back (run_behind 0 byte) bytes) (read_back (run_behind run byte) bytes) (eqb run 2)
    (nat_le byte 3) refl refl
  where
    by_test : payload_after (run_behind 0 byte) (escaped_after (run_behind 0 byte) bytes) ≡ bytes
        → payload_after (run_behind run byte) (escaped_after (run_behind run byte) bytes) ≡ bytes
        → (two low : Bool) → eqb run 2 ≡ two → nat_le byte 3 ≡ low
        → payload_after run
        (cond (two && low) (3 ∷ byte ∷ escaped_after (run_behind 0 byte) bytes)
        (byte ∷ escaped_after (run_behind run byte) bytes)) ≡ byte ∷ bytes
    by_test anew on true true e f = rw e (ap (λ (x : List ℕ). byte ∷ x) anew)
    by_test anew on true false e f =
        let other : eqb byte 3 ≡ false = grind (arith, f) in
        rw (e, other) (ap (λ (x : List ℕ). byte ∷ x) on)
    by_test anew on false low e f = rw e (ap (λ (x : List ℕ). byte ∷ x) on)

pub payload_back : (bytes : List ℕ) → payload_after 0 (escaped bytes) ≡ bytes
payload_back bytes = read_back 0 bytes

pub bits_back : (first second : ℕ) (bits : List Bool) → length bits % 8 ≡ 0
    → payload (first ∷ second ∷ escaped (packed bits)) ≡ bits
unfolding payload_bits
bits_back first second bits whole = ap bits_of (payload_back (packed bits)) ∙ bits_packed bits whole

-- ---- staying whole

run_small : (run byte : ℕ) → run_behind run byte ≤ 2
run_small run byte = by_test (eqb byte 0)
  where
    by_test : (t : Bool) → cond t (min (run + 1) 2) 0 ≤ 2
    by_test true = omega arith
    by_test false = omega arith

record IsEnding (byte : ℕ) (bytes : List ℕ) : Type 0 where
  pub rest : without_trailing_zeros bytes ≡ bytes
  pub last : bytes ≡ [] → eqb byte 0 ≡ false

ending : (byte : ℕ) (bytes : List ℕ) → without_trailing_zeros (byte ∷ bytes) ≡ byte ∷ bytes → IsEnding byte bytes
ending byte bytes e = by_test (eqb byte 0) (is_empty (without_trailing_zeros bytes)) refl refl e
  where
    by_test : (z none : Bool) → eqb byte 0 ≡ z → is_empty (without_trailing_zeros bytes) ≡ none
        → cond (z && none) [] (byte ∷ without_trailing_zeros bytes) ≡ byte ∷ bytes → IsEnding byte bytes
    by_test true true f g h = absurd cc
    by_test true false f g h =
        let same : without_trailing_zeros bytes ≡ bytes = cc in
        record { rest = same; last = λ none. absurd (cc (g, ap is_empty (same ∙ none))) }
    by_test false none f g h = record { rest = cc; last = λ empty. f }

whole_escaped : (run : ℕ) (bytes : List ℕ) → run ≤ 2 → without_trailing_zeros bytes ≡ bytes
    → (bytes ≡ [] → run ≡ 0) → stays_whole run (escaped_after run bytes) ≡ true
whole_escaped run [] few kept none = rw (none refl) refl
whole_escaped run (byte ∷ bytes) few kept none =
    let end = ending byte bytes kept in
    by_test
    (whole_escaped (run_behind 0 byte) bytes (run_small 0 byte) end.rest (λ empty. rw (end.last empty) refl))
    (whole_escaped (run_behind run byte) bytes (run_small run byte) end.rest (λ empty. rw (end.last empty) refl))
    (eqb run 2) (nat_le byte 3) refl refl
  where
    by_test : stays_whole (run_behind 0 byte) (escaped_after (run_behind 0 byte) bytes) ≡ true
        → stays_whole (run_behind run byte) (escaped_after (run_behind run byte) bytes) ≡ true
        → (two low : Bool) → eqb run 2 ≡ two → nat_le byte 3 ≡ low
        → stays_whole run
        (cond (two && low) (3 ∷ byte ∷ escaped_after (run_behind 0 byte) bytes)
        (byte ∷ escaped_after (run_behind run byte) bytes)) ≡ true
    by_test anew on true true e f = rw e anew
    by_test anew on true false e f =
        let other : nat_le byte 2 ≡ false = grind (arith, f) in
        rw (e, other) on
    by_test anew on false low e f = rw e on

pub stays_whole_escaped : (first second : ℕ) (bytes : List ℕ) → second ≢ 0
    → without_trailing_zeros bytes ≡ bytes → stays_whole 0 (first ∷ second ∷ escaped bytes) ≡ true
stays_whole_escaped first second bytes some kept =
    let other : eqb second 0 ≡ false = grind (arith, some) in
    let few : eqb (run_behind 0 first) 2 ≡ false = by_test (eqb first 0) in
    rw (few, other) (whole_escaped 0 bytes (omega arith) kept (λ _. refl))
  where
    by_test : (t : Bool) → eqb (cond t (min (0 + 1) 2) 0) 2 ≡ false
    by_test true = refl
    by_test false = refl
