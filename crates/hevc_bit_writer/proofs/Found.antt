-- The units of a stream that was written are found.
use Rattle.std.proofs.Common.{◌≡◌, ℕ, suc, ◌+◌, Bool, true, false, cond, eqb, List, [], ◌∷◌, ◌++◌}
use Rattle.std.proofs.Common.{length, refl, ap, ap₂, ◌∙◌, arith}
use Rattle.std.specs.Prelude.{nat_le, min, not, ◌&&◌, All}
use Rattle.std.proofs.lemmas.Bool.{and_parts, eqb-true}
use Rattle.std.proofs.lemmas.List.Elements.{All-head, All-tail}
use Rattle.hevc_spec.specs.Payload.{run_behind}
use Rattle.hevc_spec.specs.Units.{NalUnit, begins_with_start_code, before_start_code, is_empty}
use Rattle.hevc_spec.specs.Units.{without_trailing_zeros, units_at, units_from, units, kept_bytes}
use Rattle.hevc_bit_writer.specs.WrittenUnits.{IsUnit, placed, stays_whole, stream_of}

-- after any run of zeros, two more are two at least
two_zeros : (run : ℕ) → run_behind (run_behind run 0) 0 ≡ 2
two_zeros run = omega arith

stays_behind : (run byte : ℕ) (bytes : List ℕ) → stays_whole run (byte ∷ bytes) ≡ true
    → stays_whole (run_behind run byte) bytes ≡ true
stays_behind run byte bytes h = (and_parts _ _ h).1

-- no start code begins with three bytes of a unit
none_within : (run a b c : ℕ) (bytes more : List ℕ) → stays_whole run (a ∷ b ∷ c ∷ bytes) ≡ true
    → begins_with_start_code (a ∷ b ∷ c ∷ more) ≡ false
none_within run a b c bytes more h = by_test (eqb a 0) (eqb b 0) (eqb c 1) refl refl refl
  where
    by_test : (x y z : Bool) → eqb a 0 ≡ x → eqb b 0 ≡ y → eqb c 1 ≡ z → ((x && y) && z) ≡ false
    by_test false y z e f g = refl
    by_test true false z e f g = refl
    by_test true true false e f g = refl
    by_test true true true e f g =
        let third : not (eqb (run_behind (run_behind run a) b) 2 && nat_le c 2) ≡ true =
        (and_parts _ _ ((and_parts _ _ ((and_parts _ _ h).1)).1)).0 in
        let none : a ≡ 0 = eqb-true a 0 e in
        let none_too : b ≡ 0 = eqb-true b 0 f in
        let one : c ≡ 1 = eqb-true c 1 g in
        let two : run_behind (run_behind run a) b ≡ 2 = rw (none, none_too) (two_zeros run) in
        absurd (cc (rw (two, one) at third))

and_false : (t : Bool) → (t && false) ≡ false
and_false true = refl
and_false false = refl

-- nor with fewer, before the next one
none_begins : (run byte : ℕ) (bytes : List ℕ) (us : List (List ℕ)) → stays_whole run (byte ∷ bytes) ≡ true
    → begins_with_start_code (byte ∷ bytes ++ stream_of us) ≡ false
none_begins run a (b ∷ c ∷ bytes) us h = none_within run a b c bytes (bytes ++ stream_of us) h
none_begins run a (b ∷ []) [] h = refl
none_begins run a (b ∷ []) (u ∷ us) h = and_false (eqb a 0 && eqb b 0)
none_begins run a [] [] h = refl
none_begins run a [] (u ∷ us) h = and_false (eqb a 0 && true)

before_unit : (run : ℕ) (bytes : List ℕ) (us : List (List ℕ)) → stays_whole run bytes ≡ true
    → before_start_code (bytes ++ stream_of us) ≡ bytes
before_unit run [] [] h = refl
before_unit run [] (u ∷ us) h = refl
before_unit run (byte ∷ bytes) us h =
    rw (none_begins run byte bytes us h)
    (ap (λ (x : List ℕ). byte ∷ x) (before_unit (run_behind run byte) bytes us (stays_behind run byte bytes h)))

no_zeros_behind : (run : ℕ) (bytes : List ℕ) → stays_whole run bytes ≡ true → without_trailing_zeros bytes ≡ bytes
no_zeros_behind run [] h = refl
no_zeros_behind run (byte ∷ bytes) h =
    let rest = no_zeros_behind (run_behind run byte) bytes (stays_behind run byte bytes h) in
    rw rest (by_rest bytes (stays_behind run byte bytes h))
  where
    by_rest : (bytes : List ℕ) → stays_whole (run_behind run byte) bytes ≡ true
        → cond (eqb byte 0 && is_empty bytes) [] (byte ∷ bytes) ≡ byte ∷ bytes
    by_rest [] e = by_test (eqb byte 0) e
      where
        by_test : (z : Bool) → eqb (cond z (min (run + 1) 2) 0) 0 ≡ true → cond (z && true) [] (byte ∷ []) ≡ byte ∷ []
        by_test true h = let none : min (run + 1) 2 ≡ 0 = eqb-true (min (run + 1) 2) 0 h in absurd (omega arith)
        by_test false h = refl
    by_rest (next ∷ bytes) e = by_test (eqb byte 0)
      where
        by_test : (z : Bool) → cond (z && false) [] (byte ∷ next ∷ bytes) ≡ byte ∷ next ∷ bytes
        by_test true = refl
        by_test false = refl

past_unit : (kept : List ℕ → List ℕ) (run place : ℕ) (bytes : List ℕ) (us : List (List ℕ))
    → stays_whole run bytes ≡ true
    → units_at kept place (bytes ++ stream_of us) ≡ units_at kept (place + length bytes) (stream_of us)
past_unit kept run place [] us h = let e : place + 0 ≡ place = omega arith in rw e refl
past_unit kept run place (byte ∷ bytes) us h =
    let e : place + suc (length bytes) ≡ place + 1 + length bytes = omega arith in
    rw (none_begins run byte bytes us h, e)
    (past_unit kept (run_behind run byte) (place + 1) bytes us (stays_behind run byte bytes h))

one_behind : (xs : List ℕ) → begins_with_start_code (0 ∷ 1 ∷ xs) ≡ false
one_behind [] = refl
one_behind (_ ∷ _) = refl

none_behind : (xs : List ℕ) → begins_with_start_code (1 ∷ xs) ≡ false
none_behind [] = refl
none_behind (_ ∷ []) = refl
none_behind (_ ∷ _ ∷ _) = refl

first_found : (place : ℕ) (unit : List ℕ) (us : List (List ℕ)) → IsUnit unit
    → units_at kept_bytes place (stream_of (unit ∷ us)) ≡ record {
      offset = place + 3;
      bytes = unit;
    } ∷ units_at kept_bytes (place + 3 + length unit) (stream_of us)
first_found place unit us is =
    let rest = unit ++ stream_of us in
    let found : kept_bytes (without_trailing_zeros (before_start_code rest)) ≡ unit =
    ap (λ (x : List ℕ). kept_bytes (without_trailing_zeros x)) (before_unit 0 unit us is.whole)
    ∙ ap kept_bytes (no_zeros_behind 0 unit is.whole) ∙ is.kept in
    let third : place + 1 + 1 + 1 ≡ place + 3 = omega arith in
    let behind : units_at kept_bytes (place + 1) (0 ∷ 1 ∷ rest) ≡ units_at kept_bytes
    (place + 3 + length unit) (stream_of us) =
    past (place + 1) 0 (1 ∷ rest) (one_behind rest) ∙ past (place + 1 + 1) 1 rest (none_behind rest)
    ∙ ap (λ (x : ℕ). units_at kept_bytes x rest) third ∙ past_unit kept_bytes 0 (place + 3) unit us is.whole in
    ap₂ (λ (x : List ℕ) (y : List NalUnit). make x ∷ y) found behind
  where
    make : List ℕ → NalUnit
    make bytes = record { offset = place + 3; bytes = bytes }

    past : (at byte : ℕ) (bytes : List ℕ) → begins_with_start_code (byte ∷ bytes) ≡ false
        → units_at kept_bytes at (byte ∷ bytes) ≡ units_at kept_bytes (at + 1) bytes
    past at byte bytes e = rw e refl

found_at : (place : ℕ) (us : List (List ℕ)) → All IsUnit us → units_at kept_bytes place (stream_of us) ≡ placed place us
found_at place [] all = refl
found_at place (unit ∷ us) all = first_found place unit us (All-head IsUnit unit us all)
    ∙ ap (λ (x : List NalUnit). record { offset = place + 3; bytes = unit } ∷ x)
    (found_at (place + 3 + length unit) us (All-tail IsUnit unit us all))

pub all_found : (us : List (List ℕ)) → All IsUnit us → units (stream_of us) ≡ placed 0 us
unfolding units_from
all_found us all = found_at 0 us all
