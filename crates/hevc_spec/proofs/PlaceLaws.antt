-- Loading a byte changes no payload bit.
use Rattle.std.proofs.Common.{◌≡◌, ℕ, zero, suc, ◌+◌, ◌*◌, ◌<◌, Bool, true, false, cond, eqb, List}
use Rattle.std.proofs.Common.{[], ◌∷◌, length, drop, Some, None, refl, ap, sym, ◌∙◌, subst, arith}
use Rattle.std.proofs.Common.{Option, ◌-◌, ◌≤◌}
use Rattle.std.specs.Prelude.{option_map, option_and_then, ◌&&◌}
use Rattle.hevc_spec.specs.Payload.{Place, bits, payload_after, payload_bits, low_bits, run_behind}
use Rattle.hevc_spec.specs.Payload.{loading, with_bits, no_bits, bits_left, next_place}
use Rattle.hevc_spec.specs.Payload.{place_behind, IsAhead, IsReached, LeadsTo}

pub low_bits_length : (n byte : ℕ) → length (low_bits n byte) ≡ n
low_bits_length zero byte = refl
low_bits_length (suc n) byte = ap suc (low_bits_length n byte)

-- what loading a byte keeps
record Keeps (run dropped : ℕ) (bytes : List ℕ) (p : Place) : Type 0 where
  pub payload : bits p ≡ payload_bits run bytes
  pub whole : length p.loaded ≡ 8
  pub level : bits_left p + 8 * p.dropped ≡ 8 * length bytes + 8 * dropped

keeps_one : (run dropped byte : ℕ) (bytes : List ℕ) (p : Place) → (eqb run 2 && eqb byte 3) ≡ false
    → Some (record {
      loaded = low_bits 8 byte;
      zero_run = run_behind run byte;
      behind = bytes;
      dropped = dropped;
    }) ≡ Some p → Keeps run dropped (byte ∷ bytes) p
unfolding bits payload_bits bits_left
keeps_one run dropped byte bytes p other e =
    let here : Place = record {
      loaded = low_bits 8 byte;
      zero_run = run_behind run byte;
      behind = bytes;
      dropped = dropped;
    } in
    let same : here ≡ p = cc in
    let k : Keeps run dropped (byte ∷ bytes) here = record {
      payload = rw other refl;
      whole = low_bits_length 8 byte;
      level = omega (arith, low_bits_length 8 byte);
    } in
    subst (Keeps run dropped (byte ∷ bytes)) same k

keeps_past : (run dropped byte : ℕ) (bytes : List ℕ) (p : Place) → (eqb run 2 && eqb byte 3) ≡ true
    → Keeps 0 (dropped + 1) bytes p → Keeps run dropped (byte ∷ bytes) p
unfolding payload_bits
keeps_past run dropped byte bytes p three k = record {
  payload = k.payload ∙ rw three refl;
  whole = k.whole;
  level = omega (arith, k.level);
}

loading_keeps : (run dropped : ℕ) (bytes : List ℕ) (p : Place) → loading run dropped bytes ≡ Some p
    → Keeps run dropped bytes p
loading_keeps run dropped [] p e = absurd cc
loading_keeps run dropped (byte ∷ bytes) p e =
    by_test (λ h. loading_keeps 0 (dropped + 1) bytes p h) (eqb run 2 && eqb byte 3) refl e
  where
    by_test : (loading 0 (dropped + 1) bytes ≡ Some p → Keeps 0 (dropped + 1) bytes p) → (t : Bool)
        → (eqb run 2 && eqb byte 3) ≡ t
        → cond t (loading 0 (dropped + 1) bytes)
        (Some (record {
          loaded = low_bits 8 byte;
          zero_run = run_behind run byte;
          behind = bytes;
          dropped = dropped;
        })) ≡ Some p → Keeps run dropped (byte ∷ bytes) p
    by_test again true is h = keeps_past run dropped byte bytes p is (again h)
    by_test again false is h = keeps_one run dropped byte bytes p is h

loading_none : (run dropped : ℕ) (bytes : List ℕ) → loading run dropped bytes ≡ None → payload_after run bytes ≡ []
loading_none run dropped [] e = refl
loading_none run dropped (byte ∷ bytes) e =
    by_test (λ h. loading_none 0 (dropped + 1) bytes h) (eqb run 2 && eqb byte 3) refl e
  where
    by_test : (loading 0 (dropped + 1) bytes ≡ None → payload_after 0 bytes ≡ []) → (t : Bool)
        → (eqb run 2 && eqb byte 3) ≡ t
        → cond t (loading 0 (dropped + 1) bytes)
        (Some (record {
          loaded = low_bits 8 byte;
          zero_run = run_behind run byte;
          behind = bytes;
          dropped = dropped;
        })) ≡ None → payload_after run (byte ∷ bytes) ≡ []
    by_test again true is h = rw is (again h)
    by_test again false is h = absurd cc

bits-nothing_loaded : (p : Place) → p.loaded ≡ [] → bits p ≡ payload_bits p.zero_run p.behind
unfolding bits
bits-nothing_loaded p e = rw e refl

bits_left-nothing_loaded : (p : Place) → p.loaded ≡ [] → bits_left p ≡ 8 * length p.behind
unfolding bits_left
bits_left-nothing_loaded p e = let k : length p.loaded ≡ 0 = ap length e in omega arith

payload_bits-none : (run : ℕ) (bytes : List ℕ) → payload_after run bytes ≡ [] → payload_bits run bytes ≡ []
unfolding payload_bits
payload_bits-none run bytes e = rw e refl

pub with_bits_keeps : (old new : Place) → with_bits old ≡ Some new
    → (bits new ≡ bits old) × (bits_left new + 8 * new.dropped ≡ bits_left old + 8 * old.dropped)
    × (0 < length new.loaded)
with_bits_keeps old new e = by_loaded old.loaded refl e
  where
    by_loaded : (loaded : List Bool) → old.loaded ≡ loaded
        → cond (no_bits loaded) (loading old.zero_run old.dropped old.behind) (Some old) ≡ Some new
        → (bits new ≡ bits old) × (bits_left new + 8 * new.dropped ≡ bits_left old + 8 * old.dropped)
        × (0 < length new.loaded)
    by_loaded [] none h =
        let k = loading_keeps old.zero_run old.dropped old.behind new h in (
          k.payload ∙ sym (bits-nothing_loaded old none),
          omega (arith, k.level, bits_left-nothing_loaded old none),
          omega (arith, k.whole),
        )
    by_loaded (b ∷ loaded) some h =
        let same : old ≡ new = cc in
        let one : 0 < length old.loaded = omega (arith, ap length some) in
        subst (λ (q : Place). (bits q ≡ bits old)
        × (bits_left q + 8 * q.dropped ≡ bits_left old + 8 * old.dropped) × (0 < length q.loaded)) same
        (refl, refl, one)

pub with_bits_none : (old : Place) → with_bits old ≡ None → bits old ≡ []
with_bits_none old e = by_loaded old.loaded refl e
  where
    by_loaded : (loaded : List Bool) → old.loaded ≡ loaded
        → cond (no_bits loaded) (loading old.zero_run old.dropped old.behind) (Some old) ≡ None → bits old ≡ []
    by_loaded [] none h = bits-nothing_loaded old none
        ∙ payload_bits-none old.zero_run old.behind (loading_none old.zero_run old.dropped old.behind h)
    by_loaded (b ∷ loaded) some h = absurd cc

-- ---- ahead

place_behind-add : (n m : ℕ) (p q r : Place) → place_behind n p ≡ Some q → place_behind m q ≡ Some r
    → place_behind (n + m) p ≡ Some r
place_behind-add zero m p q r a b =
    let e : 0 + m ≡ m = omega arith in
    let same : p ≡ q = cc in
    rw (e, same) b
place_behind-add (suc n) m p q r a b =
    let e : suc n + m ≡ suc (n + m) = omega arith in
    rw e (by_next (λ s h. place_behind-add n m s q r h b) (next_place p) a)
  where
    by_next : ((s : Place) → place_behind n s ≡ Some q → place_behind (n + m) s ≡ Some r)
        → (next : Option Place) → option_and_then (place_behind n) next ≡ Some q
        → option_and_then (place_behind (n + m)) next ≡ Some r
    by_next again None h = absurd cc
    by_next again (Some s) h = again s h

pub same_reached : (p : Place) → IsReached p p
same_reached p = let none : length (bits p) - length (bits p) ≡ 0 = omega arith in record {
  place = rw none refl;
  fewer = omega arith;
}

pub bit_reached : (p q : Place) (b : Bool) → bits p ≡ b ∷ bits q → next_place p ≡ Some q → IsReached p q
bit_reached p q b e next =
    let l : length (bits p) ≡ suc (length (bits q)) = ap length e in
    let one : length (bits p) - length (bits q) ≡ 1 = omega arith in
    record { place = rw (one, next) refl; fewer = omega arith }

pub reached_then : (p q s : Place) → IsReached p q → IsReached q s → IsReached p s
reached_then p q s a b =
    let f = a.fewer in
    let g = b.fewer in
    let sum : length (bits p) - length (bits s) ≡ (length (bits p) - length (bits q)) +
    (length (bits q) - length (bits s)) = omega arith in
    record { place = rw sum (place_behind-add _ _ p q s a.place b.place); fewer = omega arith }

pub same_ahead : (p : Place) → IsAhead p p
same_ahead p = record { moved = refl; fewer = omega arith; onward = λ _ way. way }

pub bit_ahead : (p q : Place) (b : Bool) → bits p ≡ b ∷ bits q → next_place p ≡ Some q
    → bits_left p + 8 * p.dropped ≡ bits_left q + 8 * q.dropped + 1 → IsAhead p q
unfolding LeadsTo
bit_ahead p q b e next level =
    let l = ap length e in
    record {
      moved = omega arith;
      fewer = omega arith;
      onward = λ o way. reached_then o p q way (bit_reached p q b e next);
    }

pub ahead_then : (p q s : Place) → IsAhead p q → IsAhead q s → IsAhead p s
ahead_then p q s a b = record {
  moved = omega arith;
  fewer = omega arith;
  onward = λ o way. b.onward o (a.onward o way);
}

-- what is ahead is reached
pub is_reached : (p q : Place) → IsAhead p q → IsReached p q
unfolding LeadsTo
is_reached p q a = a.onward p (same_reached p)

-- ---- so many bits on

-- what leads from a place to the next one
record Nexts (p q : Place) : Type 0 where
  pub bit : Bool
  pub reads : bits p ≡ bit ∷ bits q
  pub level : bits_left p + 8 * p.dropped ≡ bits_left q + 8 * q.dropped + 1

one_off : (loaded : List Bool) (p q : Place) → p.loaded ≡ loaded → 0 < length loaded
    → q ≡ record p { loaded = drop 1 p.loaded } → Nexts p q
unfolding bits bits_left
one_off [] p q e some same = absurd (omega arith)
one_off (b ∷ loaded) p q e some same = record { bit = b; reads = rw (same, e) refl; level = rw (same, e) (omega arith) }

nexts : (p q : Place) → next_place p ≡ Some q → Nexts p q
nexts p q e = by_loaded (with_bits p) refl e
  where
    by_loaded : (o : Option Place) → with_bits p ≡ o
        → option_map (λ (s : Place). record s { loaded = drop 1 s.loaded }) o ≡ Some q → Nexts p q
    by_loaded None is h = absurd cc
    by_loaded (Some s) is h =
        let k = with_bits_keeps p s is in
        let same : q ≡ record s { loaded = drop 1 s.loaded } = cc in
        let n = one_off s.loaded s q refl k.2 same in
        record { bit = n.bit; reads = sym k.0 ∙ n.reads; level = sym k.1 ∙ n.level }

-- what leads from a place to the one so many bits on
pub record Passed (n : ℕ) (p q : Place) : Type 0 where
  pub enough : n ≤ length (bits p)
  pub rest : bits q ≡ drop n (bits p)
  pub ahead : IsAhead p q
  pub reached : IsReached p q

pub passed : (n : ℕ) (p q : Place) → place_behind n p ≡ Some q → Passed n p q
passed zero p q e =
    let same : p ≡ q = cc in
    subst (λ (r : Place). Passed 0 p r) same (record {
      enough = omega arith;
      rest = refl;
      ahead = same_ahead p;
      reached = same_reached p;
    })
passed (suc n) p q e = by_next (λ s h. passed n s q h) (next_place p) refl e
  where
    by_next : ((s : Place) → place_behind n s ≡ Some q → Passed n s q) → (o : Option Place)
        → next_place p ≡ o → option_and_then (place_behind n) o ≡ Some q → Passed (suc n) p q
    by_next on None is h = absurd cc
    by_next on (Some s) is h =
        let b = nexts p s is in
        let rest = on s h in
        record {
          enough = omega (arith, rest.enough, ap length b.reads);
          rest = rest.rest ∙ rw b.reads refl;
          ahead = ahead_then p s q (bit_ahead p s b.bit b.reads is b.level) rest.ahead;
          reached = reached_then p s q (bit_reached p s b.bit b.reads is) rest.reached;
        }
