-- A byte that is put into a word.
use Rattle.std.proofs.Common.{◌≡◌, ℕ, zero, suc, ◌+◌, ◌-◌, ◌*◌, ◌/◌, ◌%◌, ◌^◌, ◌<◌, ◌≤◌, Bool, true}
use Rattle.std.proofs.Common.{false, cond, eqb, List, [], ◌∷◌, length, Some, refl, ap, sym, subst}
use Rattle.std.proofs.Common.{◌∙◌, arith}
use Rattle.std.specs.Prelude.{◌&&◌}
use Rattle.std.specs.Int.{bit_at}
use Rattle.std.proofs.lemmas.Nat.{shr-shr, field_of}
use Rattle.std.proofs.lemmas.Nat.Bits.{bit_at-suc, bit_at_lowest}
use Rattle.hevc_spec.specs.Payload.{Place, low_bits, run_behind, loading}
use Rattle.hevc_spec.proofs.LowBits.{low_bits-mod, bit_at-mod}
use Rattle.hevc_bits.specs.Cached.{byte_on, bytes_on, place_in, IsNextByte, IsSameBut, Holds}
use Rattle.hevc_bits.proofs.WordSteps.{holds_ends, holds_none, holds_first, holds_others}
use Rattle.hevc_bits.proofs.WordSteps.{holds_more, byte_on-loads, Stands}

-- what a loaded byte tells: whether a 03 was dropped before it
pub record IsMarked (run d : ℕ) (bytes : List ℕ) (q : Place) : Type 0 where
  pub mark : ℕ
  pub small : mark < 2
  pub dropped : q.dropped ≡ d + mark
  pub shorter : length bytes ≡ length q.behind + 1 + mark

no_03 : (d byte : ℕ) (bytes : List ℕ) (q : Place) → loading 0 d (byte ∷ bytes) ≡ Some q
    → (q.dropped ≡ d) × (q.behind ≡ bytes)
no_03 d byte bytes q e =
    let here : Place = record { loaded = low_bits 8 byte; zero_run = run_behind 0 byte; behind = bytes; dropped = d } in
    let same : here ≡ q = cc in
    (sym (ap (λ (p : Place). p.dropped) same), sym (ap (λ (p : Place). p.behind) same))

marked_past : (run d byte : ℕ) (bytes : List ℕ) (q : Place) → loading 0 (d + 1) bytes ≡ Some q
    → IsMarked run d (byte ∷ bytes) q
marked_past run d byte [] q e = absurd cc
marked_past run d byte (next ∷ bytes) q e =
    let k = no_03 (d + 1) next bytes q e in
    record { mark = 1; small = omega arith; dropped = k.0; shorter = omega (arith, ap length k.1) }

pub is_marked : (run d : ℕ) (bytes : List ℕ) (q : Place) → loading run d bytes ≡ Some q → IsMarked run d bytes q
is_marked run d [] q e = absurd cc
is_marked run d (byte ∷ bytes) q e = by_test (eqb run 2 && eqb byte 3) e
  where
    by_test : (t : Bool)
        → cond t (loading 0 (d + 1) bytes)
        (Some (record {
          loaded = low_bits 8 byte;
          zero_run = run_behind run byte;
          behind = bytes;
          dropped = d;
        })) ≡ Some q → IsMarked run d (byte ∷ bytes) q
    by_test true h = marked_past run d byte bytes q h
    by_test false h =
        let here : Place = record {
          loaded = low_bits 8 byte;
          zero_run = run_behind run byte;
          behind = bytes;
          dropped = d;
        } in
        let same : here ≡ q = cc in
        record {
          mark = 0;
          small = omega arith;
          dropped = omega (arith, ap (λ (p : Place). p.dropped) same);
          shorter = omega (arith, ap (λ (p : Place). length p.behind) same);
        }

-- ---- the numbers that a byte and a mark are put into

abbrev pub with_byte : ℕ → ℕ → ℕ
with_byte c byte = c * 256 % 18446744073709551616 + byte

abbrev pub with_mark : ℕ → ℕ → ℕ
with_mark marks mark = marks * 2 % 256 + mark

above : (c byte : ℕ) → byte < 256 → with_byte c byte / 2 ^ 8 ≡ c % 2 ^ 56
above c byte small = omega arith

pub byte_above : (u i c byte : ℕ) → byte < 256 → 8 * i + u ≤ 56
    → low_bits u (with_byte c byte / 2 ^ (8 * suc i)) ≡ low_bits u (c / 2 ^ (8 * i))
byte_above u i c byte small fits =
    let e : 8 * suc i ≡ 8 + 8 * i = omega arith in
    let j = 56 - 8 * i in
    let k : 56 ≡ j + 8 * i = omega arith in
    let split : c % 2 ^ 56 / 2 ^ (8 * i) ≡ c / 2 ^ (8 * i) % 2 ^ j =
    ap (λ (x : ℕ). c % 2 ^ x / 2 ^ (8 * i)) k ∙ field_of c j (8 * i) in
    let all : with_byte c byte / 2 ^ (8 * suc i) ≡ c / 2 ^ (8 * i) % 2 ^ j =
    ap (λ (x : ℕ). with_byte c byte / 2 ^ x) e ∙ sym (shr-shr (with_byte c byte) 8 (8 * i))
    ∙ ap (λ (x : ℕ). x / 2 ^ (8 * i)) (above c byte small) ∙ split in
    ap (low_bits u) all ∙ low_bits-mod u j (c / 2 ^ (8 * i)) (omega arith)

lowest_byte : (c byte : ℕ) → byte < 256 → low_bits 8 (with_byte c byte / 2 ^ (8 * 0)) ≡ low_bits 8 byte
lowest_byte c byte small =
    let whole : with_byte c byte / 2 ^ (8 * 0) ≡ with_byte c byte = omega arith in
    let low : with_byte c byte % 2 ^ 8 ≡ byte = omega arith in
    ap (low_bits 8) whole ∙ sym (low_bits-mod 8 8 (with_byte c byte) (omega arith)) ∙ ap (low_bits 8) low

mark_above : (i marks mark : ℕ) → mark < 2 → i < 7 → bit_at (with_mark marks mark) (suc i) ≡ bit_at marks i
mark_above i marks mark small few =
    let half : with_mark marks mark / 2 ≡ marks % 2 ^ 7 = omega arith in
    bit_at-suc (with_mark marks mark) i ∙ ap (λ (x : ℕ). bit_at x i) half ∙ bit_at-mod 7 marks i few

lowest_mark : (marks mark : ℕ) → mark < 2 → bit_at (with_mark marks mark) 0 ≡ mark
lowest_mark marks mark small = bit_at_lowest (with_mark marks mark) ∙ omega arith

-- ---- the bytes ahead, and one more

holds_last : (n c marks byte mark : ℕ) (p end q more : Place) → n ≤ 7 → byte < 256 → mark < 2
    → Holds n c marks p end → IsNextByte (low_bits 8 byte) mark end q → IsSameBut q more
    → Holds (suc n) (with_byte c byte) (with_mark marks mark) p more
holds_last zero c marks byte mark p end q more few small one h next same =
    let here = holds_ends c marks p end h in
    let loads : loading p.zero_run p.dropped p.behind ≡ Some q =
    rw (← here.zero_run, ← here.behind, ← here.dropped) next.loads in
    let is : byte_on p ≡ q = byte_on-loads p q loads in
    holds_more 0 (with_byte c byte) (with_mark marks mark) p more
    (rw (is, lowest_byte c byte small, lowest_mark marks mark one) (record {
      loads = loads;
      loaded = next.loaded;
      dropped = omega (arith, next.dropped, here.dropped);
      shorter = omega (arith, next.shorter, ap length here.behind);
    }))
    (rw is (holds_none _ _ q more same))
holds_last (suc n) c marks byte mark p end q more few small one h next same =
    let first = holds_first n c marks p end h in
    let others = holds_last n c marks byte mark (byte_on p) end q more (omega arith) small one
    (holds_others n c marks p end h) next same in
    holds_more (suc n) (with_byte c byte) (with_mark marks mark) p more
    (rw (byte_above 8 n c byte small (omega arith), mark_above n marks mark one (omega arith)) first) others

-- a byte put into a word
pub record Puts (left ahead filled c marks byte mark : ℕ) (base end : Place) : Type 0 where
  pub same : place_in (left + 8) (ahead + 1) (filled + 1) (with_byte c byte) base ≡ place_in left ahead filled c base
  pub stands : Stands (left + 8) (ahead + 1) (filled + 1) (with_byte c byte) (with_mark marks mark) base end

pub puts : (left ahead filled c marks byte mark : ℕ) (base end q more : Place) → left < 56 → byte < 256
    → mark < 2 → Stands left ahead filled c marks base end → IsNextByte (low_bits 8 byte) mark end q → IsSameBut q more
    → Puts left ahead filled c marks byte mark base more
puts left ahead filled c marks byte mark base end q more fits small one s next same =
    let a : ahead + 1 ≡ suc ahead = omega arith in
    let unread : left + 8 - 8 * suc ahead ≡ left - 8 * ahead = omega (arith, s.unread) in
    let at : filled + 1 - suc ahead ≡ filled - ahead = omega (arith, s.among) in
    let loaded : low_bits (left - 8 * ahead) (with_byte c byte / 2 ^ (8 * suc ahead)) ≡ low_bits
    (left - 8 * ahead) (c / 2 ^ (8 * ahead)) =
    byte_above (left - 8 * ahead) ahead c byte small (omega (arith, s.unread)) in
    let holds : Holds (suc ahead) (with_byte c byte) (with_mark marks mark)
    (bytes_on (filled - ahead) base) more =
    holds_last ahead c marks byte mark (bytes_on (filled - ahead) base) end q more
    (omega (arith, s.unread)) small one s.holds next same in
    record {
      same = rw (a, unread, at, loaded) refl;
      stands = subst
          (λ (x : ℕ). Stands (left + 8) x (filled + 1) (with_byte c byte) (with_mark marks mark) base more) (sym a)
          (record {
            unread = omega (arith, s.unread);
            whole = omega (arith, s.whole);
            among = omega (arith, s.among);
            holds = rw at holds;
          });
    }
