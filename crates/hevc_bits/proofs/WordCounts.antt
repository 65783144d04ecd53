-- What a word counts of the bytes in it that aren't reached.
use Rattle.std.proofs.Common.{◌≡◌, ℕ, zero, suc, ◌+◌, ◌-◌, ◌*◌, ◌%◌, ◌^◌, ◌<◌, ◌≤◌, ◌⊎◌, inl, inr}
use Rattle.std.proofs.Common.{Bool, true, false, cond, eqb, List, [], ◌∷◌, length, drop, Option}
use Rattle.std.proofs.Common.{Some, None, refl, ap, sym, ◌∙◌, arith, pow_pos}
use Rattle.std.specs.Prelude.{◌&&◌, count_ones}
use Rattle.std.specs.Int.{bit_at}
use Rattle.std.specs.Int.Count.{ones}
use Rattle.std.proofs.lemmas.Nat.{mod-pow-add, mod_below, ones_cat}
use Rattle.std.proofs.lemmas.Nat.Bits.{bit_at-lt}
use Rattle.std.proofs.lemmas.Bool.{cases_lt}
use Rattle.std.proofs.Math.ListN.{length-drop, drop_of_length-le}
use Rattle.std.proofs.Math.Seq.{drop-length}
use Rattle.hevc_spec.specs.Payload.{Place, low_bits, run_behind, loading}
use Rattle.hevc_spec.proofs.UnitLaws.{drop-drop}
use Rattle.hevc_bits.specs.declared.word.Word.{Word}
use Rattle.hevc_bits.specs.Cached.{byte_on, bytes_on, place_of, base_of, end_of, ahead, marked, Holds, IsFilled}
use Rattle.hevc_bits.proofs.WordSteps.{holds_ends, holds_first, holds_others, bytes_on-zero, bytes_on-suc}

ones-digit : (x : ℕ) → x < 2 → count_ones x ≡ x
unfolding ones
ones-digit zero h = refl
ones-digit (suc zero) h = refl
ones-digit (suc (suc x)) h = absurd (omega arith)

ones-suc : (n marks : ℕ) → count_ones (marks % 2 ^ suc n) ≡ bit_at marks n + count_ones (marks % 2 ^ n)
ones-suc n marks =
    let k : suc n ≡ 1 + n = omega arith in
    let split : marks % 2 ^ suc n ≡ bit_at marks n * 2 ^ n + marks % 2 ^ n = rw k (mod-pow-add marks 1 n) in
    ap count_ones split ∙ ones_cat n (bit_at marks n) (marks % 2 ^ n) (mod_below marks (2 ^ n) (pow_pos n))
    ∙ ap (λ (x : ℕ). x + count_ones (marks % 2 ^ n)) (ones-digit (bit_at marks n) (bit_at-lt marks n))

record Counts (n marked : ℕ) (p end : Place) : Type 0 where
  pub long : length p.behind ≡ length end.behind + n + marked
  pub dropped : end.dropped ≡ p.dropped + marked

counts : (n c marks : ℕ) (p end : Place) → Holds n c marks p end → Counts n (count_ones (marks % 2 ^ n)) p end
counts zero c marks p end h =
    let same = holds_ends c marks p end h in
    let least : marks % 2 ^ 0 ≡ 0 = omega arith in
    let none : count_ones (marks % 2 ^ 0) ≡ 0 = ap count_ones least ∙ ones-digit 0 (omega arith) in
    rw none (record { long = omega (arith, ap length same.behind); dropped = omega (arith, same.dropped) })
counts (suc n) c marks p end h =
    let first = holds_first n c marks p end h in
    let others = counts n c marks (byte_on p) end (holds_others n c marks p end h) in
    rw (ones-suc n marks) (record {
      long = omega (arith, first.shorter, others.long);
      dropped = omega (arith, first.dropped, others.dropped);
    })

pub counted : (w : Word) → IsFilled w
    → (length (place_of w).behind ≡ length w.rest.now + ahead w + marked w)
    × (w.dropped ≡ (place_of w).dropped + marked w)
counted w f = let k = counts (ahead w) w.cache w.marks (bytes_on (w.filled - ahead w) (base_of w))
    (end_of w) f.holds in (k.long, k.dropped)

-- ---- the bytes after a place are the last ones of all

loading-part : (run d : ℕ) (bytes : List ℕ) (q : Place) → loading run d bytes ≡ Some q
    → (m : ℕ) × (q.behind ≡ drop m bytes)
loading-part run d [] q e = absurd cc
loading-part run d (byte ∷ bytes) q e = by_test (λ h. loading-part 0 (d + 1) bytes q h) (eqb run 2 && eqb byte 3) e
  where
    by_test : (loading 0 (d + 1) bytes ≡ Some q → (m : ℕ) × (q.behind ≡ drop m bytes)) → (t : Bool)
        → cond t (loading 0 (d + 1) bytes)
        (Some (record {
          loaded = low_bits 8 byte;
          zero_run = run_behind run byte;
          behind = bytes;
          dropped = d;
        })) ≡ Some q → (m : ℕ) × (q.behind ≡ drop m (byte ∷ bytes))
    by_test again true h = let k = again h in (suc k.0, k.1)
    by_test again false h =
        let here : Place = record {
          loaded = low_bits 8 byte;
          zero_run = run_behind run byte;
          behind = bytes;
          dropped = d;
        } in
        let same : here ≡ q = cc in
        (1, sym (ap (λ (p : Place). p.behind) same))

byte_on-part : (p : Place) → (m : ℕ) × ((byte_on p).behind ≡ drop m p.behind)
unfolding byte_on
byte_on-part p = by_loading (loading p.zero_run p.dropped p.behind) refl
  where
    by_loading : (o : Option Place) → loading p.zero_run p.dropped p.behind ≡ o
        → (m : ℕ) × ((byte_on p).behind ≡ drop m p.behind)
    by_loading None is = (0, rw is refl)
    by_loading (Some q) is = let k = loading-part p.zero_run p.dropped p.behind q is in (k.0, rw is k.1)

bytes_on-part : (n : ℕ) (p : Place) → (m : ℕ) × ((bytes_on n p).behind ≡ drop m p.behind)
bytes_on-part zero p = (0, rw bytes_on-zero refl)
bytes_on-part (suc n) p =
    let others = bytes_on-part n p in
    let last = byte_on-part (bytes_on n p) in (
      others.0 + last.0,
      ap (λ (q : Place). q.behind) (bytes_on-suc n p) ∙ last.1 ∙ ap (drop last.0) others.1
          ∙ drop-drop others.0 last.0 p.behind,
    )

last_ones : (m : ℕ) (some all : List ℕ) → some ≡ drop m all → some ≡ drop (length all - length some) all
last_ones m some all e = by_order (cases_lt m (length all))
  where
    by_order : (m < length all) ⊎ (length all ≤ m) → some ≡ drop (length all - length some) all
    by_order (inl lt) =
        let long : length some ≡ length all - m = ap length e ∙ length-drop m all in
        let k : length all - length some ≡ m = omega arith in
        rw k e
    by_order (inr le) =
        let none : some ≡ [] = e ∙ drop_of_length-le all {i = m} le in
        let k : length all - length some ≡ length all = omega (arith, ap length none) in
        rw k (none ∙ sym (drop-length all))

pub behind_word : (w : Word) → IsFilled w
    → (place_of w).behind ≡ drop (length w.bytes.now - (length w.rest.now + ahead w + marked w)) w.bytes.now
behind_word w f =
    let k = bytes_on-part (w.filled - ahead w) (base_of w) in
    let long = (counted w f).0 in
    rw (← long) (last_ones k.0 (place_of w).behind w.bytes.now k.1)

pub behind_word_fits : (w : Word) → IsFilled w → length w.rest.now + ahead w + marked w ≤ length w.bytes.now
behind_word_fits w f =
    let k = bytes_on-part (w.filled - ahead w) (base_of w) in
    let long = (counted w f).0 in
    let short : length (place_of w).behind ≡ length w.bytes.now - k.0 = ap length k.1 ∙ length-drop k.0 w.bytes.now in
    omega (arith, long, short)
