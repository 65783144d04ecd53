-- Four bytes that are put into a word at once.
use Rattle.std.proofs.Common.{◌≡◌, ◌≢◌, ℕ, ◌+◌, ◌*◌, ◌%◌, ◌<◌, ◌≤◌, Bool, true, false, ◌&&◌, List}
use Rattle.std.proofs.Common.{[], ◌∷◌, length, drop, get_or, Some, eqb, refl, subst, ◌∙◌, arith}
use Rattle.hevc_spec.specs.Payload.{Place, low_bits, run_behind, loading}
use Rattle.hevc_bits.specs.declared.word.Word.{Word}
use Rattle.hevc_bits.specs.Cached.{place_in, base_of, ahead as bytes_ahead, IsFilled}
use Rattle.hevc_bits.proofs.WordSteps.{Stands}
use Rattle.hevc_bits.proofs.WordBits.{stands}
use Rattle.hevc_bits.proofs.WordFills.{with_byte, with_mark, Puts, puts}

and_false : (b : Bool) → (b && false) ≡ false
and_false true = refl
and_false false = refl

-- the place with these bytes after it
abbrev pub before : ℕ → ℕ → List ℕ → Place
before run d bytes = record { loaded = []; zero_run = run; behind = bytes; dropped = d }

-- a byte that is loaded as it is
plain : (run d byte : ℕ) (bytes : List ℕ) → byte ≢ 3
    → loading run d (byte ∷ bytes) ≡ Some (record {
      loaded = low_bits 8 byte;
      zero_run = run_behind run byte;
      behind = bytes;
      dropped = d;
    })
plain run d byte bytes other =
    let none : eqb byte 3 ≡ false = grind arith in
    rw (none, and_false (eqb run 2)) refl

puts_plain : (left ahead filled c marks byte run d : ℕ) (bytes : List ℕ) (base : Place) → left < 56
    → byte < 256 → byte ≢ 3 → Stands left ahead filled c marks base (before run d (byte ∷ bytes))
    → Puts left ahead filled c marks byte 0 base (before (run_behind run byte) d bytes)
puts_plain left ahead filled c marks byte run d bytes base fits small other s =
    puts left ahead filled c marks byte 0 base (before run d (byte ∷ bytes)) _
    (before (run_behind run byte) d bytes) fits small (omega arith) s
    (record { loads = plain run d byte bytes other; loaded = refl; dropped = omega arith; shorter = omega arith })
    (record { zero_run = refl; behind = refl; dropped = refl })

-- ---- the numbers that four bytes and their marks are put into

abbrev pub with_four : ℕ → ℕ → ℕ
with_four c number = c * 4294967296 % 18446744073709551616 + number

two_bytes : (c a b : ℕ) → a < 256 → b < 256
    → with_byte (with_byte c a) b ≡ c * 65536 % 18446744073709551616 + (a * 256 + b)
two_bytes c a b small least = omega arith

two_pairs : (c x y : ℕ) → x < 65536 → y < 65536
    → (c * 65536 % 18446744073709551616 + x) * 65536 % 18446744073709551616 + y ≡ with_four c (x * 65536 + y)
two_pairs c x y small least = omega arith

abbrev pub four_bytes : ℕ → ℕ → ℕ → ℕ → ℕ
four_bytes a b d e = (a * 256 + b) * 65536 + (d * 256 + e)

number : (c a b d e : ℕ) → a < 256 → b < 256 → d < 256 → e < 256
    → with_byte (with_byte (with_byte (with_byte c a) b) d) e ≡ with_four c (four_bytes a b d e)
number c a b d e first second third fourth =
    rw (two_bytes c a b first second)
    (two_bytes (c * 65536 % 18446744073709551616 + (a * 256 + b)) d e third fourth)
    ∙ two_pairs c (a * 256 + b) (d * 256 + e) (omega arith) (omega arith)

marks_of_four : (marks : ℕ) → with_mark (with_mark (with_mark (with_mark marks 0) 0) 0) 0 ≡ marks * 16 % 256
marks_of_four marks = omega arith

-- four bytes put into a word
pub record PutsFour (left ahead filled c marks number : ℕ) (base end : Place) : Type 0 where
  pub same : place_in (left + 32) (ahead + 4) (filled + 4) (with_four c number) base ≡ place_in left ahead filled c base
  pub stands : Stands (left + 32) (ahead + 4) (filled + 4) (with_four c number) (marks * 16 % 256) base end

pub puts_four : (left ahead filled c marks a b d e run dropped : ℕ) (bytes : List ℕ) (base : Place)
    → left < 32 → a < 256 → b < 256 → d < 256 → e < 256 → a ≢ 3 → b ≢ 3 → d ≢ 3 → e ≢ 3 → e ≢ 0
    → Stands left ahead filled c marks base (before run dropped (a ∷ b ∷ d ∷ e ∷ bytes))
    → PutsFour left ahead filled c marks (four_bytes a b d e) base (before 0 dropped bytes)
puts_four left ahead filled c marks a b d e run dropped bytes base fits first second third fourth a3 b3 d3 e3 e0 s =
    let c1 = with_byte c a in
    let c2 = with_byte c1 b in
    let c3 = with_byte c2 d in
    let m1 = with_mark marks 0 in
    let m2 = with_mark m1 0 in
    let m3 = with_mark m2 0 in
    let p1 = puts_plain left ahead filled c marks a run dropped (b ∷ d ∷ e ∷ bytes) base (omega arith) first a3 s in
    let p2 = puts_plain (left + 8) (ahead + 1) (filled + 1) c1 m1 b _ dropped (d ∷ e ∷ bytes) base
    (omega arith) second b3 p1.stands in
    let p3 = puts_plain (left + 8 + 8) (ahead + 1 + 1) (filled + 1 + 1) c2 m2 d _ dropped (e ∷ bytes) base
    (omega arith) third d3 p2.stands in
    let p4 = puts_plain (left + 8 + 8 + 8) (ahead + 1 + 1 + 1)
    (filled + 1 + 1 + 1) c3 m3 e _ dropped bytes base (omega arith) fourth e3 p3.stands in
    let l : left + 8 + 8 + 8 + 8 ≡ left + 32 = omega arith in
    let h : ahead + 1 + 1 + 1 + 1 ≡ ahead + 4 = omega arith in
    let f : filled + 1 + 1 + 1 + 1 ≡ filled + 4 = omega arith in
    let n = number c a b d e first second third fourth in
    let m = marks_of_four marks in
    let last : eqb e 0 ≡ false = grind arith in
    record {
      same = rw (l, h, f, n) at (p4.same ∙ p3.same ∙ p2.same ∙ p1.same);
      stands = rw (l, h, f, n, m, last) at p4.stands;
    }

four_first : (all : List ℕ) → 4 ≤ length all
    → all ≡ get_or all 0 0 ∷ get_or all 1 0 ∷ get_or all 2 0 ∷ get_or all 3 0 ∷ drop 4 all
four_first [] le = absurd (omega arith)
four_first (a ∷ []) le = absurd (omega arith)
four_first (a ∷ b ∷ []) le = absurd (omega arith)
four_first (a ∷ b ∷ d ∷ []) le = absurd (omega arith)
four_first (a ∷ b ∷ d ∷ e ∷ bytes) le = refl

-- a word's next four bytes as a number
abbrev pub next_number : Word → ℕ
next_number w = let all = w.rest.now in four_bytes (get_or all 0 0) (get_or all 1 0) (get_or all 2 0) (get_or all 3 0)

-- a word with its next four bytes put in
pub word_with_four : (w : Word) → IsFilled w → w.left < 32 → 4 ≤ length w.rest.now
    → get_or w.rest.now 0 0 < 256 → get_or w.rest.now 1 0 < 256 → get_or w.rest.now 2 0 < 256
    → get_or w.rest.now 3 0 < 256
    → get_or w.rest.now 0 0 ≢ 3 → get_or w.rest.now 1 0 ≢ 3 → get_or w.rest.now 2 0 ≢ 3
    → get_or w.rest.now 3 0 ≢ 3 → get_or w.rest.now 3 0 ≢ 0
    → PutsFour w.left (bytes_ahead w) w.filled w.cache w.marks (next_number w) (base_of w)
    (before 0 w.dropped (drop 4 w.rest.now))
word_with_four w f fits long first second third fourth a3 b3 d3 e3 e0 =
    let all = w.rest.now in
    let s = subst
    (λ (l : List ℕ). Stands w.left (bytes_ahead w) w.filled w.cache w.marks (base_of w)
    (before w.zeros w.dropped l)) (four_first all long) (stands w f) in
    puts_four w.left (bytes_ahead w) w.filled w.cache w.marks _ _ _ _ w.zeros w.dropped (drop 4 all)
    (base_of w) fits first second third fourth a3 b3 d3 e3 e0 s
