-- The payload bits at a word.
use Rattle.std.proofs.Common.{◌≡◌, ℕ, zero, suc, ◌+◌, ◌-◌, ◌*◌, ◌/◌, ◌%◌, ◌^◌, ◌<◌, ◌≤◌, Bool, true}
use Rattle.std.proofs.Common.{false, List, [], ◌++◌, length, drop, Option, Some, None, refl, ap}
use Rattle.std.proofs.Common.{sym, subst, ◌∙◌, arith, append_assoc}
use Rattle.std.specs.Prelude.{min, nat_le}
use Rattle.std.proofs.Math.ListN.{length-append}
use Rattle.hevc_spec.specs.Payload.{Place, bits, payload_bits, low_bits, loading, with_bits}
use Rattle.hevc_spec.specs.Bits.{found, bits_after, ue_at}
use Rattle.hevc_spec.proofs.PlaceLaws.{low_bits_length, with_bits_keeps, with_bits_none, passed}
use Rattle.hevc_spec.proofs.LowBits.{low_bits-add, spells, drop-low_bits, golomb-low_bits}
use Rattle.hevc_bits.specs.declared.word.Word.{Word}
use Rattle.hevc_bits.specs.Cached.{byte_on, bytes_on, loaded_with, place_in, place_of, base_of}
use Rattle.hevc_bits.specs.Cached.{end_of, ahead, IsNextByte, Holds, IsFilled, Fills, Takes}
use Rattle.hevc_bits.specs.Cached.{TakesGolomb}
use Rattle.hevc_bits.proofs.WordSteps.{holds_ends, holds_first, holds_others, Stands, passes, loads}

bits-loaded : (unread n : ℕ) (p : Place) → bits (loaded_with unread n p) ≡ low_bits unread n
    ++ payload_bits p.zero_run p.behind
unfolding bits
bits-loaded unread n p = refl

bits-parts : (p : Place) → bits p ≡ p.loaded ++ payload_bits p.zero_run p.behind
unfolding bits
bits-parts p = refl

bits-next : (b : List Bool) (mark : ℕ) (p q : Place) → IsNextByte b mark p q
    → payload_bits p.zero_run p.behind ≡ b ++ payload_bits q.zero_run q.behind
bits-next b mark p q next =
    let k = with_bits_keeps (record p { loaded = [] }) q next.loads in
    sym (bits-loaded 0 0 p) ∙ sym k.0 ∙ bits-parts q
    ∙ ap (λ (x : List Bool). x ++ payload_bits q.zero_run q.behind) next.loaded

bits-held : (n c marks : ℕ) (p end : Place) → Holds n c marks p end
    → payload_bits p.zero_run p.behind ≡ low_bits (8 * n) c ++ payload_bits end.zero_run end.behind
bits-held zero c marks p end h = let same = holds_ends c marks p end h in rw (same.zero_run, same.behind) refl
bits-held (suc n) c marks p end h =
    let e : 8 * suc n ≡ 8 + 8 * n = omega arith in
    let first = bits-next _ _ p (byte_on p) (holds_first n c marks p end h) in
    let others = bits-held n c marks (byte_on p) end (holds_others n c marks p end h) in
    rw e (first ∙ ap (λ (x : List Bool). low_bits 8 (c / 2 ^ (8 * n)) ++ x) others
    ∙ sym (append_assoc (low_bits 8 (c / 2 ^ (8 * n))) (low_bits (8 * n) c) (payload_bits end.zero_run end.behind))
    ∙ ap (λ (x : List Bool). x ++ payload_bits end.zero_run end.behind) (sym (low_bits-add 8 (8 * n) c)))

bits-stands : (left ahead filled c marks : ℕ) (base end : Place) → Stands left ahead filled c marks base end
    → bits (place_in left ahead filled c base) ≡ low_bits left c ++ payload_bits end.zero_run end.behind
bits-stands left ahead filled c marks base end s =
    let here = bytes_on (filled - ahead) base in
    let rest = payload_bits end.zero_run end.behind in
    let high = low_bits (left - 8 * ahead) (c / 2 ^ (8 * ahead)) in
    let e : (left - 8 * ahead) + 8 * ahead ≡ left = omega (arith, s.unread) in
    bits-loaded (left - 8 * ahead) (c / 2 ^ (8 * ahead)) here
    ∙ ap (λ (x : List Bool). high ++ x) (bits-held ahead c marks here end s.holds)
    ∙ sym (append_assoc high (low_bits (8 * ahead) c) rest)
    ∙ ap (λ (x : List Bool). x ++ rest) (sym (low_bits-add (left - 8 * ahead) (8 * ahead) c))
    ∙ ap (λ (x : ℕ). low_bits x c ++ rest) e

pub stands : (w : Word) → IsFilled w → Stands w.left (ahead w) w.filled w.cache w.marks (base_of w) (end_of w)
stands w f = record { unread = omega arith; whole = f.whole; among = omega (arith, f.among); holds = f.holds }

-- the unread bits of a word and those after it
pub bits-word : (w : Word) → IsFilled w → bits (place_of w) ≡ low_bits w.left w.cache ++ payload_bits w.zeros w.rest.now
bits-word w f = bits-stands w.left (ahead w) w.filled w.cache w.marks (base_of w) (end_of w) (stands w f)

-- a word as `take` leaves it
abbrev pub taken_word : ℕ → Word → Word
taken_word num w = record w { left = w.left - num }

pub taken : (num : ℕ) (w : Word) → IsFilled w → num ≤ w.left
    → Takes num ((w.cache / 2 ^ (w.left - num)) % 2 ^ num) w (taken_word num w)
taken num w f le =
    let new = taken_word num w in
    let p = passes num w.left (ahead w) w.filled w.cache w.marks (base_of w) (end_of w) le (stands w f) in
    let least : min (ahead w) ((w.left - num) / 8) ≡ ahead new = omega arith in
    let s = rw least at p.stands in
    let filled : IsFilled new = record {
      whole = s.whole;
      fits = omega (arith, f.fits);
      among = f.among;
      zeros = f.zeros;
      part = f.part;
      short = f.short;
      few = f.few;
      holds = s.holds;
    } in
    let rest = payload_bits w.zeros w.rest.now in
    record {
      filled = filled;
      passes = rw least at p.moves;
      spells = λ front. ap (bits_after front num) (bits-word w f) ∙ spells front num w.left w.cache rest le
          ∙ ap (λ (x : List Bool). found (front * 2 ^ num + (w.cache / 2 ^ (w.left - num)) % 2 ^ num) x)
          (sym (bits-word new filled));
    }

-- a word as `fill` leaves it, where the bytes end
pub bits-ended : (w : Word) → IsFilled w → loading w.zeros w.dropped w.rest.now ≡ None
    → length (bits (place_of w)) ≡ w.left
bits-ended w f none =
    let p : Place = record { loaded = []; zero_run = w.zeros; behind = w.rest.now; dropped = w.dropped } in
    let empty : payload_bits w.zeros w.rest.now ≡ [] = sym (bits-loaded 0 0 p) ∙ with_bits_none p none in
    ap length (bits-word w f) ∙ length-append (low_bits w.left w.cache) (payload_bits w.zeros w.rest.now)
    ∙ rw (low_bits_length w.left w.cache, empty) (omega arith)

pub taken_golomb : (zeros behind value : ℕ) (w new : Word) → IsFilled w → w.left ≡ (2 * zeros + 1) + behind
    → 2 ^ (zeros + behind) ≤ w.cache % 2 ^ w.left → w.cache % 2 ^ w.left < 2 ^ suc (zeros + behind) → zeros ≤ 30
    → Takes (2 * zeros + 1) value w new
    → value ≡ (w.cache / 2 ^ (w.left - (2 * zeros + 1))) % 2 ^ (2 * zeros + 1) → TakesGolomb (value - 1) w new
taken_golomb zeros behind value w new f long big small few t is =
    let rest = payload_bits w.zeros w.rest.now in
    let p = passed (2 * zeros + 1) (place_of w) (place_of new) t.passes in
    let back : w.left - (2 * zeros + 1) ≡ behind = omega arith in
    let left : bits (place_of new) ≡ low_bits behind w.cache ++ rest =
    p.rest ∙ ap (drop (2 * zeros + 1)) (bits-word w f) ∙ drop-low_bits (2 * zeros + 1) w.left w.cache rest
    (omega arith) ∙ rw back refl in
    let same : (w.cache / 2 ^ behind) % 2 ^ (2 * zeros + 1) ≡ value = sym (is ∙ rw back refl) in
    record {
      filled = t.filled;
      ahead = p.ahead;
      reached = p.reached;
      finds = ap ue_at (bits-word w f) ∙ golomb-low_bits zeros behind w.left w.cache rest long big small few
          ∙ rw (same, left) refl;
    }

-- ---- words that are filled and reach a byte

leb-held : (num left : ℕ) → nat_le num left ≡ true → num ≤ left
leb-held num left e = grind arith

leb-few : (num left : ℕ) → nat_le num left ≡ false → left < num
leb-few num left e = grind arith

pub fills : (num : ℕ) (old new : Word) → IsFilled new → place_of new ≡ place_of old
    → (new.left < num → loading new.zeros new.dropped new.rest.now ≡ None) → Fills num (nat_le num new.left) old new
fills num old new f same none = record {
  filled = f;
  same = same;
  held = leb-held num new.left;
  ends = λ e.
      let few = leb-few num new.left e in
      let long : length (bits (place_of new)) ≡ new.left = bits-ended new f (none few) in
      let all : length (bits (place_of new)) ≡ length (bits (place_of old)) =
      ap (λ (p : Place). length (bits p)) same in
      omega arith;
}

pub none_to_load : (p : Place) → length (bits p) < 1 → with_bits p ≡ None
none_to_load p few = by_loading (with_bits p) refl
  where
    by_loading : (o : Option Place) → with_bits p ≡ o → o ≡ None
    by_loading None is = refl
    by_loading (Some q) is =
        let k = with_bits_keeps p q is in
        let long : length (bits q) ≡ length q.loaded + length (payload_bits q.zero_run q.behind) =
        ap length (bits-parts q) ∙ length-append q.loaded (payload_bits q.zero_run q.behind) in
        absurd (omega (arith, k.2, long, ap length k.0))

-- how many bits of the byte that is reached are unread is told by where the word is
pub same_unread : (v w : Word) → place_of v ≡ place_of w → v.left - 8 * ahead v ≡ w.left - 8 * ahead w
same_unread v w e =
    let long = ap (λ (p : Place). length p.loaded) e in
    sym (low_bits_length (v.left - 8 * ahead v) (v.cache / 2 ^ (8 * ahead v))) ∙ long
    ∙ low_bits_length (w.left - 8 * ahead w) (w.cache / 2 ^ (8 * ahead w))

-- the word as `load` leaves it
abbrev pub reaching : Word → Word
reaching w = record w { most_ahead = ahead w - 1 }

pub record Reaches (old w : Word) : Type 0 where
  pub some_ahead : 1 ≤ ahead w
  pub filled : IsFilled (reaching w)
  pub loads : with_bits (place_of old) ≡ Some (place_of (reaching w))
  pub some : 0 < length (place_of (reaching w)).loaded

pub reaches : (old w : Word) → IsFilled w → place_of w ≡ place_of old → old.left ≤ 8 * ahead old
    → 1 ≤ w.left → Reaches old w
reaches old w f same read_up held =
    let e : w.left ≡ 8 * ahead w = omega (arith, same_unread w old same) in
    let a = ahead w - 1 in
    let k : ahead w ≡ suc a = omega arith in
    let new : ahead (reaching w) ≡ a = omega arith in
    let s : Stands w.left (suc a) w.filled w.cache w.marks (base_of w) (end_of w) =
    subst (λ (x : ℕ). Stands w.left x w.filled w.cache w.marks (base_of w) (end_of w)) k (stands w f) in
    let l = loads w.left a w.filled w.cache w.marks (base_of w) (end_of w) (omega arith) s in
    let t = subst (λ (x : ℕ). Stands w.left x w.filled w.cache w.marks (base_of w) (end_of w)) (sym new) l.1 in
    let here : place_of w ≡ place_in w.left (suc a) w.filled w.cache (base_of w) =
    ap (λ (x : ℕ). place_in w.left x w.filled w.cache (base_of w)) k in
    record {
      some_ahead = omega arith;
      filled = record {
        whole = t.whole;
        fits = f.fits;
        among = omega (arith, f.among);
        zeros = f.zeros;
        part = f.part;
        short = f.short;
        few = f.few;
        holds = t.holds;
      };
      loads = subst
          (λ (x : ℕ). with_bits (place_of old) ≡ Some (place_in w.left x w.filled w.cache (base_of w)))
          (sym new) (ap with_bits (sym same ∙ here) ∙ l.0);
      some = subst (λ (x : ℕ). 0 < length (low_bits (w.left - 8 * x) (w.cache / 2 ^ (8 * x)))) (sym new)
          (omega (arith, low_bits_length (w.left - 8 * a) (w.cache / 2 ^ (8 * a))));
    }
