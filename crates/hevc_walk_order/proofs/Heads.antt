-- What is so of every picture where no unit is refused: its order count is in range, and its flags
-- agree. And the numbers
-- of pictures rise.
use Rattle.std.proofs.Common.{◌≡◌, ◌≢◌, ℕ, ◌+◌, ◌<◌, ◌≤◌, Bool, true, false, not, cond, ◌&&◌, ◌||◌}
use Rattle.std.proofs.Common.{eqb, List, [], ◌∷◌, ◌++◌, length, refl, ◌∙◌, ap, arith, Option, Some}
use Rattle.std.proofs.Common.{None, length-append}
use Rattle.std.specs.List.{AllByRecursion as Each}
use Rattle.std.proofs.lemmas.Bool.Decides.{nat_tests}
use Rattle.hevc_spec.specs.UnitTypes.{is_irap, is_rasl, is_cra}
use Rattle.hevc_walk.specs.Meanings.{Slice, Meaning, CodedSlice, Refused, SequenceSet}
use Rattle.hevc_walk.specs.Meanings.{EndOfSequence, EndOfBitstream, Other}
use Rattle.hevc_walk.specs.DependentSlices.{whole_slice}
use Rattle.hevc_walk.specs.Pictures.{Context, Head, Picture, Stream, context, head}
use Rattle.hevc_walk.specs.Pictures.{order_count_in_range, no_rasl_output, new_picture, with_unit}
use Rattle.hevc_walk.specs.Pictures.{with_slice, with_whole, with_sequence_end, with_bitstream_end}
use Rattle.hevc_walk.specs.Pictures.{stream_from}
use Rattle.hevc_walk.specs.Walk.{is_decoded}
use Rattle.hevc_walk.specs.Refusals.{Cause, PocOutOfRange, refusal, refusal_of_slice}
use Rattle.hevc_walk.specs.Refusals.{refusal_of_whole, refusal_of_picture, refusal_of_later}
use Rattle.hevc_walk.specs.Refusals.{first_refusal, stop_from}
use Rattle.hevc_walk.specs.Fates.{among}
use Rattle.hevc_walk_fates.proofs.Numbers.{Numbered, numbered-length}
use Rattle.hevc_walk_order.proofs.Each.{each-weaker}

pub record IsHead (p : Head) : Type 0 where
  pub range : order_count_in_range p ≡ true
  -- no IRAP picture is RASL
  pub starts : p.starts_sequence ≡ true → p.skipped ≡ false
  -- only a picture that starts a sequence discards
  pub within : p.starts_sequence ≡ false → p.no_output_of_prior_pics ≡ false

abbrev pub AreHeads : List Picture → Type 0
AreHeads ps = Each (λ p. IsHead p.head) ps

irap-not-rasl : (t : ℕ) → is_irap t ≡ true → is_rasl t ≡ false
irap-not-rasl t h = grind (arith, nat_tests)

head-is : (c : Context) (s : Slice) → order_count_in_range (head c s) ≡ true → IsHead (head c s)
unfolding head
head-is c s h = record {
  range = h;
  starts = λ e. by_type (is_irap s.nal_unit_type) (is_rasl s.nal_unit_type) (irap-not-rasl s.nal_unit_type) e;
  within = λ e. by_starts (is_irap s.nal_unit_type && no_rasl_output c s) e;
}
  where
    by_type : (i r : Bool) → (i ≡ true → r ≡ false) → i && no_rasl_output c s ≡ true
        → r && c.latest_irap_no_rasl ≡ false
    by_type true r k e = ap (λ (b : Bool). b && c.latest_irap_no_rasl) (k refl)
    by_type false r k e = absurd (cc e)

    by_starts : (b : Bool) → b ≡ false
        → b && not c.first_in_bitstream && (is_cra s.nal_unit_type || s.no_output_of_prior_pics_flag) ≡ false
    by_starts true e = absurd (cc e)
    by_starts false e = refl

picture-none : (p : Head) → refusal_of_picture p ≡ None → order_count_in_range p ≡ true
picture-none p h = by_test (order_count_in_range p) h
  where
    by_test : (b : Bool) → cond b None (Some PocOutOfRange) ≡ None → b ≡ true
    by_test true h = refl
    by_test false h = absurd (cc h)

slice-heads : (k : ℕ) (s : Slice) (ps : List Picture) → refusal_of_whole ps s ≡ None → AreHeads ps
    → AreHeads (with_slice k s ps)
slice-heads k s [] none h = (head-is (context []) s (picture-none (head (context []) s) none), tt)
slice-heads k s (p ∷ before) none h = by_test s.first_slice_segment_in_pic_flag none
  where
    by_test : (b : Bool)
        → cond b (refusal_of_picture (head (context (p ∷ before)) s)) (refusal_of_later p.head s) ≡ None
        → AreHeads (cond b (new_picture k s (p ∷ before) ∷ p ∷ before)
        (record p { slices = p.slices ++ (k, s) ∷ [] } ∷ before))
    by_test true none = (head-is (context (p ∷ before)) s (picture-none (head (context (p ∷ before)) s) none), h)
    by_test false none = h

whole-heads : (k : ℕ) (s : Option Slice) (ps : List Picture) → refusal_of_slice ps s ≡ None → AreHeads ps
    → AreHeads (with_whole k s ps)
whole-heads k None ps none h = h
whole-heads k (Some s) ps none h = slice-heads k s ps none h

sequence_end-heads : (ps : List Picture) → AreHeads ps → AreHeads (with_sequence_end ps)
sequence_end-heads [] h = h
sequence_end-heads (p ∷ before) h = h

bitstream_end-heads : (ps : List Picture) → AreHeads ps → AreHeads (with_bitstream_end ps)
bitstream_end-heads [] h = h
bitstream_end-heads (p ∷ before) h = h

unit-heads : (k : ℕ) (u : Meaning) (v : Stream) → refusal v u ≡ None → AreHeads v.pictures
    → AreHeads (with_unit k u v).pictures
unit-heads k (SequenceSet format) v none h = h
unit-heads k (CodedSlice s) v none h = whole-heads k (whole_slice v.kept s) v.pictures none h
unit-heads k EndOfSequence v none h = sequence_end-heads v.pictures h
unit-heads k EndOfBitstream v none h = bitstream_end-heads v.pictures h
unit-heads k Other v none h = h
unit-heads k (Refused cause) v none h = h

pub stream-heads : (k : ℕ) (v : Stream) (us : List Meaning) → stop_from k v us ≡ None → AreHeads v.pictures
    → AreHeads (stream_from k v us).pictures
stream-heads k v [] none h = h
stream-heads k v (u ∷ us) none h = by_refusal (refusal v u) refl none (stream-heads (k + 1) (with_unit k u v) us)
  where
    by_refusal : (r : Option Cause) → refusal v u ≡ r
        → first_refusal k r (stop_from (k + 1) (with_unit k u v) us) ≡ None
        → (stop_from (k + 1) (with_unit k u v) us ≡ None → AreHeads (with_unit k u v).pictures
        → AreHeads (stream_from (k + 1) (with_unit k u v) us).pictures)
        → AreHeads (stream_from (k + 1) (with_unit k u v) us).pictures
    by_refusal None is none further = further none (unit-heads k u v is h)
    by_refusal (Some cause) is none further = absurd (cc none)

pub decoded : (p : Head) → order_count_in_range p ≡ true → p.skipped ≡ false → is_decoded p ≡ true
decoded p range skipped = ap (λ (b : Bool). b && not p.skipped) range ∙ ap not skipped

pub not_decoded : (p : Head) → p.skipped ≡ true → is_decoded p ≡ false
not_decoded p skipped = by_test (order_count_in_range p) p.skipped skipped
  where
    by_test : (b c : Bool) → c ≡ true → b && not c ≡ false
    by_test true true h = refl
    by_test true false h = absurd (cc h)
    by_test false c h = refl

-- the numbers of some pictures are below how many they are, and those of later ones aren't
pub numbers-below : (ps : List Picture) → Numbered ps → Each (λ p. p.number < length ps) ps
numbers-below [] h = tt
numbers-below (p ∷ before) h =
    let n : p.number ≡ length before = h.0 ∙ numbered-length before h.1 in (
      omega (arith, n),
      each-weaker (λ q. q.number < length before) (λ q. q.number < length (p ∷ before))
          (λ q k. omega (arith, k)) before (numbers-below before h.1),
    )

pub numbers-above : (ps before : List Picture) → Numbered (ps ++ before) → Each (λ p. length before ≤ p.number) ps
numbers-above [] before h = tt
numbers-above (p ∷ ps) before h =
    let n : p.number ≡ length (ps ++ before) = h.0 ∙ numbered-length (ps ++ before) h.1 in
    let l : length (ps ++ before) ≡ length ps + length before = length-append ps before in
    (omega (arith, n, l), numbers-above ps before h.1)

pub numbered-right : (ps before : List Picture) → Numbered (ps ++ before) → Numbered before
numbered-right [] before h = h
numbered-right (p ∷ ps) before h = numbered-right ps before h.1

-- numbers of a run are those from m up to n
pub among-none : (n : ℕ) (ms : List ℕ) → Each (λ m. m ≢ n) ms → among n ms ≡ false
among-none n [] h = refl
among-none n (m ∷ ms) h = ap (λ (b : Bool). b || among n ms) (other m n h.0) ∙ among-none n ms h.1
  where
    other : (m n : ℕ) → m ≢ n → eqb m n ≡ false
    other m n h = grind (arith, nat_tests)

pub among-own : (ms : List ℕ) → Each (λ m. among m ms ≡ true) ms
among-own [] = tt
among-own (m ∷ ms) = (
  ap (λ (b : Bool). b || among m ms) (same m),
  each-weaker (λ n. among n ms ≡ true)
      (λ n. among n (m ∷ ms) ≡ true) (λ n h. or-right (eqb m n) (among n ms) h) ms (among-own ms),
)
  where
    same : (m : ℕ) → eqb m m ≡ true
    same m = grind (arith, nat_tests)

    or-right : (a b : Bool) → b ≡ true → a || b ≡ true
    or-right true b h = refl
    or-right false b h = h
