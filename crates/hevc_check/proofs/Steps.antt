-- A check goes on from unit to unit.
use Rattle.std.proofs.Common.{◌≡◌, ℕ, ℤ, zero, suc, ◌-◌, ◌+◌, ◌≤◌, Bool, true, false, cond, List}
use Rattle.std.proofs.Common.{[], ◌∷◌, ◌++◌, refl, sym, ap, ◌∙◌, subst, arith, Option, Some, None}
use Rattle.std.proofs.Common.{if◌then◌else◌}
use Rattle.std.specs.Prelude.{int_lt, count_by, filter}
use Rattle.hevc_walk.specs.Meanings.{Format, Slice, Meaning, SequenceSet, CodedSlice, EndOfSequence}
use Rattle.hevc_walk.specs.Meanings.{EndOfBitstream, Other, Refused}
use Rattle.hevc_walk.specs.DependentSlices.{KeptHeader, whole_slice, kept_header}
use Rattle.hevc_walk.specs.Pictures.{Context, Head, Picture, Stream, head, context, with_unit}
use Rattle.hevc_walk.specs.Pictures.{with_slice, with_whole, with_sequence_end, with_bitstream_end}
use Rattle.hevc_walk.specs.Pictures.{new_picture}
use Rattle.hevc_walk.specs.Walk.{latest_head}
use Rattle.hevc_walk_agree.specs.Standings.{full_by}
use Rattle.hevc_walk_order.specs.Sequences.{begins, earliest, is_for_output}
use Rattle.hevc_check_laws.specs.Breaches.{Breach, Changed, Latency, SameCount, Full, Discards}
use Rattle.hevc_check_laws.specs.Breaches.{Reorder, latest_sequence, differs_from, all_breaches}
use Rattle.hevc_check_laws.specs.Orders.{was_full_up_to}
use Rattle.hevc_check_laws.specs.Checks.{BrokenAt, first_breach, broken_at, earlier_broken, lowest_broken}
use Rattle.hevc_check.specs.declared.begun.Begun.{Begun}
use Rattle.hevc_check.specs.declared.sequence.Sequence.{Sequence}
use Rattle.hevc_check.specs.declared.check.Check.{Check}
use Rattle.hevc_check.specs.declared.check.Checked.TheVariants.{No}
use Rattle.hevc_check.specs.declared.breach.Breach as code
use Rattle.hevc_check.specs.Breaches.{breach_of}
use Rattle.hevc_check.specs.Places.{Place, place, after_unit, first_slice, first_if, with_first}
use Rattle.hevc_check.specs.Places.{starts_sequence_after, TellsPicture, TellsFirst}
use Rattle.hevc_check.specs.declared.table.Table.{Table}
use Rattle.hevc_check.specs.declared.table.Table.TheVariants.{Bounds, Order}
use Rattle.hevc_check.specs.declared.late.HighestCounts.{HighestCounts}
use Rattle.hevc_check.specs.Late.{AreHighest, Fall, late_by}
use Rattle.hevc_check.proofs.Lateness.{late-cons, late_at}
use Rattle.hevc_check.specs.Tables.{breaks_by, is_counted}
use Rattle.hevc_check.specs.Sequences.{Follows, FollowsAll, FollowsLatest, TellsNext, first_or, has_count, output_above}
use Rattle.hevc_check.specs.Steps as steps
use Rattle.hevc_check.specs.Steps.{IsAt, num_sequences, lowest}
use Rattle.hevc_check.proofs.Places.{place_unit}

-- ---- later slices and ends of a picture say nothing of what it breaks

abbrev touched : List (ℕ × Slice) → Bool → Bool → Picture → Picture
touched ss a b p = record p { slices = ss; sequence_ends = a; bitstream_ends = b }

module _ (ss : List (ℕ × Slice)) (a b : Bool) (p : Picture) where
  differs_same : (o : Option Picture) → differs_from (touched ss a b p) o ≡ differs_from p o
  differs_same None = refl
  differs_same (Some first) = refl

  breaks_same : (t : Table) (set : Option (ℕ × Format)) (before : List Picture) (x : Breach)
      → breaks_by t set (touched ss a b p) before x ≡ breaks_by t set p before x
  breaks_same Bounds set [] Changed = refl
  breaks_same Bounds set (q ∷ before) Changed =
      differs_same (earliest (if p.starts_sequence then [] else latest_sequence (q ∷ before)))
  breaks_same Bounds set before Latency = refl
  breaks_same Bounds set [] SameCount = refl
  breaks_same Bounds set (q ∷ before) SameCount = refl
  breaks_same Bounds set [] Full = refl
  breaks_same Bounds set (q ∷ before) Full = refl
  breaks_same Bounds set before Discards = refl
  breaks_same Bounds set [] Reorder = refl
  breaks_same Bounds set (q ∷ before) Reorder = refl
  breaks_same Order set [] Changed = refl
  breaks_same Order set (q ∷ before) Changed =
      differs_same (earliest (if p.starts_sequence then [] else latest_sequence (q ∷ before)))
  breaks_same Order set [] Latency = refl
  breaks_same Order set (q ∷ before) Latency = refl
  breaks_same Order set [] SameCount = refl
  breaks_same Order set (q ∷ before) SameCount = refl
  breaks_same Order set [] Full = refl
  breaks_same Order set (q ∷ before) Full = refl
  breaks_same Order set before Discards = refl
  breaks_same Order set [] Reorder = refl
  breaks_same Order set (q ∷ before) Reorder = refl

  broken_same : (o : Option Breach) → broken_at (touched ss a b p) o ≡ broken_at p o
  broken_same None = refl
  broken_same (Some x) = refl

  lowest_same : (t : Table) (set : Option (ℕ × Format)) (before : List Picture)
      → lowest_broken (breaks_by t set) (touched ss a b p ∷ before) ≡ lowest_broken (breaks_by t set) (p ∷ before)
  lowest_same t set before =
      ap (λ (o : Option Breach). earlier_broken (lowest_broken (breaks_by t set) before)
      (broken_at (touched ss a b p) o)) (by all_breaches)
      ∙ ap (earlier_broken (lowest_broken (breaks_by t set) before))
      (broken_same (first_breach (breaks_by t set p before) all_breaches))
    where
      by : (bs : List Breach)
          → first_breach (breaks_by t set (touched ss a b p) before) bs ≡ first_breach (breaks_by t set p before) bs
      by [] = refl
      by (x ∷ bs) =
          ap (λ (c : Bool). if c then Some x else first_breach (breaks_by t set (touched ss a b p) before) bs)
          (breaks_same t set before x)
          ∙ ap (λ (o : Option Breach). if breaks_by t set p before x then Some x else o) (by bs)

  first_limits : (next : Picture) (es : List Picture)
      → ((first_or next (earliest (touched ss a b p ∷ es))).limits ≡ (first_or next (earliest (p ∷ es))).limits)
      × ((first_or next (earliest (touched ss a b p ∷ es))).format ≡ (first_or next (earliest (p ∷ es))).format)
  first_limits next [] = (refl, refl)
  first_limits next (q ∷ es) = (refl, refl)

  counted_same : (c : ℤ) (x : Bool) (es : List Picture)
      → has_count c (cond x (touched ss a b p ∷ es) es) ≡ has_count c (cond x (p ∷ es) es)
  unfolding has_count
  counted_same c true es = refl
  counted_same c false es = refl

  counts_same : (t : Table) (c : ℤ) (es : List Picture)
      → has_count c (filter (is_counted t) (touched ss a b p ∷ es)) ≡ has_count c (filter (is_counted t) (p ∷ es))
  counts_same Bounds c es = counted_same c true (filter (is_counted Bounds) es)
  counts_same Order c es = counted_same c (is_for_output p) (filter (is_counted Order) es)

  late_same : (c : ℤ) (n : ℕ) (x : Bool) → late_at c n (touched ss a b p) x ≡ late_at c n p x
  late_same c zero x = refl
  late_same c (suc n) x = refl

  so_far_same : (es : List Picture) (h : HighestCounts) → AreHighest (p ∷ es) h → AreHighest (touched ss a b p ∷ es) h
  so_far_same es h is c n =
      is c n ∙ late-cons c n p es
      ∙ ap (λ (x : Bool). if p.skipped then late_by c n es else x) (sym (late_same c n (late_by c (n - 1) es)))
      ∙ sym (late-cons c n (touched ss a b p) es)

  filled_same : (set : Option (ℕ × Format)) (c : ℤ) (before : List Picture)
      → was_full_up_to set c (touched ss a b p ∷ before) ≡ was_full_up_to set c (p ∷ before)
  filled_same set c [] = refl
  filled_same set c (q ∷ before) = refl

  output_same : (c : ℤ) (es : List Picture) → output_above c (touched ss a b p ∷ es) ≡ output_above c (p ∷ es)
  unfolding output_above
  output_same c es = by (is_for_output p) (filter is_for_output es)
    where
      by : (t : Bool) (xs : List Picture)
          → count_by (λ q. int_lt c q.order_count) (cond t (touched ss a b p ∷ xs) xs)
          ≡ count_by (λ q. int_lt c q.order_count) (cond t (p ∷ xs) xs)
      by true xs = refl
      by false xs = refl

  follows_same : (next : Picture) (es : List Picture) (q : Sequence) → Follows next (p ∷ es) q
      → Follows next (touched ss a b p ∷ es) q
  follows_same next es q f = record {
    limits = f.limits ∙ sym (first_limits next es).0;
    format = f.format ∙ sym (first_limits next es).1;
    counts = λ c. f.counts c ∙ sym (counts_same q.table c es);
    highest = λ c. f.highest c ∙ ap (Rattle.std.specs.Prelude.min (q.limits.reorder + 1)) (sym (output_same c es));
    so_far = so_far_same es q.so_far f.so_far;
  }

  latest_same : (before : List Picture) (q : Sequence) → FollowsLatest (p ∷ before) q
      → FollowsLatest (touched ss a b p ∷ before) q
  latest_same [] q f = λ next. follows_same next [] q (f next)
  latest_same (r ∷ before) q f =
      λ next. follows_same next (if p.starts_sequence then [] else latest_sequence (r ∷ before)) q (f next)

  all_same : (set : Option (ℕ × Format)) (before : List Picture) (q : Sequence) → FollowsAll set (p ∷ before) q
      → FollowsAll set (touched ss a b p ∷ before) q
  all_same set before q f =
      record {
        latest = latest_same before q f.latest;
        filled = λ c fits. f.filled c fits
            ∙ sym (filled_same set c before);
      }

  sequences_same : (before : List Picture) → num_sequences (touched ss a b p ∷ before) ≡ num_sequences (p ∷ before)
  sequences_same [] = refl
  sequences_same (r ∷ before) = refl

-- What stays as it was with a unit.
pub record Still (v w : Stream) : Type 0 where
  pub follows : (q : Sequence) → FollowsAll v.first_set v.pictures q → FollowsAll w.first_set w.pictures q
  pub sequences : num_sequences w.pictures ≡ num_sequences v.pictures
  pub lowest_is : (t : Table) → lowest t w ≡ lowest t v
  pub full : full_by w ≡ full_by v
  pub numbers : Fall (context v.pictures).number v.pictures → Fall (context w.pictures).number w.pictures

same_still : (v : Stream) → Still v v
same_still v = record { follows = λ q f. f; sequences = refl; lowest_is = λ t. refl; full = refl; numbers = λ h. h }

set_still : (k : ℕ) (format : Format) (v : Stream) (set : Option (ℕ × Format)) (ps : List Picture) → v.first_set ≡ set
    → v.pictures ≡ ps → Still v (with_unit k (SequenceSet format) v)
set_still k format v None [] e ps =
    rw (e, ps)
    (record {
      follows = λ q f. record { latest = f.latest; filled = f.filled };
      sequences = refl;
      lowest_is = λ t. refl;
      full = refl;
      numbers = λ h. h;
    })
set_still k format v None (p ∷ before) e ps =
    rw (e, ps) (record { follows = λ q f. f; sequences = refl; lowest_is = λ t. refl; full = refl; numbers = λ h. h })
set_still k format v (Some set) ps e is =
    rw e (record { follows = λ q f. f; sequences = refl; lowest_is = λ t. refl; full = refl; numbers = λ h. h })

touched_still : (set : Option (ℕ × Format)) (kept later : Option KeptHeader) (ss : List (ℕ × Slice)) (a b : Bool)
    (p : Picture) (before : List Picture)
    → Still (record { first_set = set; kept = kept; pictures = p ∷ before })
    (record { first_set = set; kept = later; pictures = touched ss a b p ∷ before })
touched_still set kept later ss a b p before = record {
  follows = λ q f. all_same ss a b p set before q f;
  sequences = sequences_same ss a b p before;
  lowest_is = λ t. lowest_same ss a b p t set before;
  full = refl;
  numbers = λ h. h;
}

abbrev of_parts : Option (ℕ × Format) → Option KeptHeader → List Picture → Stream
of_parts set kept ps = record { first_set = set; kept = kept; pictures = ps }

kept_still : (set : Option (ℕ × Format)) (kept later : Option KeptHeader) (ps : List Picture)
    → Still (of_parts set kept ps) (of_parts set later ps)
kept_still set kept later ps =
    record { follows = λ q f. f; sequences = refl; lowest_is = λ t. refl; full = refl; numbers = λ h. h }

slice_still : (k : ℕ) (set : Option (ℕ × Format)) (kept later : Option KeptHeader) (s : Slice) (ps : List Picture)
    → first_if (Some s) (latest_head ps) ≡ None → Still (of_parts set kept ps) (of_parts set later (with_slice k s ps))
slice_still k set kept later s [] none = absurd (cc none)
slice_still k set kept later s (p ∷ before) none = by s.first_slice_segment_in_pic_flag none
  where
    by : (t : Bool) → cond t (Some s) None ≡ None
        → Still (of_parts set kept (p ∷ before))
        (of_parts set later
        (cond t (new_picture k s (p ∷ before) ∷ p ∷ before)
        (record p { slices = p.slices ++ (k, s) ∷ [] } ∷ before)))
    by true e = absurd (cc e)
    by false e = touched_still set kept later (p.slices ++ (k, s) ∷ []) p.sequence_ends p.bitstream_ends p before

whole_still : (k : ℕ) (set : Option (ℕ × Format)) (kept later : Option KeptHeader) (s : Option Slice)
    (ps : List Picture) → first_if s (latest_head ps) ≡ None
    → Still (of_parts set kept ps) (of_parts set later (with_whole k s ps))
whole_still k set kept later None ps none = kept_still set kept later ps
whole_still k set kept later (Some s) ps none = slice_still k set kept later s ps none

sequence_end_still : (set : Option (ℕ × Format)) (kept : Option KeptHeader) (ps : List Picture)
    → Still (of_parts set kept ps) (of_parts set kept (with_sequence_end ps))
sequence_end_still set kept [] = kept_still set kept kept []
sequence_end_still set kept (p ∷ before) = touched_still set kept kept p.slices true p.bitstream_ends p before

bitstream_end_still : (set : Option (ℕ × Format)) (kept : Option KeptHeader) (ps : List Picture)
    → Still (of_parts set kept ps) (of_parts set kept (with_bitstream_end ps))
bitstream_end_still set kept [] = kept_still set kept kept []
bitstream_end_still set kept (p ∷ before) = touched_still set kept kept p.slices p.sequence_ends true p before

-- a unit with which no picture begins
pub still : (k : ℕ) (u : Meaning) (v : Stream) → first_slice u (place v) ≡ None → Still v (with_unit k u v)
still k (SequenceSet format) v none = set_still k format v v.first_set v.pictures refl refl
still k (CodedSlice s) v none =
    whole_still k v.first_set v.kept (kept_header v.kept s) (whole_slice v.kept s) v.pictures none
still k EndOfSequence v none = sequence_end_still v.first_set v.kept v.pictures
still k EndOfBitstream v none = bitstream_end_still v.first_set v.kept v.pictures
still k Other v none = same_still v
still k (Refused cause) v none = same_still v

-- ---- a picture begins

-- What begins with a unit.
pub record Begins (k : ℕ) (u : Meaning) (v : Stream) (s : Slice) : Type 0 where
  pub set : (with_unit k u v).first_set ≡ v.first_set
  pub pictures : (with_unit k u v).pictures ≡ new_picture k s v.pictures ∷ v.pictures

slice_begins : (k : ℕ) (s t : Slice) (ps : List Picture) → first_if (Some s) (latest_head ps) ≡ Some t
    → with_slice k s ps ≡ new_picture k t ps ∷ ps
slice_begins k s t [] is = let same : s ≡ t = cc is in ap (λ (x : Slice). new_picture k x [] ∷ []) same
slice_begins k s t (p ∷ before) is = by s.first_slice_segment_in_pic_flag is
  where
    by : (b : Bool) → cond b (Some s) None ≡ Some t
        → cond b (new_picture k s (p ∷ before) ∷ p ∷ before) (record p { slices = p.slices ++ (k, s) ∷ [] } ∷ before)
        ≡ new_picture k t (p ∷ before) ∷ p ∷ before
    by true e = let same : s ≡ t = cc e in ap (λ (x : Slice). new_picture k x (p ∷ before) ∷ p ∷ before) same
    by false e = absurd (cc e)

whole_begins : (k : ℕ) (s : Option Slice) (t : Slice) (ps : List Picture) → first_if s (latest_head ps) ≡ Some t
    → with_whole k s ps ≡ new_picture k t ps ∷ ps
whole_begins k None t ps is = absurd (cc is)
whole_begins k (Some s) t ps is = slice_begins k s t ps is

pub unit_begins : (k : ℕ) (u : Meaning) (v : Stream) (s : Slice) → first_slice u (place v) ≡ Some s → Begins k u v s
unit_begins k (SequenceSet format) v s is = absurd (cc is)
unit_begins k (CodedSlice x) v s is =
    record { set = refl; pictures = whole_begins k (whole_slice v.kept x) s v.pictures is }
unit_begins k EndOfSequence v s is = absurd (cc is)
unit_begins k EndOfBitstream v s is = absurd (cc is)
unit_begins k Other v s is = absurd (cc is)
unit_begins k (Refused cause) v s is = absurd (cc is)

begins_same : (k : ℕ) (s : Slice) (ps : List Picture)
    → starts_sequence_after (head (context ps) s) (latest_head ps) ≡ begins (new_picture k s ps) ps
begins_same k s [] = refl
begins_same k s (p ∷ before) = refl

head_number : (c : Context) (s : Slice) → (head c s).number ≡ c.number
unfolding head
head_number c s = refl

pub tells : (k : ℕ) (s : Slice) (v : Stream) (b : Begun) → Fall (context v.pictures).number v.pictures
    → TellsPicture s (place v) b → TellsNext v.first_set (new_picture k s v.pictures) v.pictures b
tells k s v b numbers is = record {
  head = is.same_head;
  begins = is.begins ∙ begins_same k s v.pictures;
  stored = is.stored;
  filled = is.filled;
  numbers = subst (λ (n : ℕ). Fall n v.pictures) (sym (head_number (context v.pictures) s)) numbers;
}

-- ---- a check

pub at_still : (t : Table) (k : ℕ) (u : Meaning) (v : Stream) (old new : Check) → IsAt t v old
    → first_slice u old.walk.pictures ≡ None → new.walk.pictures ≡ after_unit u old.walk.pictures
    → new.sequence ≡ old.sequence → new.sequences ≡ old.sequences → IsAt t (with_unit k u v) new
at_still t k u v old new at none next sequence sequences =
    let s = still k u v (ap (first_slice u) (sym at.place) ∙ none) in
    record {
      table = ap (λ (q : Sequence). q.table) sequence ∙ at.table;
      place = next ∙ ap (after_unit u) at.place ∙ sym (place_unit k u v);
      follows =
          subst (FollowsAll (with_unit k u v).first_set (with_unit k u v).pictures) (sym sequence)
          (s.follows old.sequence at.follows);
      sequences = sequences ∙ at.sequences ∙ sym s.sequences;
      unbroken = s.lowest_is t ∙ at.unbroken;
      numbers = s.numbers at.numbers;
    }

lowest_new : (t : Table) (k : ℕ) (u : Meaning) (v : Stream) (s : Slice) → Begins k u v s
    → lowest t (with_unit k u v)
    ≡ earlier_broken (lowest t v)
    (broken_at (new_picture k s v.pictures)
    (first_breach (breaks_by t v.first_set (new_picture k s v.pictures) v.pictures) all_breaches))
lowest_new t k u v s b =
    ap (λ (set : Option (ℕ × Format)). lowest_broken (breaks_by t set) (with_unit k u v).pictures) b.set
    ∙ ap (lowest_broken (breaks_by t v.first_set)) b.pictures

-- how many sequences there are with one picture more
sequences_by : (t : Bool) (n m : ℕ) → m ≡ n + (if t then 1 else 0) → m ≡ (if t then n + 1 else n)
sequences_by true n m is = is
sequences_by false n m is = omega (arith, is)

pub at_begun : (t : Table) (k : ℕ) (u : Meaning) (v : Stream) (s : Slice) (old new : Check) (b : Begun) → IsAt t v old
    → first_slice u old.walk.pictures ≡ Some s → TellsPicture s old.walk.pictures b
    → new.walk.pictures ≡ after_unit u old.walk.pictures
    → new.sequence.table ≡ old.sequence.table
    → FollowsAll v.first_set (new_picture k s v.pictures ∷ v.pictures) new.sequence
    → new.sequences ≡ old.sequences + (if b.begins_sequence then 1 else 0)
    → first_breach (breaks_by t v.first_set (new_picture k s v.pictures) v.pictures) all_breaches ≡ None
    → IsAt t (with_unit k u v) new
at_begun t k u v s old new b at some is next table follows sequences none =
    let p = new_picture k s v.pictures in
    let x = unit_begins k u v s (ap (first_slice u) (sym at.place) ∙ some) in
    let told = tells k s v b at.numbers (subst (λ (w : Place). TellsPicture s w b) at.place is) in
    record {
      table = table ∙ at.table;
      place = next ∙ ap (after_unit u) at.place ∙ sym (place_unit k u v);
      follows =
          subst (λ (set : Option (ℕ × Format)). FollowsAll set (with_unit k u v).pictures new.sequence) (sym x.set)
          (subst (λ (ps : List Picture). FollowsAll v.first_set ps new.sequence) (sym x.pictures) follows);
      sequences =
          sequences_by (begins p v.pictures) (num_sequences v.pictures) new.sequences
          (sequences ∙ ap (λ (n : ℕ). n + (if b.begins_sequence then 1 else 0)) at.sequences
          ∙ ap (λ (y : Bool). num_sequences v.pictures + (if y then 1 else 0)) told.begins)
          ∙ sym (ap num_sequences x.pictures);
      numbers = subst (λ (ps : List Picture). Fall (context ps).number ps) (sym x.pictures) (omega arith, told.numbers);
      unbroken =
          lowest_new t k u v s x
          ∙ ap (λ (o : Option BrokenAt). earlier_broken o
          (broken_at p (first_breach (breaks_by t v.first_set p v.pictures) all_breaches))) at.unbroken
          ∙ ap (broken_at p) none;
    }

pub at_broken : (t : Table) (k : ℕ) (u : Meaning) (v : Stream) (s : Slice) (old : Check) (b : Begun)
    (breach : code.Breach) → IsAt t v old → first_slice u old.walk.pictures ≡ Some s
    → TellsPicture s old.walk.pictures b
    → first_breach (breaks_by t v.first_set (new_picture k s v.pictures) v.pictures) all_breaches
    ≡ Some (breach_of breach) → steps.TellsBroken t (with_unit k u v) (No b.head.number k breach)
at_broken t k u v s old b breach at some is broken =
    let p = new_picture k s v.pictures in
    let x = unit_begins k u v s (ap (first_slice u) (sym at.place) ∙ some) in
    let told = tells k s v b at.numbers (subst (λ (w : Place). TellsPicture s w b) at.place is) in
    record {
      broken = record { number = b.head.number; unit = k; breach = breach_of breach };
      told_is = refl;
      lowest_is =
          lowest_new t k u v s x
          ∙ ap (λ (o : Option BrokenAt). earlier_broken o
          (broken_at p (first_breach (breaks_by t v.first_set p v.pictures) all_breaches))) at.unbroken
          ∙ ap (broken_at p) broken
          ∙ ap (λ (n : ℕ). Some (record { number = n; unit = k; breach = breach_of breach }))
          (sym (ap (λ (h : Head). h.number) told.head));
    }

-- ---- what is told of a unit

pub told_none : (f : Option Slice) (w : Place) (told : Option Begun) → TellsFirst f w told → told ≡ None → f ≡ None
told_none None w told h is = refl
told_none (Some s) w told h is = absurd (cc (sym h.1 ∙ is))

pub told_some : (f : Option Slice) (w : Place) (told : Option Begun) (b : Begun) → TellsFirst f w told → told ≡ Some b
    → (s : Slice) × (f ≡ Some s) × TellsPicture s w b
told_some None w told b h is = absurd (cc (sym h ∙ is))
told_some (Some s) w told b h is =
    let same : h.0 ≡ b = cc (sym h.1 ∙ is) in
    (s, refl, subst (λ (x : Begun). TellsPicture s w x) same h.2)

pub number_after : (u : Meaning) (w : Place) → (after_unit u w).next.number ≤ w.next.number + 1
number_after (SequenceSet format) w = omega arith
number_after (CodedSlice s) w = by (first_slice (CodedSlice s) w)
  where
    by : (f : Option Slice) → (with_first f (record w { kept = kept_header w.kept s })).next.number ≤ w.next.number + 1
    by None = omega arith
    by (Some t) = let n = head_number w.next t in omega (arith, n)
number_after EndOfSequence w = omega arith
number_after EndOfBitstream w = omega arith
number_after Other w = omega arith
number_after (Refused cause) w = omega arith

pub tells_at : (t : Table) (k : ℕ) (s : Slice) (v : Stream) (old : Check) (b : Begun) → IsAt t v old
    → TellsPicture s old.walk.pictures b → TellsNext v.first_set (new_picture k s v.pictures) v.pictures b
tells_at t k s v old b at is = tells k s v b at.numbers (subst (λ (w : Place). TellsPicture s w b) at.place is)

-- the table is the check's own
pub by_table : (t : Table) (v : Stream) (old : Check) (x : Option Breach) (set : Option (ℕ × Format)) (p : Picture)
    (before : List Picture) → IsAt t v old → x ≡ first_breach (breaks_by old.sequence.table set p before) all_breaches
    → x ≡ first_breach (breaks_by t set p before) all_breaches
by_table t v old x set p before at is =
    is ∙ ap (λ (y : Table). first_breach (breaks_by y set p before) all_breaches) at.table
