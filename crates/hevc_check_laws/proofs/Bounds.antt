-- Plain bounds, picture by picture and sequence by sequence.
use Rattle.std.proofs.Common.{◌≡◌, ◌≢◌, ℕ, ◌+◌, ◌<◌, ◌≤◌, Bool, true, false, not, cond, ◌&&◌, eqb}
use Rattle.std.proofs.Common.{List, [], ◌∷◌, ◌++◌, length, filter, refl, sym, ◌∙◌, ap, subst}
use Rattle.std.proofs.Common.{Option, Some, None, IfSome, All}
use Rattle.std.specs.Prelude.{nat_lt, nat_le, int_lt, count_by}
use Rattle.std.specs.Ordering.{int_eq}
use Rattle.std.specs.List.{list_any, AllByRecursion as Each}
use Rattle.std.proofs.lemmas.Bool.Decides.{Decides-eqb}
use Rattle.std.proofs.lemmas.List.Elements.{All-from_recursion, recursion_from_All}
use Rattle.hevc_walk.specs.Meanings.{Format, Limits, Meaning}
use Rattle.hevc_walk.specs.Pictures.{Picture, stream, pictures, nothing_yet}
use Rattle.hevc_walk_fates.proofs.Numbers.{Numbered, stream-numbered}
use Rattle.hevc_walk_order.specs.Sequences.{Sequence, IsSequence, begins, earliest, pictures_of}
use Rattle.hevc_walk_order.specs.Sequences.{is_for_output, sequences}
use Rattle.hevc_walk_order.specs.DisplayOrder.{FewPrecede, entries_before}
use Rattle.hevc_walk_order.specs.Bounds.{NeverFull, KeepsBounds}
use Rattle.hevc_walk_order.proofs.Each.{Pairs, pairs_all, all_pairs}
use Rattle.hevc_walk_order.proofs.Heads.{numbered-right}
use Rattle.hevc_check_laws.specs.Breaches.{Breach, Changed, Latency, SameCount, Full, Discards}
use Rattle.hevc_check_laws.specs.Breaches.{Reorder, earlier_in, differs_from, discards}
use Rattle.hevc_check_laws.specs.Bounds.{breaks_bounds}
use Rattle.hevc_check_laws.specs.Checks.{BrokenAt, NoneBreaksBounds, lowest_broken, Yes, checked_with, checked_bounds}
use Rattle.hevc_check_laws.proofs.Tells.{Fails, fact-of, fails-of, fails-and, fails-not, fails-any}
use Rattle.hevc_check_laws.proofs.Tells.{fails-le, fails-lt, fails-equal, same-tells}
use Rattle.hevc_check_laws.proofs.Places.{earliest-push, Within, begins-within, earlier-first}
use Rattle.hevc_check_laws.proofs.Places.{Sound, sound-front, sound-back, sound-weaker, sound-both}
use Rattle.hevc_check_laws.proofs.Places.{InPlace, Along, along-of}
use Rattle.hevc_check_laws.proofs.Discarding.{stream-discards}
use Rattle.hevc_check_laws.proofs.Lowest.{Unbroken, yes-none}
use Rattle.hevc_check_laws.proofs.Named.{each-sound, sound-each, none-is, is-none}
use Rattle.hevc_check_laws.proofs.Whole.{Keeping, next-keeps, Tells, whole}

-- What both tables say of a picture, and those before it in its sequence.
abbrev pub Same : Picture → Option Picture → Type 0
Same p o = IfSome o (λ f. (p.limits ≡ f.limits) × (p.format ≡ f.format))

abbrev pub Few : Picture → List Picture → Type 0
Few p es =
    is_for_output p ≡ true
    → count_by (λ b. int_lt p.order_count b.order_count) (filter is_for_output es) ≤ p.limits.max_num_reorder_pics

pub changed-fails : (p : Picture) (o : Option Picture) → Fails (differs_from p o) (Same p o)
changed-fails p None = (λ h. tt, λ h. refl)
changed-fails p (Some f) = same-tells p.limits f.limits p.format f.format

pub few-fails : (p : Picture) (es : List Picture)
    → Fails
    (is_for_output p
    && nat_lt p.limits.max_num_reorder_pics
    (count_by (λ b. int_lt p.order_count b.order_count) (filter is_for_output es))) (Few p es)
few-fails p es =
    fails-and (is_for_output p)
    (nat_lt p.limits.max_num_reorder_pics
    (count_by (λ b. int_lt p.order_count b.order_count) (filter is_for_output es)))
    (fails-lt p.limits.max_num_reorder_pics
    (count_by (λ b. int_lt p.order_count b.order_count) (filter is_for_output es)))

pub discards-fails : (p : Picture) → Fails (discards p) (p.number ≢ 0 → p.no_output_of_prior_pics ≡ false)
discards-fails p = by_tests p.no_output_of_prior_pics (eqb p.number 0) (Decides-eqb p.number 0)
  where
    by_tests : (a t : Bool) → (t ≡ true → p.number ≡ 0) × (p.number ≡ 0 → t ≡ true)
        → Fails (a && not t) (p.number ≢ 0 → a ≡ false)
    by_tests true true d = (λ h m. absurd (m (d.0 refl)), λ h. refl)
    by_tests true false d = (λ h. absurd (cc h), λ h. absurd (clash (h (λ e. clash_false (d.1 e)))))
      where
        clash : true ≡ false → ⊥
        clash h = absurd (cc h)

        clash_false : false ≡ true → ⊥
        clash_false h = absurd (cc h)
    by_tests false t d = (λ h m. refl, λ h. refl)

-- one set of limits and one format, along a sequence
record Uniform (first : Picture) (rest : List Picture) : Type 0 where
  limits : Each (λ p. p.limits ≡ first.limits) rest
  format : Each (λ p. p.format ≡ first.format) rest

record Bounded (set : Option (ℕ × Format)) (p : Picture) (before es : List Picture) : Type 0 where
  same : Same p (earliest es)
  latency : p.limits.max_latency_increase_plus1 ≡ 0
  distinct : Each (λ b. p.order_count ≢ b.order_count) es
  room : p.skipped ≡ false → begins p before ≡ false
      → length (entries_before set p before) < p.limits.max_dec_pic_buffering_minus1 + 1
  few : Few p es

full-fails : (set : Option (ℕ × Format)) (p : Picture) (before : List Picture)
    → Fails (breaks_bounds set p before Full)
    (p.skipped ≡ false → begins p before ≡ false
    → length (entries_before set p before) < p.limits.max_dec_pic_buffering_minus1 + 1)
full-fails set p before =
    let n : ℕ = length (entries_before set p before) in
    let t : Bool = nat_le (p.limits.max_dec_pic_buffering_minus1 + 1) n in
    three p.skipped (begins p before) t (fails-le (p.limits.max_dec_pic_buffering_minus1 + 1) n)
  where
    three : {P : Type 0} (a b t : Bool) → Fails t P → Fails (not a && not b && t) (a ≡ false → b ≡ false → P)
    three true true t d = (λ h is. absurd (cc is), λ h. refl)
    three true false t d = (λ h is. absurd (cc is), λ h. refl)
    three false true t d = (λ h is that. absurd (cc that), λ h. refl)
    three false false t d = (λ h is that. d.0 h, λ h. d.1 (h refl refl))

latency-fails : (p : Picture)
    → Fails (not (eqb p.limits.max_latency_increase_plus1 0)) (p.limits.max_latency_increase_plus1 ≡ 0)
latency-fails p =
    fails-not (eqb p.limits.max_latency_increase_plus1 0) (Decides-eqb p.limits.max_latency_increase_plus1 0)

counts-fail : (p : Picture) (es : List Picture)
    → Fails (list_any (λ b. int_eq p.order_count b.order_count) es) (Each (λ b. p.order_count ≢ b.order_count) es)
counts-fail p es =
    fails-any (λ (b : Picture). int_eq p.order_count b.order_count) (λ b. p.order_count ≢ b.order_count)
    (λ b. fails-equal p.order_count b.order_count) es

bounded-of : (set : Option (ℕ × Format)) (p : Picture) (before : List Picture) → Unbroken (breaks_bounds set) p before
    → InPlace (Bounded set) p before
bounded-of set p before u = record {
  same = fact-of (breaks_bounds set p before Changed) (changed-fails p (earliest (earlier_in p before))) (u Changed);
  latency = fact-of (breaks_bounds set p before Latency) (latency-fails p) (u Latency);
  distinct = fact-of (breaks_bounds set p before SameCount) (counts-fail p (earlier_in p before)) (u SameCount);
  room = fact-of (breaks_bounds set p before Full) (full-fails set p before) (u Full);
  few = fact-of (breaks_bounds set p before Reorder) (few-fails p (earlier_in p before)) (u Reorder);
}

pub keeping-of : (p : Picture) → discards p ≡ false → p.number ≢ 0 → p.no_output_of_prior_pics ≡ false
keeping-of p h = fact-of (discards p) (discards-fails p) h

of-bounded : (set : Option (ℕ × Format)) (p : Picture) (before : List Picture) → InPlace (Bounded set) p before
    → Keeping p before → Unbroken (breaks_bounds set) p before
of-bounded set p before f k Changed =
    fails-of (breaks_bounds set p before Changed) (changed-fails p (earliest (earlier_in p before))) f.same
of-bounded set p before f k Latency = fails-of (breaks_bounds set p before Latency) (latency-fails p) f.latency
of-bounded set p before f k SameCount =
    fails-of (breaks_bounds set p before SameCount) (counts-fail p (earlier_in p before)) f.distinct
of-bounded set p before f k Full = fails-of (breaks_bounds set p before Full) (full-fails set p before) f.room
of-bounded set p before f k Discards = fails-of (discards p) (discards-fails p) k
of-bounded set p before f k Reorder =
    fails-of (breaks_bounds set p before Reorder) (few-fails p (earlier_in p before)) f.few

-- along a sequence all limits and formats are the first picture's
pub limits-along : (F : Picture → List Picture → List Picture → Type 0)
    → ((p : Picture) (before es : List Picture) → F p before es → Same p (earliest es))
    → (first : Picture) (before rest : List Picture) → Along F first before rest
    → Each (λ p. p.limits ≡ first.limits) rest
limits-along F same first before [] h = tt
limits-along F same first before (p ∷ rest) h = (
  (subst (Same p) (earliest-push rest first) (same p (rest ++ first ∷ before) (rest ++ first ∷ []) h.0)).0,
  limits-along F same first before rest h.1,
)

pub format-along : (F : Picture → List Picture → List Picture → Type 0)
    → ((p : Picture) (before es : List Picture) → F p before es → Same p (earliest es))
    → (first : Picture) (before rest : List Picture) → Along F first before rest
    → Each (λ p. p.format ≡ first.format) rest
format-along F same first before [] h = tt
format-along F same first before (p ∷ rest) h = (
  (subst (Same p) (earliest-push rest first) (same p (rest ++ first ∷ before) (rest ++ first ∷ []) h.0)).1,
  format-along F same first before rest h.1,
)

pub same-by : (p first : Picture) (rest : List Picture) → p.limits ≡ first.limits → p.format ≡ first.format
    → Same p (earliest (rest ++ first ∷ []))
same-by p first rest l f = subst (Same p) (sym (earliest-push rest first)) (l, f)

-- few precede, along a sequence
few-more : (n : ℕ) (p : Picture) (es : List Picture) → Few p es → p.limits.max_num_reorder_pics ≡ n
    → FewPrecede n (filter is_for_output es) → FewPrecede n (filter is_for_output (p ∷ es))
few-more n p es few is h = by_test (is_for_output p) few h
  where
    by_test : (t : Bool)
        → (t ≡ true
        → count_by (λ b. int_lt p.order_count b.order_count) (filter is_for_output es) ≤
        p.limits.max_num_reorder_pics) → FewPrecede n (filter is_for_output es)
        → FewPrecede n (cond t (p ∷ filter is_for_output es) (filter is_for_output es))
    by_test true few h = (
      subst (λ (m : ℕ). count_by (λ b. int_lt p.order_count b.order_count) (filter is_for_output es) ≤ m) is
          (few refl),
      h,
    )
    by_test false few h = h

few-less : (n : ℕ) (p : Picture) (es : List Picture) → p.limits.max_num_reorder_pics ≡ n
    → FewPrecede n (filter is_for_output (p ∷ es)) → Few p es × FewPrecede n (filter is_for_output es)
few-less n p es is h = by_test (is_for_output p) h
  where
    by_test : (t : Bool) → FewPrecede n (cond t (p ∷ filter is_for_output es) (filter is_for_output es))
        → (t ≡ true
        → count_by (λ b. int_lt p.order_count b.order_count) (filter is_for_output es) ≤
        p.limits.max_num_reorder_pics) × FewPrecede n (filter is_for_output es)
    by_test true h = (
      λ t. subst (λ (m : ℕ). count_by (λ b. int_lt p.order_count b.order_count) (filter is_for_output es) ≤ m)
          (sym is) h.0,
      h.1,
    )
    by_test false h = (λ t. absurd (cc t), h)

reorder-of : (a b : Limits) → a ≡ b → a.max_num_reorder_pics ≡ b.max_num_reorder_pics
reorder-of a b e = ap (λ (l : Limits). l.max_num_reorder_pics) e

pub few-along : (F : Picture → List Picture → List Picture → Type 0)
    → ((p : Picture) (before es : List Picture) → F p before es → Few p es)
    → (first : Picture) (before rest : List Picture) → Each (λ p. p.limits ≡ first.limits) rest
    → Along F first before rest → Few first []
    → FewPrecede first.limits.max_num_reorder_pics (filter is_for_output (rest ++ first ∷ []))
few-along F few first before [] l h own = few-more first.limits.max_num_reorder_pics first [] own refl tt
few-along F few first before (p ∷ rest) l h own =
    few-more first.limits.max_num_reorder_pics p (rest ++ first ∷ [])
    (few p (rest ++ first ∷ before) (rest ++ first ∷ []) h.0) (reorder-of p.limits first.limits l.0)
    (few-along F few first before rest l.1 h.1 own)

-- each picture of a sequence with those before it in it
abbrev pub EachFew : Picture → List Picture → Type 0
EachFew first [] = Few first []
EachFew first (p ∷ rest) = Few p (rest ++ first ∷ []) × EachFew first rest

pub few-each : (first : Picture) (rest : List Picture) → Each (λ p. p.limits ≡ first.limits) rest
    → FewPrecede first.limits.max_num_reorder_pics (filter is_for_output (rest ++ first ∷ [])) → EachFew first rest
few-each first [] l h = (few-less first.limits.max_num_reorder_pics first [] refl h).0
few-each first (p ∷ rest) l h =
    let k =
    few-less first.limits.max_num_reorder_pics p (rest ++ first ∷ []) (reorder-of p.limits first.limits l.0) h in
    (k.0, few-each first rest l.1 k.1)

pub few-last : (first : Picture) (rest : List Picture) → EachFew first rest → Few first []
few-last first [] h = h
few-last first (p ∷ rest) h = few-last first rest h.1

-- plain bounds, along a sequence
room-along : (set : Option (ℕ × Format)) (first : Picture) (before rest : List Picture) → Within rest
    → Along (Bounded set) first before rest → NeverFull set rest (first ∷ before)
room-along set first before [] w h = tt
room-along set first before (p ∷ rest) w h =
    (λ e. h.0.room e (begins-within p rest first before ∙ w.0), room-along set first before rest w.1 h.1)

distinct-along : (set : Option (ℕ × Format)) (first : Picture) (before rest : List Picture)
    → Along (Bounded set) first before rest → Pairs (λ a b. a.order_count ≢ b.order_count) (rest ++ first ∷ [])
distinct-along set first before [] h = (tt, tt)
distinct-along set first before (p ∷ rest) h = (h.0.distinct, distinct-along set first before rest h.1)

latency-of : (a b : Limits) → a ≡ b → b.max_latency_increase_plus1 ≡ 0 → a.max_latency_increase_plus1 ≡ 0
latency-of a b e h = ap (λ (l : Limits). l.max_latency_increase_plus1) e ∙ h

along-bounded : (set : Option (ℕ × Format)) (first : Picture) (before rest : List Picture)
    → Each (λ p. p.limits ≡ first.limits) rest → Each (λ p. p.format ≡ first.format) rest
    → first.limits.max_latency_increase_plus1 ≡ 0 → NeverFull set rest (first ∷ before)
    → Pairs (λ a b. a.order_count ≢ b.order_count) (rest ++ first ∷ []) → EachFew first rest
    → Along (Bounded set) first before rest
along-bounded set first before [] l f latency room distinct few = tt
along-bounded set first before (p ∷ rest) l f latency room distinct few = (
  record {
    same = same-by p first rest l.0 f.0;
    latency = latency-of p.limits first.limits l.0 latency;
    distinct = distinct.0;
    room = λ e b. room.0 e;
    few = few.0;
  },
  along-bounded set first before rest l.1 f.1 latency room.1 distinct.1 few.1,
)

first-room : (b t : Bool) {P : Type 0} → b ≡ true → b ≡ false → P
first-room true t h k = absurd (cc k)
first-room false t h k = absurd (cc h)

bounds-tell : (us : List Meaning) → Tells (Bounded (stream us).first_set) (KeepsBounds us)
bounds-tell us = record { along = along; next = λ q keeps. keeps.next }
  where
    set : Option (ℕ × Format)
    set = (stream us).first_set

    along : (q : Sequence) → begins q.first q.before ≡ true → Within q.rest → Numbered (q.rest ++ q.first ∷ q.before)
        → KeepsBounds us q → Along (Bounded set) q.first q.before q.rest × Bounded set q.first q.before []
    along q b w n keeps =
        let l = recursion_from_All (λ p. p.limits ≡ q.first.limits) q.rest keeps.limits in
        let few = few-each q.first q.rest l keeps.few_precede in (
          along-bounded set q.first q.before q.rest l
              (recursion_from_All (λ p. p.format ≡ q.first.format) q.rest keeps.format) keeps.latency keeps.room
              (all_pairs (λ a b. a.order_count ≢ b.order_count) (pictures_of q) keeps.distinct) few,
          record {
            same = tt;
            latency = keeps.latency;
            distinct = tt;
            room = λ e s. first-room (begins q.first q.before) true b s;
            few = few-last q.first q.rest few;
          },
        )

pub stream-keeping : (us : List Meaning) (breaks : Picture → List Picture → Breach → Bool)
    → ((p : Picture) (before : List Picture) → breaks p before Discards ≡ discards p)
    → Sound (Unbroken breaks) (pictures us) → Sound Keeping (pictures us)
stream-keeping us breaks is h =
    sound-weaker (Unbroken breaks) Keeping (λ p before u. keeping-of p (sym (is p before) ∙ u Discards)) (pictures us) h

-- What is known of a sequence where no picture breaks anything.
pub record InSequence (F : Picture → List Picture → List Picture → Type 0) (q : Sequence) : Type 0 where
  pub within : Within q.rest
  pub numbered : Numbered (q.rest ++ q.first ∷ q.before)
  pub along : Along F q.first q.before q.rest
  pub first : F q.first q.before []
  pub next : IfSome (earliest q.later) (λ p. p.no_output_of_prior_pics ≡ false)

pub in_sequence : (us : List Meaning) (F : Picture → List Picture → List Picture → Type 0)
    → Sound (InPlace F) (pictures us) → Sound Keeping (pictures us) → (q : Sequence) → IsSequence us q → InSequence F q
in_sequence us F sound keeping q is =
    let w = recursion_from_All (λ p. p.starts_sequence ≡ false) q.rest is.goes_on in
    let s = sound-back (InPlace F) q.later (q.rest ++ q.first ∷ q.before) (subst (Sound (InPlace F)) is.parts sound) in
    let n =
    numbered-right q.later (q.rest ++ q.first ∷ q.before)
    (subst Numbered is.parts (stream-numbered 0 nothing_yet us tt)) in
    record {
      within = w;
      numbered = n;
      along = along-of F q.rest q.first q.before is.begins w (sound-front (InPlace F) q.rest (q.first ∷ q.before) s);
      first =
          subst (λ (es : List Picture). F q.first q.before es) (earlier-first q.first q.before is.begins)
          (sound-back (InPlace F) q.rest (q.first ∷ q.before) s).0;
      next = next-of q.rest is.parts;
    }
  where
    next-of : (rest : List Picture) → pictures us ≡ q.later ++ (rest ++ q.first ∷ q.before)
        → IfSome (earliest q.later) (λ p. p.no_output_of_prior_pics ≡ false)
    next-of [] parts =
        next-keeps q.later q.first q.before (subst Numbered parts (stream-numbered 0 nothing_yet us tt))
        (subst (Sound Keeping) parts keeping)
    next-of (p ∷ rest) parts =
        next-keeps q.later p (rest ++ q.first ∷ q.before) (subst Numbered parts (stream-numbered 0 nothing_yet us tt))
        (subst (Sound Keeping) parts keeping)

pub bounds-kept : (us : List Meaning) → NoneBreaksBounds us → (q : Sequence) → IsSequence us q → KeepsBounds us q
bounds-kept us none q is =
    let breaks : Picture → List Picture → Breach → Bool = breaks_bounds (stream us).first_set in
    let u = sound-each breaks (pictures us) none in
    let s =
    in_sequence us (Bounded (stream us).first_set)
    (sound-weaker (Unbroken breaks) (InPlace (Bounded (stream us).first_set))
    (bounded-of (stream us).first_set) (pictures us) u) (stream-keeping us breaks (λ p before. refl) u) q
    is in
    let l = limits-along (Bounded (stream us).first_set) (λ p before es h. h.same) q.first q.before q.rest s.along in
    record {
      limits = All-from_recursion (λ p. p.limits ≡ q.first.limits) q.rest l;
      format =
          All-from_recursion (λ p. p.format ≡ q.first.format) q.rest
          (format-along (Bounded (stream us).first_set) (λ p before es h. h.same) q.first q.before q.rest s.along);
      latency = s.first.latency;
      room = room-along (stream us).first_set q.first q.before q.rest s.within s.along;
      next = s.next;
      distinct =
          pairs_all (λ a b. a.order_count ≢ b.order_count) (pictures_of q)
          (distinct-along (stream us).first_set q.first q.before q.rest s.along);
      few_precede =
          few-along (Bounded (stream us).first_set) (λ p before es h. h.few) q.first q.before q.rest l s.along
          s.first.few;
    }

pub bounds-unbroken : (us : List Meaning) → All (KeepsBounds us) (sequences us) → NoneBreaksBounds us
bounds-unbroken us keeps =
    let set : Option (ℕ × Format) = (stream us).first_set in
    let w =
    whole (Bounded set) (KeepsBounds us) (bounds-tell us) (pictures us) (stream-numbered 0 nothing_yet us tt)
    (stream-discards 0 nothing_yet us tt) (recursion_from_All (KeepsBounds us) (sequences us) keeps) in
    each-sound (breaks_bounds set) (pictures us)
    (sound-both (InPlace (Bounded set)) Keeping (Unbroken (breaks_bounds set)) (of-bounded set) (pictures us) w.0
    w.1)

pub bounds-kept_by : (us : List Meaning) (m n : ℕ) → checked_bounds us ≡ Yes m n → (q : Sequence) → IsSequence us q
    → KeepsBounds us q
bounds-kept_by us m n answer =
    bounds-kept us
    (none-is (breaks_bounds (stream us).first_set) (pictures us)
    (yes-none us (lowest_broken (breaks_bounds (stream us).first_set) (pictures us)) m n answer))

pub bounds-answer : (us : List Meaning) → All (KeepsBounds us) (sequences us)
    → checked_bounds us ≡ Yes (length (sequences us)) (length (pictures us))
bounds-answer us keeps =
    ap (λ (o : Option BrokenAt). checked_with o us)
    (is-none (breaks_bounds (stream us).first_set) (pictures us) (bounds-unbroken us keeps))
