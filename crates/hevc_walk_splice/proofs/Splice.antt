-- The list that begins at the point asks for what the whole asks from there on.
use Rattle.std.proofs.Common.{◌≡◌, ℕ, ◌+◌, ◌≤◌, Bool, true, false, cond, ◌||◌, List, [], ◌∷◌, ◌++◌}
use Rattle.std.proofs.Common.{length, map, refl, sym, ◌∙◌, ap, ap₂, subst, arith, Option, Some}
use Rattle.std.proofs.Common.{None, is_some, Result, Ok, add-zero, zero-add}
use Rattle.std.specs.Prelude.{◌-◌, All}
use Rattle.std.proofs.lemmas.List.Elements.{All-head, All-tail}
use Rattle.hevc_spec.specs.UnitTypes.{is_idr, is_bla}
use Rattle.hevc_walk.specs.Meanings.{Format, Slice, Meaning, SequenceSet, CodedSlice, EndOfSequence}
use Rattle.hevc_walk.specs.Meanings.{EndOfBitstream, Other, Refused}
use Rattle.hevc_walk.specs.Pictures.{Head, Picture, Stream, Context, order_count_in_range}
use Rattle.hevc_walk.specs.Pictures.{with_unit, nothing_yet, stream_from, stream, pictures}
use Rattle.hevc_walk.specs.ReferenceSets.{RefPicSet, reference_set}
use Rattle.hevc_walk.specs.Walk.{Event, Part, ◌>>=◌, at_unit, reference_set_of}
use Rattle.hevc_walk.specs.Refusals.{Cause, Refusal, refusal_of_picture}
use Rattle.hevc_walk.specs.Results.{verdict, events}
use Rattle.hevc_walk_fates.proofs.Numbers.{numbered-length, stream-numbered}
use Rattle.hevc_walk_units.specs.Units.{OpenPicture, Standing, at_first, context_behind}
use Rattle.hevc_walk_units.specs.Units.{finish_current, begin_by, begins_picture, unit_part}
use Rattle.hevc_walk_units.specs.Units.{refusal_at, is_full_at, events_from, verdict_from}
use Rattle.hevc_walk_agree.specs.Standings.{standing, current_by, Takes}
use Rattle.hevc_walk_agree.proofs.Joined.{Outcome, outcome, begins-current, same_number}
use Rattle.hevc_walk_agree.proofs.Joined.{refusal-same, next-place, at-append, events-same}
use Rattle.hevc_walk_agree.proofs.Joined.{verdict-same}
use Rattle.hevc_walk_splice.specs.Splicing.{IsOfSet}
use Rattle.hevc_walk_splice.proofs.Raise.{raise_set, raise_head, set-raised}
use Rattle.hevc_walk_splice.proofs.Parts.{raise_event}
use Rattle.hevc_walk_splice.proofs.Units.{raise_standing}
use Rattle.hevc_walk_splice.proofs.Later.{events_for, AllMoved, for-append, moved-append}
use Rattle.hevc_walk_splice.proofs.Later.{moved-same, moved-at, moved-from, goes_on, verdict-ok}
use Rattle.hevc_walk_splice.proofs.Later.{verdict-later}
use Rattle.hevc_walk_splice.proofs.Earlier.{AllQuiet, quiet-none, StandingUnder, unit-grows, unit-under}
use Rattle.hevc_walk_splice.proofs.Point.{point_head, head-at, over, started, stands, Begun, begun}
use Rattle.hevc_walk_splice.proofs.Point.{started-raised, own_header, part-at, refusal-at, full-at}
use Rattle.hevc_walk_splice.proofs.Point.{range-point, none-in_range, in_range-none, decoded-point}

-- a slice begins a picture after these (7.4.2.4.5)
abbrev pub begins_after : List Picture → Slice → Bool
begins_after [] s = true
begins_after (p ∷ before) s = s.first_slice_segment_in_pic_flag

-- the slice after some units begins a point
pub record IsStart (before : List Meaning) (s : Slice) : Type 0 where
  pub nal_unit_type : is_idr s.nal_unit_type || is_bla s.nal_unit_type ≡ true
  pub temporal_id : s.temporal_id ≡ 0
  pub first : begins_after (pictures before) s ≡ true
  pub independent : s.dependent_slice_segment_flag ≡ false

-- a unit that isn't refused
takes : (k : ℕ) (v : Stream) (u : Meaning) → refusal_at u (standing v) ≡ None
    → Takes k v (unit_part u (standing v)) (is_full_at u (standing v)) (with_unit k u v)
takes k v u h =
    subst (λ (r : Option Cause). Outcome k v (unit_part u (standing v)) (is_full_at u (standing v))
    (with_unit k u v) r) (sym (refusal-same v u) ∙ h) (outcome k v u)

number_of : Stream → ℕ
number_of v = (standing v).next.number

-- how many pictures have begun doesn't fall
front-grows : (k m : ℕ) (v : Stream) (front back : List Meaning)
    → verdict_from (standing v) k (front ++ back) ≡ Ok m → number_of v ≤ number_of (stream_from k v front)
unfolding number_of
front-grows k m v [] back h = omega arith
front-grows k m v (u ∷ front) back h =
    let g = goes_on k m (is_full_at u (standing v)) (refusal_at u (standing v))
    (verdict_from (unit_part u (standing v)).next (k + 1) (front ++ back)) h in
    let t = takes k v u g.none in
    let w = with_unit k u v in
    let ih = front-grows (k + 1) m w front back
    (subst (λ (s : Standing). verdict_from s (k + 1) (front ++ back) ≡ Ok m) t.next g.ok) in
    let grows = subst (λ (s : Standing). (standing v).next.number ≤ s.next.number) t.next (unit-grows u (standing v)) in
    omega (arith, ih, grows)

-- after some units, where all of them are of pictures below n
record Passed (n m j : ℕ) (es : List (ℕ × Event)) (w : Standing) (back : List Meaning) : Type 0 where
  same : events_for n es ≡ events_for n (events_from w j back)
  ok : verdict_from w j back ≡ Ok m
  under : StandingUnder n w

passed : (n k m : ℕ) (v : Stream) (front back : List Meaning)
    → verdict_from (standing v) k (front ++ back) ≡ Ok m → StandingUnder n (standing v)
    → number_of (stream_from k v front) ≤ n
    → Passed n m (k + length front) (events_from (standing v) k (front ++ back)) (standing (stream_from k v front)) back
unfolding number_of
passed n k m v [] back h under few =
    subst (λ (j : ℕ). Passed n m j (events_from (standing v) k back) (standing v) back) (sym (add-zero k))
    (record { same = refl; ok = h; under = under })
passed n k m v (u ∷ front) back h under few =
    let part = unit_part u (standing v) in
    let g = goes_on k m (is_full_at u (standing v)) (refusal_at u (standing v))
    (verdict_from part.next (k + 1) (front ++ back)) h in
    let t = takes k v u g.none in
    let w = with_unit k u v in
    let ok = subst (λ (s : Standing). verdict_from s (k + 1) (front ++ back) ≡ Ok m) t.next g.ok in
    let grows = front-grows (k + 1) m w front back ok in
    let small = subst (λ (s : Standing). s.next.number ≤ n) (sym t.next)
    (let x : (standing w).next.number ≤ (standing (stream_from (k + 1) w front)).next.number = grows in
    omega (arith, x, few)) in
    let here = unit-under n u (standing v) under small in
    let ih = passed n (k + 1) m w front back ok (subst (λ (s : Standing). StandingUnder n s) t.next here.next) few in
    let rest = events_from part.next (k + 1) (front ++ back) in
    let same : events_for n (events_from (standing v) k (u ∷ front ++ back)) ≡ events_for n
    (events_from (standing w) (k + 1) (front ++ back)) =
    for-append n (at_unit k part.events) (cond (is_some (refusal_at u (standing v))) [] rest)
    ∙ ap₂ (λ l (r : Option Cause). l ++ events_for n (cond (is_some r) [] rest))
    (quiet-none n k part.events here.quiet) g.none
    ∙ ap (λ (s : Standing). events_for n (events_from s (k + 1) (front ++ back))) t.next in
    subst (λ (j : ℕ). Passed n m j (events_from (standing v) k (u ∷ front ++ back))
    (standing (stream_from (k + 1) w front)) back) (next-place k u front) (record {
      same = same ∙ ih.same;
      ok = ih.ok;
      under = ih.under;
    })

-- after sets alone
abbrev after_sets : Option Format → Standing
after_sets a = record at_first { store = record { accepted = a; buffer = [] } }

record Opened (j : ℕ) (es : List (ℕ × Event)) (answer : Result ℕ Refusal) (back : List Meaning) : Type 0 where
  accepted : Option Format
  same : events_for 0 es ≡ events_for 0 (events_from (after_sets accepted) j back)
  verdict : answer ≡ verdict_from (after_sets accepted) j back

opened : (k : ℕ) (a : Option Format) (sets back : List Meaning) → All IsOfSet sets
    → Opened (k + length sets) (events_from (after_sets a) k (sets ++ back))
    (verdict_from (after_sets a) k (sets ++ back)) back
opened k a [] back h =
    subst (λ (j : ℕ). Opened j (events_from (after_sets a) k back)
    (verdict_from (after_sets a) k back) back) (sym (add-zero k)) (record { accepted = a; same = refl; verdict = refl })
opened k a (u ∷ sets) back h =
    subst (λ (j : ℕ). Opened j (events_from (after_sets a) k (u ∷ sets ++ back))
    (verdict_from (after_sets a) k (u ∷ sets ++ back)) back) (next-place k u sets)
    (by_meaning a u (All-head IsOfSet u sets h) (λ b. opened (k + 1) b sets back (All-tail IsOfSet u sets h)))
  where
    Further : Type 0
    Further = (b : Option Format)
        → Opened (k + 1 + length sets) (events_from (after_sets b) (k + 1) (sets ++ back))
        (verdict_from (after_sets b) (k + 1) (sets ++ back)) back

    by_meaning : (c : Option Format) (w : Meaning) → IsOfSet w → Further
        → Opened (k + 1 + length sets) (events_from (after_sets c) k (w ∷ sets ++ back))
        (verdict_from (after_sets c) k (w ∷ sets ++ back)) back
    by_meaning None (SequenceSet format) h f = record {
      accepted = (f (Some format)).accepted;
      same = (f (Some format)).same;
      verdict = (f (Some format)).verdict;
    }
    by_meaning (Some b) (SequenceSet format) h f = record {
      accepted = (f (Some b)).accepted;
      same = (f (Some b)).same;
      verdict = (f (Some b)).verdict;
    }
    by_meaning c Other h f = record { accepted = (f c).accepted; same = (f c).same; verdict = (f c).verdict }
    by_meaning c (CodedSlice s) h f = absurd h
    by_meaning c EndOfSequence h f = absurd h
    by_meaning c EndOfBitstream h f = absurd h
    by_meaning c (Refused cause) h f = absurd h

-- the point itself, in the whole and in the list that begins with it
moved-here : (n v k : ℕ) (es : List Event)
    → AllMoved n v k (events_for n (at_unit v (map (raise_event n) es))) (events_for 0 (at_unit k es))
moved-here n v k es =
    subst (λ (i : ℕ). AllMoved n v k (events_for n (at_unit i (map (raise_event n) es)))
    (events_for 0 (at_unit k es))) (add-zero v)
    (subst (λ (i : ℕ). AllMoved n v k (events_for n (at_unit (v + 0) (map (raise_event n) es)))
    (events_for 0 (at_unit i es))) (add-zero k) (moved-at n v k 0 es))

-- what is done from the point on
record Spliced (n v k m : ℕ) (s : Slice) (back : List Meaning) (whole now : Standing) : Type 0 where
  events : AllMoved n v k (events_for n (events_from whole v (CodedSlice s ∷ back)))
      (events_for 0 (events_from now k (CodedSlice s ∷ back)))
  ok : verdict_from now k (CodedSlice s ∷ back) ≡ Ok (m - n)

abbrev upcoming : Standing → Context
upcoming t = (finish_current t).next.next

-- a slice begins the point's picture
point-begun : (n : ℕ) (s : Slice) (t : Standing) → is_idr s.nal_unit_type || is_bla s.nal_unit_type ≡ true
    → s.temporal_id ≡ 0 → s.dependent_slice_segment_flag ≡ false → begins_picture t.current s ≡ true
    → order_count_in_range (point_head (upcoming t) s) ≡ true → StandingUnder n t
    → Begun n (point_head (upcoming t) s) s (own_header s) (upcoming t) (unit_part (CodedSlice s) t)
point-begun n s t type tid own begins range under =
    let p = point_head (upcoming t) s in
    let t' = record t { kept = own_header s } in
    subst (λ (x : Part Standing). Begun n p s (own_header s) (upcoming t) x)
    (ap (λ (h : Head). finish_current t' >>= begin_by h s) (sym (head-at (upcoming t) s type tid))
    ∙ sym (part-at s t own begins))
    (begun n p s t' (record { buffer = under.buffer; current = under.current }) refl refl
    (decoded-point (upcoming t) s range))

same_standing : (n : ℕ) (b : Bool) (p q : Head) (s : Slice) (c d : Context) → p ≡ raise_head n b q
    → stands p s (own_header s) c ≡ raise_standing n b c.prev_tid0_count (stands q s (own_header s) d)
same_standing n b p q s c d is =
    ap (λ (h : Head). stands h s (own_header s) c) is
    ∙ ap (λ (set : RefPicSet). over (record { accepted = Some q.format; buffer = [] })
    (OpenPicture (raise_head n b q) set) (own_header s) (context_behind (raise_head n b q) c)) (set-raised n b q s [])
    ∙ ap (λ (j : ℕ). over (record { accepted = Some q.format; buffer = [] })
    (OpenPicture (raise_head n b q) (raise_set n (reference_set q s []))) (own_header s)
    (record (context_behind (raise_head n b q) c) { number = j })) (number q.number)
  where
    number : (j : ℕ) → n + j + 1 ≡ n + (j + 1)
    number j = omega arith

-- what comes before the point's own calls is for earlier pictures
quiet-front : (n k : ℕ) (front es : List Event) → AllQuiet n front
    → events_for n (at_unit k (front ++ es)) ≡ events_for n (at_unit k es)
quiet-front n k front es quiet = ap (events_for n) (at-append k front es)
    ∙ for-append n (at_unit k front) (at_unit k es)
    ∙ ap (λ l. l ++ events_for n (at_unit k es)) (quiet-none n k front quiet)

spliced : (n v k m : ℕ) (s : Slice) (back : List Meaning) (whole : Standing) (a : Option Format)
    → is_idr s.nal_unit_type || is_bla s.nal_unit_type ≡ true → s.temporal_id ≡ 0
    → s.dependent_slice_segment_flag ≡ false → begins_picture whole.current s ≡ true → StandingUnder n whole
    → whole.next.number ≡ n
    → verdict_from whole v (CodedSlice s ∷ back) ≡ Ok m → Spliced n v k m s back whole (after_sets a)
spliced n v k m s back whole a type tid own begins under number h =
    let u = CodedSlice s in
    let now = after_sets a in
    let g = goes_on v m (is_full_at u whole) (refusal_at u whole)
    (verdict_from (unit_part u whole).next (v + 1) back) h in
    let c = upcoming whole in
    let d = upcoming now in
    let p = point_head c s in
    let q = point_head d s in
    let range : order_count_in_range p ≡ true =
    none-in_range p (ap refusal_of_picture (sym (head-at c s type tid))
    ∙ sym (refusal-at s whole own begins) ∙ g.none) in
    let range' : order_count_in_range q ≡ true = range-point d c s ∙ range in
    let w = point-begun n s whole type tid own begins range under in
    let x = point-begun 0 s now type tid own refl range' (record { buffer = tt; current = tt }) in
    let none : refusal_at u now ≡ None = refusal-at s now own refl
    ∙ ap refusal_of_picture (head-at d s type tid) ∙ in_range-none q range' in
    let b = p.no_output_of_prior_pics in
    let is_head : p ≡ raise_head n b q = ap (λ (j : ℕ). record p { number = j }) (number ∙ sym (add-zero n)) in
    let shifted : stands p s (own_header s) c ≡ raise_standing n b c.prev_tid0_count
    (stands q s (own_header s) d) = same_standing n b p q s c d is_head in
    let later = moved-from n v k 1 b c.prev_tid0_count (stands q s (own_header s) d) back refl in
    record {
      events = moved-same n v k _ _ _ _
          (for-append n (at_unit v (unit_part u whole).events)
          (cond (is_some (refusal_at u whole)) [] (events_from (unit_part u whole).next (v + 1) back))
          ∙ ap₂ (λ l (r : Option Cause). events_for n (at_unit v l)
          ++ events_for n (cond (is_some r) [] (events_from (unit_part u whole).next (v + 1) back))) w.events g.none
          ∙ ap₂ (λ l (t : Standing). l ++ events_for n (events_from t (v + 1) back))
          (quiet-front n v w.front (started p s) w.quiet
          ∙ ap (λ l. events_for n (at_unit v l)) (ap (λ (y : Head). started y s) is_head
          ∙ started-raised n b q s)) (w.next ∙ shifted))
          (for-append 0 (at_unit k (unit_part u now).events)
          (cond (is_some (refusal_at u now)) [] (events_from (unit_part u now).next (k + 1) back))
          ∙ ap₂ (λ l (r : Option Cause). events_for 0 (at_unit k l)
          ++ events_for 0 (cond (is_some r) [] (events_from (unit_part u now).next (k + 1) back))) x.events none
          ∙ ap₂ (λ l (t : Standing). l ++ events_for 0 (events_from t (k + 1) back))
          (quiet-front 0 k x.front (started q s) x.quiet) x.next)
          (moved-append n v k _ _ _ _ (moved-here n v k (started q s)) later);
      ok = verdict-ok k (m - n) (is_full_at u now) (refusal_at u now)
          (verdict_from (unit_part u now).next (k + 1) back) (full-at s now own refl) none
          (ap (λ (t : Standing). verdict_from t (k + 1) back) x.next
          ∙ verdict-later n (k + 1) (v + 1) m b c.prev_tid0_count (stands q s (own_header s) d) back refl
          (subst (λ (t : Standing). verdict_from t (v + 1) back ≡ Ok m) (w.next ∙ shifted) g.ok));
    }

begins-at : (set : Option (ℕ × Format)) (ps : List Picture) (s : Slice) → begins_after ps s ≡ true
    → begins_picture (current_by set ps) s ≡ true
begins-at set [] s h = refl
begins-at set (p ∷ before) s h = begins-current p.head (reference_set_of set p before) s ∙ h

pictures-number : (us : List Meaning) → number_of (stream us) ≡ length (pictures us)
unfolding number_of
pictures-number us = same_number (pictures us) ∙ numbered-length (pictures us) (stream-numbered 0 nothing_yet us tt)

-- the events of both lists, and the verdict
pub record Whole (n v k m : ℕ) (whole now : List Meaning) : Type 0 where
  pub events : AllMoved n v k (events_for n (events whole)) (events_for 0 (events now))
  pub ok : verdict now ≡ Ok (m - n)

pub both-lists : (before back sets : List Meaning) (s : Slice) (m : ℕ) → IsStart before s → All IsOfSet sets
    → verdict (before ++ CodedSlice s ∷ back) ≡ Ok m
    → Whole (length (pictures before)) (length before) (length sets) m (before ++ CodedSlice s ∷ back)
    (sets ++ CodedSlice s ∷ back)
unfolding number_of
both-lists before back sets s m point all h =
    let n = length (pictures before) in
    let v = length before in
    let k = length sets in
    let rest = CodedSlice s ∷ back in
    let number = pictures-number before in
    let w = standing (stream before) in
    let pass = subst (λ (j : ℕ). Passed n m j (events_from at_first 0 (before ++ rest)) w rest) (zero-add v)
    (passed n 0 m nothing_yet before rest (verdict-same (before ++ rest) ∙ h) (record {
      buffer = tt;
      current = tt;
    }) (few number)) in
    let open' = subst
    (λ (j : ℕ). Opened j (events_from at_first 0 (sets ++ rest))
    (verdict_from at_first 0 (sets ++ rest)) rest) (zero-add k) (opened 0 None sets rest all) in
    let sp = spliced n v k m s back w open'.accepted point.nal_unit_type point.temporal_id point.independent
    (begins-at (stream before).first_set (pictures before) s point.first) pass.under number pass.ok in
    record {
      events = moved-same n v k _ _ _ _ (ap (events_for n) (sym (events-same (before ++ rest))) ∙ pass.same)
          (ap (events_for 0) (sym (events-same (sets ++ rest))) ∙ open'.same) sp.events;
      ok = sym (verdict-same (sets ++ rest)) ∙ open'.verdict ∙ sp.ok;
    }
  where
    few : {a b : ℕ} → a ≡ b → a ≤ b
    few {a} {b} e = omega (arith, e)
