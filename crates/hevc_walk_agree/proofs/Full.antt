-- What has been asked where a picture is stored into a full buffer.
use Rattle.std.proofs.Common.{◌≡◌, ℕ, ◌+◌, ◌<◌, ◌≤◌, Bool, true, false, not, cond, ◌&&◌, List, []}
use Rattle.std.proofs.Common.{◌∷◌, ◌++◌, length, refl, sym, ◌∙◌, ap, subst, append_assoc}
use Rattle.std.proofs.Common.{append-nil, arith, Option, Some, None, is_some, add-zero, zero-add}
use Rattle.std.specs.Prelude.{nat_le}
use Rattle.std.proofs.lemmas.Grind.{flat_map-append}
use Rattle.std.proofs.lemmas.List.Elements.{filter-append}
use Rattle.std.specs.Prelude.{nat_lt}
use Rattle.hevc_walk.specs.Meanings.{Meaning, SequenceSet, CodedSlice, EndOfSequence}
use Rattle.hevc_walk.specs.Meanings.{EndOfBitstream, Other, Refused, Slice}
use Rattle.hevc_walk.specs.DependentSlices.{whole_slice, kept_header}
use Rattle.hevc_walk.specs.Pictures.{Head, Stream, with_unit, nothing_yet}
use Rattle.hevc_walk.specs.Walk.{Event, Called, SubmitPicture, Part, Store, nothing, finish}
use Rattle.hevc_walk.specs.Walk.{store_picture, accepted_size, is_full, earlier_of, at_unit}
use Rattle.hevc_walk.specs.Refusals.{Cause, UnitRefused, NoIndependentSlice, ChangedMidPicture}
use Rattle.hevc_walk.specs.Refusals.{PocOutOfRange, DpbFull, Refusal, refusal, first_refusal}
use Rattle.hevc_walk.specs.Refusals.{stop_from, stop, covered_at, covered_from, covered_stream}
use Rattle.hevc_walk.specs.Results.{events, calls, calls_in, call_at, calls_below, full_at_end, full}
use Rattle.hevc_walk_units.specs.Units as units
use Rattle.hevc_walk_units.specs.Units.{Standing, unit_part, refusal_at, is_full_at, is_full_now}
use Rattle.hevc_walk_units.specs.Units.{open_head, closing_part, events_from, begins_picture}
use Rattle.hevc_walk_agree.specs.Standings.{standing, full_by}
use Rattle.hevc_walk_agree.specs.Submissions.{SubmitsFirst}
use Rattle.hevc_walk_agree.proofs.Joined.{Outcome, outcome, refusal-same, next-place, full-now, events-same}
use Rattle.hevc_walk_agree.proofs.Cuts.{AllBelow, AllFrom, AllBelow-append, AllBelow-at}
use Rattle.hevc_walk_agree.proofs.Cuts.{AllFrom-append, AllFrom-at, events_from-from, below}
use Rattle.hevc_walk_agree.proofs.Cuts.{below-all, below-none, calls_below-in}

-- the unit of the first store into a full buffer, from the unit k on
abbrev pub full_from : Standing → ℕ → List Meaning → Option ℕ
full_from s k [] = cond (is_full_now s) (Some k) None
full_from s k (u ∷ us) =
    earlier_of (cond (is_full_at u s) (Some k) None)
    (cond (is_some (refusal_at u s)) None (full_from (unit_part u s).next (k + 1) us))

FullJoin : Stream → Option ℕ → Option Refusal → ℕ → Stream → Type 0
FullJoin v rest stopped n last = earlier_of (full_by v) rest ≡ earlier_of (full_by last) (full_at_end stopped n last)

first-assoc : (a b c : Option ℕ) → earlier_of a (earlier_of b c) ≡ earlier_of (earlier_of a b) c
first-assoc None b c = refl
first-assoc (Some k) b c = refl

first-none : (b : Option ℕ) → earlier_of b None ≡ b
first-none None = refl
first-none (Some k) = refl

idle-step : (k : ℕ) (f : Option ℕ) (b : Bool) (later : Option ℕ) → b ≡ false
    → earlier_of f (earlier_of (cond b (Some k) None) None) ≡ earlier_of f None
idle-step k f true later h = absurd (cc h)
idle-step k f false later h = refl

full-step : (k n : ℕ) (v w last : Stream) (part : Part Standing) (fills : Bool) (later : Option Refusal)
    (from : Standing → Option ℕ) (r : Option Cause) → Outcome k v part fills w r
    → FullJoin w (from (standing w)) later n last
    → FullJoin v (earlier_of (cond fills (Some k) None) (cond (is_some r) None (from part.next)))
    (first_refusal k r later) n (covered_at r v w last)
unfolding FullJoin
full-step k n v w last part fills later from None takes h =
    first-assoc (full_by v) (cond fills (Some k) None) (from part.next)
    ∙ ap (λ (f : Option ℕ). earlier_of f (from part.next)) (sym takes.full)
    ∙ ap (λ (x : Standing). earlier_of (full_by w) (from x)) takes.next ∙ h
full-step k n v w last part fills later from (Some PocOutOfRange) takes h =
    first-assoc (full_by v) (cond fills (Some k) None) None ∙ ap (λ (f : Option ℕ). earlier_of f None) (sym takes.full)
full-step k n v w last part fills later from (Some (UnitRefused cause)) idles h =
    idle-step k (full_by v) fills None idles.full
full-step k n v w last part fills later from (Some NoIndependentSlice) idles h =
    idle-step k (full_by v) fills None idles.full
full-step k n v w last part fills later from (Some (ChangedMidPicture a b)) idles h =
    idle-step k (full_by v) fills None idles.full
full-step k n v w last part fills later from (Some DpbFull) idles h = idle-step k (full_by v) fills None idles.full

full-join : (k : ℕ) (v : Stream) (us : List Meaning)
    → FullJoin v (full_from (standing v) k us) (stop_from k v us) (k + length us) (covered_from k v us)
unfolding FullJoin
full-join k v [] =
    ap (λ (b : Bool). earlier_of (full_by v) (cond b (Some k) None)) (full-now v)
    ∙ ap (λ (n : ℕ). earlier_of (full_by v) (full_at_end None n v)) (sym (add-zero k))
full-join k v (u ∷ us) =
    let w = with_unit k u v in
    let here = unit_part u (standing v) in
    let h : FullJoin v
    (earlier_of (cond (is_full_at u (standing v)) (Some k) None)
    (cond (is_some (refusal v u)) None (full_from here.next (k + 1) us))) (stop_from k v (u ∷ us))
    (k + length (u ∷ us)) (covered_from k v (u ∷ us)) =
    full-step k (k + length (u ∷ us)) v w (covered_from (k + 1) w us) here (is_full_at u (standing v))
    (stop_from (k + 1) w us) (λ s. full_from s (k + 1) us) (refusal v u) (outcome k v u)
    (subst (λ (n : ℕ). FullJoin w (full_from (standing w) (k + 1) us) (stop_from (k + 1) w us) n
    (covered_from (k + 1) w us)) (next-place k u us) (full-join (k + 1) w us)) in
    ap (λ (r : Option Cause). earlier_of (full_by v)
    (earlier_of (cond (is_full_at u (standing v)) (Some k) None)
    (cond (is_some r) None (full_from here.next (k + 1) us)))) (refusal-same v u) ∙ h

pub full-same : (us : List Meaning) → full_from units.at_first 0 us ≡ full us
unfolding FullJoin
full-same us =
    subst (λ (n : ℕ). FullJoin nothing_yet (full_from units.at_first 0 us) (stop us) n (covered_stream us))
    (zero-add (length us)) (full-join 0 nothing_yet us)

-- some events begin with a submission
pub record Submits (es : List Event) : Type 0 where
  pub number : ℕ
  pub rest : List Event
  pub events : es ≡ Called (SubmitPicture number) ∷ rest

Submits-append : (es more : List Event) → Submits es → Submits (es ++ more)
Submits-append es more h = record { number = h.number; rest = h.rest ++ more; events = ap (λ l. l ++ more) h.events }

both : (a b : Bool) → a && b ≡ true → (a ≡ true) × (b ≡ true)
both true b h = (refl, h)
both false b h = absurd (cc h)

finish-submits : (q : Option Head) (s : Store) → is_full q s ≡ true → Submits (finish q s).events
unfolding finish store_picture
finish-submits None s h = absurd (cc h)
finish-submits (Some q) s h = by_skipped q.skipped h
  where
    by_skipped : (b : Bool) → not b && nat_le (accepted_size s.accepted) (length s.buffer) ≡ true
        → Submits (cond b (nothing s) (store_picture q s)).events
    by_skipped true h = absurd (cc h)
    by_skipped false h = record { number = q.number; rest = _; events = refl }

first-submits : (slice : Slice) (s : Standing) → begins_picture s.current slice && is_full_now s ≡ true
    → Submits (units.slice_part slice s).events
first-submits slice s h =
    subst (λ (b : Bool). Submits (cond b (units.first_slice slice s) (units.later_slice slice s)).events)
    (sym is.0) (Submits-append (units.finish_current s).events _ (finish-submits (open_head s.current) s.store is.1))
  where
    is : (begins_picture s.current slice ≡ true) × (is_full_now s ≡ true)
    is = both (begins_picture s.current slice) (is_full_now s) h

whole-submits : (slice : Option Slice) (s : Standing) (kept : Option _) → units.fills_by slice s ≡ true
    → Submits (units.whole_part slice (record s { kept = kept })).events
whole-submits None s kept h = absurd (cc h)
whole-submits (Some slice) s kept h = first-submits slice (record s { kept = kept }) h

unit-submits : (u : Meaning) (s : Standing) → is_full_at u s ≡ true → Submits (unit_part u s).events
unit-submits (SequenceSet format) s h = absurd (cc h)
unit-submits (CodedSlice slice) s h = whole-submits (whole_slice s.kept slice) s (kept_header s.kept slice) h
unit-submits EndOfSequence s h = absurd (cc h)
unit-submits EndOfBitstream s h = absurd (cc h)
unit-submits Other s h = absurd (cc h)
unit-submits (Refused cause) s h = absurd (cc h)

-- the events below j, then the submission at j
record SubmitsAt (j : ℕ) (es : List (ℕ × Event)) : Type 0 where
  front : List (ℕ × Event)
  number : ℕ
  later : List (ℕ × Event)
  whole : es ≡ front ++ (j, Called (SubmitPicture number)) ∷ later
  front_below : AllBelow j front
  later_from : AllFrom j later

at-submits : (k : ℕ) (es : List Event) (more : List (ℕ × Event)) → Submits es → AllFrom k more
    → SubmitsAt k (at_unit k es ++ more)
at-submits k es more h from = record {
  front = [];
  number = h.number;
  later = at_unit k h.rest ++ more;
  whole = ap (λ l. at_unit k l ++ more) h.events;
  front_below = tt;
  later_from = AllFrom-append k (at_unit k h.rest) more (AllFrom-at k k h.rest (omega arith)) from;
}

same_unit : (j k : ℕ) → Some k ≡ Some j → k ≡ j
same_unit j k h = cc h

behind-submits : (j k : ℕ) (es : List Event) (more : List (ℕ × Event)) → k < j → SubmitsAt j more
    → SubmitsAt j (at_unit k es ++ more)
behind-submits j k es more h s = record {
  front = at_unit k es ++ s.front;
  number = s.number;
  later = s.later;
  whole = ap (λ l. at_unit k es ++ l) s.whole
      ∙ sym (append_assoc (at_unit k es) s.front ((j, Called (SubmitPicture s.number)) ∷ s.later));
  front_below = AllBelow-append j (at_unit k es) s.front (AllBelow-at j k es h) s.front_below;
  later_from = s.later_from;
}

-- a store comes at its own unit or after it
full_from-from : (j k : ℕ) (s : Standing) (us : List Meaning) → full_from s k us ≡ Some j → k ≤ j
full_from-from j k s [] h = by_full (is_full_now s) h
  where
    by_full : (b : Bool) → cond b (Some k) None ≡ Some j → k ≤ j
    by_full true h = let e = same_unit j k h in omega (arith, e)
    by_full false h = absurd (cc h)
full_from-from j k s (u ∷ us) h =
    by_full (is_full_at u s) (is_some (refusal_at u s)) (full_from-from j (k + 1) (unit_part u s).next us) h
  where
    by_full : (b r : Bool) → (full_from (unit_part u s).next (k + 1) us ≡ Some j → k + 1 ≤ j)
        → earlier_of (cond b (Some k) None) (cond r None (full_from (unit_part u s).next (k + 1) us)) ≡ Some j → k ≤ j
    by_full true r further h = let e = same_unit j k h in omega (arith, e)
    by_full false true further h = absurd (cc h)
    by_full false false further h = let e = further h in omega (arith, e)

submits_from : (j k : ℕ) (s : Standing) (us : List Meaning) → full_from s k us ≡ Some j
    → SubmitsAt j (events_from s k us)
submits_from j k s [] h = by_full (is_full_now s) refl h
  where
    by_full : (b : Bool) → is_full_now s ≡ b → cond b (Some k) None ≡ Some j → SubmitsAt j (events_from s k [])
    by_full true is h =
        subst (λ (n : ℕ). SubmitsAt n (events_from s k [])) (same_unit j k h)
        (subst (λ l. SubmitsAt k l) (append-nil (at_unit k (closing_part s).events))
        (at-submits k (closing_part s).events []
        (Submits-append (finish (open_head s.current) s.store).events _
        (finish-submits (open_head s.current) s.store is)) tt))
    by_full false is h = absurd (cc h)
submits_from j k s (u ∷ us) h =
    by_full (is_full_at u s) refl (is_some (refusal_at u s)) (submits_from j (k + 1) (unit_part u s).next us) h
  where
    rest : Bool → List (ℕ × Event)
    rest r = cond r [] (events_from (unit_part u s).next (k + 1) us)

    rest-from : (r : Bool) → AllFrom k (rest r)
    rest-from true = tt
    rest-from false = events_from-from k (k + 1) (unit_part u s).next us (omega arith)

    by_full : (b : Bool) → is_full_at u s ≡ b → (r : Bool)
        → (full_from (unit_part u s).next (k + 1) us ≡ Some j
        → SubmitsAt j (events_from (unit_part u s).next (k + 1) us))
        → earlier_of (cond b (Some k) None) (cond r None (full_from (unit_part u s).next (k + 1) us))
        ≡ Some j → SubmitsAt j (at_unit k (unit_part u s).events ++ rest r)
    by_full true is r further h =
        subst (λ (n : ℕ). SubmitsAt n (at_unit k (unit_part u s).events ++ rest r)) (same_unit j k h)
        (at-submits k (unit_part u s).events (rest r) (unit-submits u s is) (rest-from r))
    by_full false is true further h = absurd (cc h)
    by_full false is false further h =
        behind-submits j k (unit_part u s).events (events_from (unit_part u s).next (k + 1) us)
        (let e = full_from-from j (k + 1) (unit_part u s).next us h in omega (arith, e)) (further h)

-- the calls below j, the submission, and what comes at j or after it
pub full-calls : (us : List Meaning) (j : ℕ) → full us ≡ Some j → SubmitsFirst j (calls us)
full-calls us j h = record {
  number = s.number;
  later = calls_in s.later;
  whole = whole ∙ ap (λ l. l ++ (j, SubmitPicture s.number) ∷ calls_in s.later) (sym front);
  later_from = calls_below-in j s.later ∙ ap calls_in (below-none j s.later s.later_from);
}
  where
    s : SubmitsAt j (events us)
    s = subst (λ l. SubmitsAt j l) (events-same us) (submits_from j 0 units.at_first us (full-same us ∙ h))

    submission : List (ℕ × Event)
    submission = (j, Called (SubmitPicture s.number)) ∷ s.later

    whole : calls us ≡ calls_in s.front ++ (j, SubmitPicture s.number) ∷ calls_in s.later
    whole = ap calls_in s.whole ∙ flat_map-append (λ e. call_at e.0 e.1) s.front submission

    front : calls_below j (calls us) ≡ calls_in s.front
    front =
        calls_below-in j (events us)
        ∙ ap (λ l. calls_in (below j l)) s.whole
        ∙ ap calls_in (filter-append (λ e. nat_lt e.0 j) s.front submission
        ∙ ap (λ l. l ++ below j submission) (below-all j s.front s.front_below)
        ∙ ap (λ l. s.front ++ l) (below-none j submission (omega arith, s.later_from)) ∙ append-nil s.front)
