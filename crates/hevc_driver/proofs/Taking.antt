-- A slice as a whole.
use Rattle.std.proofs.Common.{◌≡◌, ◌≢◌, ◌==◌, ◌-◌, ◌^◌, eq-eqb, ne_eqb, inl, inr, [], ◌++◌, refl}
use Rattle.std.proofs.Common.{sym, ◌∙◌, ap, subst, Option, Some, None, Result, Ok, Err, Bool, true}
use Rattle.std.proofs.Common.{false, not, ◌&&◌, if◌then◌else◌}
use Rattle.std.specs.Prelude.{is_some}
use Rattle.std.proofs.lemmas.List.{append-nil}
use Rattle.hevc_walk.specs.Meanings.{Format, Slice, Meaning, CodedSlice}
use Rattle.hevc_walk.specs.DependentSlices.{whole_slice}
use Rattle.hevc_walk.specs.Pictures.{Head, head}
use Rattle.hevc_walk.specs.Walk as walk
use Rattle.hevc_walk.specs.Walk.{Part, ◌>>=◌, nothing, call, slice_call, Store, is_decoded}
use Rattle.hevc_walk.specs.Walk.{is_accepted, finish, store_picture, change_format}
use Rattle.hevc_walk.specs.Refusals.{Cause, NoIndependentSlice, PocOutOfRange, ChangedMidPicture, refusal_of_picture}
use Rattle.hevc_walk_units.specs.Units.{Standing, Current, NoPicture, SkippedPicture, OpenPicture}
use Rattle.hevc_walk_units.specs.Units.{on_store, finish_current, open_head, begin_slice}
use Rattle.hevc_walk_units.specs.Units.{first_slice, later_slice, whole_part, decode_slice}
use Rattle.hevc_walk_units.specs.Units.{decode_current, begins_picture, refusal_of_later}
use Rattle.hevc_walk_units.specs.Units.{refusal_of_whole, refusal_at, is_full_now, is_full_at}
use Rattle.hevc_walk_units.specs.Units.{fills_by}
use Rattle.hevc_driver.specs.declared.decode_error.DecodeError.{DecodeError}
use Rattle.hevc_driver.specs.declared.decode_error.DecodeError.TheVariants as errors
use Rattle.hevc_backend.specs.Negotiation.{format_of}
use Rattle.hevc_driver.specs.Given.{Given}
use Rattle.hevc_driver.specs.Does.{Traces, questioned, questioned_if, Does, Stops, Completes}
use Rattle.hevc_driver.specs.Moments.{given_up, with_kept, begins_at, begins_by, negotiates}
use Rattle.hevc_driver.specs.Moments.{negotiates_by, spends, opening, opening_by, step_part}
use Rattle.hevc_driver.specs.Takes.{asking, StopsAt, Fills, Halts, Refuses, LeftAt, Takes, Follows}
use Rattle.hevc_driver.specs.Takes.{Changes, IsRefused, Finishes, Begins, LeftStarted, LeftBegun}
use Rattle.hevc_driver.specs.Takes.{LeftUnsubmitted, Changed}
use Rattle.hevc_driver.proofs.Doing.{does_nothing, does_questioned, does_then, stops_as, stops_then}
use Rattle.hevc_driver.proofs.Doing.{stops_more, keeps_all}
use Rattle.hevc_driver.proofs.PictureBegins.{begin_accepted, starts_nothing}

-- a slice of the current picture changes nothing
pub decode_next : (w : Slice) (s : Standing) → (decode_slice w s).next ≡ s
decode_next w s = current s.current
  where
    decoded : (p : Bool) (c : walk.Call) → (if p then call c s else nothing s).next ≡ s
    decoded true c = refl
    decoded false c = refl

    current : (v : Current) → (decode_current v w s).next ≡ s
    current NoPicture = refl
    current SkippedPicture = refl
    current (OpenPicture p set) = decoded (is_decoded p) (slice_call p set w)

pub later_next : (w : Slice) (s : Standing) → (later_slice w s).next ≡ s
later_next w s = by (is_some (refusal_of_later s.current w s.store.accepted))
  where
    by : (b : Bool) → (if b then nothing s else decode_slice w s).next ≡ s
    by true = refl
    by false = decode_next w s

later_refused : (w : Slice) (s : Standing) (c : Cause)
    → refusal_of_later s.current w s.store.accepted ≡ Some c → (later_slice w s).events ≡ []
later_refused w s c e = ap (λ (o : Option Cause). (if is_some o then nothing s else decode_slice w s).events) e

pub finish_accepted : (h : Option Head) (st : Store) → (finish h st).next.accepted ≡ st.accepted
unfolding finish store_picture
finish_accepted None st = refl
finish_accepted (Some p) st = by p.skipped
  where
    by : (b : Bool) → (if b then nothing st else store_picture p st).next.accepted ≡ st.accepted
    by true = refl
    by false = refl

module _ {H : Type 0} (t : Given) (a b : Traces H) (x w : Slice) (s st : Standing)
    (whole : whole_slice s.kept x ≡ Some w) where
  abbrev u : Meaning
  u = CodedSlice x

  abbrev k : Standing
  k = with_kept x s

  negotiates_is : (v : Bool) → begins_picture s.current w ≡ v
      → negotiates u s ≡ (v && not (is_accepted w.format s.store.accepted))
  negotiates_is v e = ap (λ o. negotiates_by o s) whole ∙ ap (λ c. c && not (is_accepted w.format s.store.accepted)) e

  begins_is : (v : Bool) → begins_picture s.current w ≡ v → begins_at u s ≡ v
  begins_is v e = ap (λ o. begins_by o s) whole ∙ e

  spends_is : (v n : Bool) → begins_picture s.current w ≡ v → negotiates u s ≡ n
      → spends u s ≡ (v && not n && (s.next.number == 2 ^ 64 - 1))
  spends_is v n e o = ap (λ c. c && not (negotiates u s) && (s.next.number == 2 ^ 64 - 1)) (begins_is v e)
      ∙ ap (λ c. v && not c && (s.next.number == 2 ^ 64 - 1)) o

  full_is : (v : Bool) → begins_picture s.current w ≡ v → is_full_at u s ≡ (v && is_full_now s)
  full_is v e = ap (λ o. fills_by o s) whole ∙ ap (λ c. c && is_full_now s) e

  refusal_is : (v : Bool) → begins_picture s.current w ≡ v
      → refusal_at u s
      ≡ (if v then refusal_of_picture (head (finish_current s).next.next w) else refusal_of_later s.current
      w s.store.accepted)
  refusal_is v e = ap (λ o. refusal_of_whole o s) whole
      ∙ ap (λ (c : Bool). if c then refusal_of_picture
      (head (finish_current s).next.next w) else refusal_of_later s.current w s.store.accepted) e

  part_is : (v : Bool) → begins_picture s.current w ≡ v
      → step_part u s ≡ (if v then first_slice w k else later_slice w k)
  part_is v e = ap (λ o. whole_part o k) whole ∙ ap (λ (c : Bool). if c then first_slice w k else later_slice w k) e

  -- frames are asked for where a picture begins
  unasked : (P : Traces H → Type 0) → begins_picture s.current w ≡ false → P a → P (asking u s a)
  unasked P later y = subst (λ (v : Bool). P (questioned_if v a)) (sym (begins_is false later)) y

  once_asked : (P : Traces H → Type 0) → begins_picture s.current w ≡ true → P (questioned a) → P (asking u s a)
  once_asked P begins y = subst (λ (v : Bool). P (questioned_if v a)) (sym (begins_is true begins)) y

  -- ---- a later slice

  module _ (later : begins_picture s.current w ≡ false) where
    numbered_later : spends u s ≡ false
    numbered_later = spends_is false false later (negotiates_is false later)

    given_later : (c : walk.Call) → LeftStarted c × (st ≡ given_up k) → st ≡ given_up (step_part u s).next
    given_later c h =
        h.1 ∙ ap given_up (sym (ap (λ (q : Part Standing). q.next) (part_is false later) ∙ later_next w k))

    left_later : (c : walk.Call) → LeftStarted c × (st ≡ given_up k) → LeftAt c false u s st
    left_later (walk.SubmitPicture number) h = absurd h.0
    left_later (walk.NewSequence info) h = absurd h.0
    left_later (walk.NewPicture number nal c o i) h =
        (numbered_later, given_later (walk.NewPicture number nal c o i) h, sym (begins_is false later))
    left_later (walk.BeginPicture number set) h =
        (numbered_later, given_later (walk.BeginPicture number set) h, sym (begins_is false later))
    left_later (walk.DecodeSlice number address bytes l0 l1) h =
        (numbered_later, given_later (walk.DecodeSlice number address bytes l0 l1) h, sym (begins_is false later))

    stops_later : Stops t a b (later_slice w k).events (λ c. LeftStarted c × (st ≡ given_up k)) → StopsAt t a b u s st
    stops_later y = record {
      asked = false;
      stops = stops_as t a b (later_slice w k).events (step_part u s).events
          (λ c. LeftStarted c × (st ≡ given_up k))
          (λ c. LeftAt c false u s st) (ap (λ (q : Part Standing). q.events) (part_is false later)) left_later y;
    }

    refused_later : (e : DecodeError) → Changed e (refusal_of_later s.current w s.store.accepted) × (b ≡ a)
        × (st ≡ given_up k) → Refuses e t a b u s st
    refused_later e y = record {
      accepted = negotiates_is false later;
      room = full_is false later;
      numbered = numbered_later;
      cause = ChangedMidPicture (format_of y.0.accepted) (format_of y.0.named);
      refused = refusal_is false later ∙ y.0.refused;
      named = sym y.0.told;
      does = unasked (λ v. Does t v b (step_part u s).events) later
          (subst (Does t a b)
          (sym (ap (λ (q : Part Standing). q.events) (part_is false later)
          ∙ later_refused w k (ChangedMidPicture (format_of y.0.accepted) (format_of y.0.named)) y.0.refused))
          (does_nothing t a b (ap (λ (v : Traces H). v.log) y.1) (ap (λ (v : Traces H). v.handed) y.1)
          (ap (λ (v : Traces H). v.asked) y.1) (ap (λ (v : Traces H). v.queue) y.1)
          (keeps_all a.tickets b.tickets (ap (λ (v : Traces H). v.tickets) y.1))));
      left = y.2;
    }

    pub takes_later : {T : Type 0} (r : Result T DecodeError) → Follows r t a b w k st → Takes r t a b u s st
    takes_later (Ok v) y = record {
      accepted = negotiates_is false later;
      room = full_is false later;
      numbered = numbered_later;
      goes_on = refusal_is false later ∙ y.0;
      completes = unasked (λ v. Completes t v b (step_part u s) st) later
          (subst (λ (q : Part Standing). Completes t a b q st) (sym (part_is false later)) y.1);
    }
    takes_later (Err errors.Backend) y = stops_later y
    takes_later (Err errors.NoMemory) y = stops_later y
    takes_later (Err errors.CheckEvents) y = absurd (cc y.0.told)
    takes_later (Err errors.DpbFull) y = absurd (cc y.0.told)
    takes_later (Err errors.PictureNumbersSpent) y = absurd (cc y.0.told)
    takes_later (Err (errors.NotEnoughOutputBuffers n)) y = absurd (cc y.0.told)
    takes_later (Err e) y = refused_later e y

  -- ---- a slice that begins a picture

  module _ (begins : begins_picture s.current w ≡ true) where
    abbrev m : Standing
    m = (finish_current k).next

    accepted_is : m.store.accepted ≡ s.store.accepted
    accepted_is = finish_accepted (open_head s.current) s.store

    opens : (v : Bool) → is_accepted w.format m.store.accepted ≡ v → negotiates u s ≡ not v
    opens v e = negotiates_is true begins ∙ ap (λ (o : Option Format). not (is_accepted w.format o))
        (sym accepted_is) ∙ ap not e

    spends_by : (v : Bool) → is_accepted w.format m.store.accepted ≡ v
        → spends u s ≡ (not (not v) && (s.next.number == 2 ^ 64 - 1))
    spends_by v e = spends_is true (not v) begins (opens v e)

    is_numbered : is_accepted w.format m.store.accepted ≡ true → m.next.number ≢ 2 ^ 64 - 1 → spends u s ≡ false
    is_numbered e numbered = spends_by true e ∙ ne_eqb _ _ numbered

    plan : (step_part u s).events ≡ (finish_current k).events ++ (begin_slice w m).events
    plan = ap (λ (q : Part Standing). q.events) (part_is true begins)

    next_is : (step_part u s).next ≡ (begin_slice w m).next
    next_is = ap (λ (q : Part Standing). q.next) (part_is true begins)

    opening_is : opening u s ≡ (finish_current k >>= on_store (change_format w.format))
    opening_is = ap (λ o. opening_by o k) whole

    -- stopped as the picture before was finished
    left_unsubmitted : (c : walk.Call) → LeftUnsubmitted c k st → LeftAt c false u s st
    left_unsubmitted (walk.SubmitPicture number) h = (tt, h, refl)
    left_unsubmitted (walk.NewSequence info) h = absurd h
    left_unsubmitted (walk.NewPicture number nal c o i) h = absurd h
    left_unsubmitted (walk.BeginPicture number set) h = absurd h
    left_unsubmitted (walk.DecodeSlice number address bytes l0 l1) h = absurd h

    stops_first : Stops t a b (finish_current k).events (λ c. LeftUnsubmitted c k st) → StopsAt t a b u s st
    stops_first y = record {
      asked = false;
      stops = stops_as t a b ((finish_current k).events ++ (begin_slice w m).events) (step_part u s).events
          (λ c. LeftAt c false u s st) (λ c. LeftAt c false u s st) plan (λ c h. h)
          (stops_more t a b (finish_current k).events (begin_slice w m).events
          (λ c. LeftAt c false u s st) (stops_as t a b (finish_current k).events (finish_current k).events
          (λ c. LeftUnsubmitted c k st) (λ c. LeftAt c false u s st) refl left_unsubmitted y));
    }

    full_first : (is_full_now k ≡ true) × Fills t a b (finish_current k).events k st
        → (is_full_at u s ≡ true) × Fills t a b (step_part u s).events k st
    full_first y = (
      full_is true begins ∙ y.0,
      record {
        number = y.1.number;
        rest = y.1.rest ++ (begin_slice w m).events;
        whole = plan ∙ ap (λ es. es ++ (begin_slice w m).events) y.1.whole;
        does = y.1.does;
        left = y.1.left;
      },
    )

    unfinished : {T : Type 0} (r : Result T DecodeError) → IsRefused r → Finishes r t a b k st → Takes r t a b u s st
    unfinished (Ok v) i y = absurd i
    unfinished (Err errors.Backend) i y = stops_first y
    unfinished (Err errors.NoMemory) i y = stops_first y
    unfinished (Err errors.DpbFull) i y = full_first y
    unfinished (Err e) i y = absurd y

    -- stopped after that
    module _ (mid : Traces H) (room : is_full_now k ≡ false) (finishes : Does t a mid (finish_current k).events) where
      asked_first : Does t (questioned a) (questioned mid) (finish_current k).events
      asked_first = does_questioned t a mid (finish_current k).events finishes

      left_begun : (c : walk.Call) → LeftBegun c w m st → LeftAt c true u s st
      left_begun (walk.SubmitPicture number) h = absurd h
      left_begun (walk.NewSequence info) h = (spends_by false h.0, h.1, sym (begins_is true begins))
      left_begun (walk.NewPicture number nal c o i) h =
          (is_numbered h.0 h.1, h.2 ∙ ap given_up (sym next_is), sym (begins_is true begins))
      left_begun (walk.BeginPicture number set) h =
          (is_numbered h.0 h.1, h.2 ∙ ap given_up (sym next_is), sym (begins_is true begins))
      left_begun (walk.DecodeSlice number address bytes l0 l1) h =
          (is_numbered h.0 h.1, h.2 ∙ ap given_up (sym next_is), sym (begins_is true begins))

      stops_behind : Stops t (questioned mid) b (begin_slice w m).events (λ c. LeftBegun c w m st)
          → StopsAt t a b u s st
      stops_behind y = record {
        asked = true;
        stops = stops_as t (questioned a) b ((finish_current k).events ++ (begin_slice w m).events)
            (step_part u s).events (λ c. LeftBegun c w m st) (λ c. LeftAt c true u s st) plan left_begun
            (stops_then t (questioned a) (questioned mid) b (finish_current k).events
            (begin_slice w m).events (λ c. LeftBegun c w m st) asked_first y);
      }

      halts : b ≡ questioned mid → st ≡ m → Halts t a b u s st
      halts same left = record {
        begins = begins_is true begins;
        room = full_is true begins ∙ room;
        does = subst (λ (v : Traces H). Does t (questioned a) v (finish_current k).events) (sym same) asked_first;
        left = left;
      }

      out_of_range : (is_accepted w.format m.store.accepted ≡ true) × (m.next.number ≢ 2 ^ 64 - 1)
          × (refusal_of_picture (head m.next w) ≡ Some PocOutOfRange) × (b ≡ questioned mid) × (st ≡ m)
          → Refuses errors.PocOutOfRange t a b u s st
      out_of_range y = record {
        accepted = opens true y.0;
        room = full_is true begins ∙ room;
        numbered = is_numbered y.0 y.1;
        cause = PocOutOfRange;
        refused = refusal_is true begins ∙ y.2;
        named = refl;
        does = once_asked (λ v. Does t v b (step_part u s).events) begins
            (subst (Does t (questioned a) b)
            (sym (plan ∙ ap (λ es. (finish_current k).events ++ es)
            (ap (λ (q : Part Standing). q.events) (begin_accepted w m y.0)
            ∙ starts_nothing (head m.next w) w m y.2) ∙ append-nil (finish_current k).events))
            (subst (λ (v : Traces H). Does t (questioned a) v (finish_current k).events) (sym y.3) asked_first));
        left = y.4;
      }

      behind : {T : Type 0} (r : Result T DecodeError) → Begins r t mid b w m st → Takes r t a b u s st
      behind (Ok v) y = record {
        accepted = opens true y.0;
        room = full_is true begins ∙ room;
        numbered = is_numbered y.0 y.1;
        goes_on = refusal_is true begins ∙ y.2;
        completes = once_asked (λ v. Completes t v b (step_part u s) st) begins (record {
          does = subst (Does t (questioned a) b) (sym plan)
              (does_then t (questioned a) (questioned mid) b (finish_current k).events
              (begin_slice w m).events asked_first y.3.does);
          next = y.3.next ∙ sym next_is;
        });
      }
      behind (Err errors.CheckEvents) y = record {
        negotiates = opens false y.0;
        room = full_is true begins ∙ room;
        completes = once_asked (λ v. Completes t v b (opening u s) st) begins
            (subst (λ (q : Part Standing). Completes t (questioned a) b q st) (sym opening_is) (record {
              does = does_then t (questioned a) (questioned mid) b (finish_current k).events
                  (on_store (change_format w.format) m).events asked_first y.1.does;
              next = y.1.next;
            }));
      }
      behind (Err errors.Backend) y = stops_behind y
      behind (Err errors.NoMemory) y = stops_behind y
      behind (Err (errors.NotEnoughOutputBuffers n)) y = (y.0, halts y.1 y.2)
      behind (Err errors.PictureNumbersSpent) y = record {
        spent = spends_by true y.0 ∙ eq-eqb _ _ y.1;
        halts = halts y.2 y.3;
      }
      behind (Err errors.PocOutOfRange) y = out_of_range y
      behind (Err e) y = absurd y

    pub takes_first : {T : Type 0} (r : Result T DecodeError) → Changes r t a b w k st → Takes r t a b u s st
    takes_first r (inl y) = behind y.mid y.room y.finishes r y.begins
    takes_first r (inr (i, y)) = unfinished r i y

-- a slice that lacks an independent one
pub lacks : {H : Type 0} (t : Given) (a b : Traces H) (x : Slice) (s st : Standing)
    → whole_slice s.kept x ≡ None → b.log ≡ a.log → b.handed ≡ a.handed → b.asked ≡ a.asked
    → b.queue ≡ a.queue → b.tickets ≡ a.tickets → st ≡ s → Refuses errors.NoIndependentSlice t a b (CodedSlice x) s st
lacks t a b x s st none log handed asked queue tickets same = record {
  accepted = ap (λ o. negotiates_by o s) none;
  room = ap (λ o. fills_by o s) none;
  numbered = ap (λ o. begins_by o s && not (negotiates (CodedSlice x) s) && (s.next.number == 2 ^ 64 - 1)) none;
  cause = NoIndependentSlice;
  refused = ap (λ o. refusal_of_whole o s) none;
  named = refl;
  does = subst (λ (v : Bool). Does t (questioned_if v a) b (step_part (CodedSlice x) s).events)
      (sym (ap (λ o. begins_by o s) none))
      (subst (Does t a b) (sym (ap (λ o. (whole_part o (with_kept x s)).events) none))
      (does_nothing t a b log handed asked queue (keeps_all a.tickets b.tickets tickets)));
  left = same;
}
