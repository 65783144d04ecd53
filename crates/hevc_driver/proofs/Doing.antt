-- How parts of the walk follow one another.
use Rattle.std.proofs.Common.{◌≡◌, ◌⊎◌, inl, inr, ℕ, List, [], ◌∷◌, ◌++◌, map, refl, sym, ◌∙◌, ap}
use Rattle.std.proofs.Common.{subst, append_assoc, Option, Some, None, Result, Ok, Err}
use Rattle.std.specs.Prelude.{Contains}
use Rattle.std.specs.List.{AllByRecursion, flat_map}
use Rattle.std.specs.Result.{IsErrAnd}
use Rattle.std.proofs.lemmas.Result.{err_from_is_err_and}
use Rattle.std.proofs.lemmas.List.{map-append, append-nil}
use Rattle.std.proofs.lemmas.Grind.{flat_map-append}
use Rattle.std.specs.declared.collections.VecDeque.{VecDeque}
use Rattle.hevc_backend.specs.declared.error.BackendError.{BackendError}
use Rattle.hevc_backend.specs.declared.error.BackendError.TheVariants.{Failed, NoMemory}
use Rattle.hevc_backend.specs.declared.call.Call.{Call}
use Rattle.hevc_backend.specs.Trait.{logged, asked_more}
use Rattle.hevc_dpb.specs.declared.dpb.Dpb.{Dpb}
use Rattle.hevc_dpb.specs.Entries.{IsPartOf, tickets}
use Rattle.hevc_dpb.specs.Views.{stored_entries}
use Rattle.hevc_bumping.specs.declared.frame.Frame.{Frame}
use Rattle.hevc_bumping.specs.Frames.{frame_output, frame_ticket, entry_output}
use Rattle.hevc_bumping.specs.Bumps.{Bumps}
use Rattle.hevc_walk.specs.Buffer.{Bumped, Entry}
use Rattle.hevc_walk.specs.Walk as walk
use Rattle.hevc_walk.specs.Walk.{Event, Called, Part, ◌>>=◌, output_of}
use Rattle.hevc_walk_units.specs.Units.{Standing}
use Rattle.hevc_driver.specs.declared.decode_error.DecodeError.{DecodeError}
use Rattle.hevc_driver.specs.declared.decode_error.DecodeError.TheVariants as errors
use Rattle.hevc_driver.specs.Errors.{backend_error}
use Rattle.hevc_driver.specs.Calls.{call_of, IsTimed, submission, submissions}
use Rattle.hevc_records.specs.Sps.{PlainSps}
use Rattle.hevc_backend.specs.Handed.{Handed, Sequence, no_picture, dpb_of}
use Rattle.hevc_walk_units.specs.Units.{at_first}
use Rattle.hevc_driver.specs.Given.{Given, handed_by, handed_in, sequence_with}
use Rattle.hevc_driver.specs.Does.{Traces, questioned, call_in, output_in, Does, Stops, StopsBy, Completes, Runs}
use Rattle.hevc_driver.proofs.Members.{part_left, part_right, part_either}

-- any
abbrev pub no_given : Given
no_given = record { timestamp = 0; set = None; picture = no_picture; dpb = dpb_of at_first.store; segment = None }

pub all_both : {X : Type 0} (P : X → Type 0) (xs ys : List X) → AllByRecursion P xs → AllByRecursion P ys
    → AllByRecursion P (xs ++ ys)
all_both P [] ys a b = b
all_both P (x ∷ xs) ys (p, a) b = (p, all_both P xs ys a b)

pub logged_more : {X : Type 0} (log : Option (List X)) (xs ys : List X)
    → logged (logged log xs) ys ≡ logged log (xs ++ ys)
logged_more None xs ys = refl
logged_more (Some log) xs ys = ap Some (append_assoc log xs ys)

pub logged_none : {X : Type 0} (log : Option (List X)) → log ≡ logged log []
logged_none None = refl
logged_none (Some log) = ap Some (sym (append-nil log))

-- a sequence parameter set was handed over
pub sequence_handed : (t : Given) (a b : Option (List Handed)) (set : PlainSps) → t.set ≡ Some set
    → b ≡ logged a (Sequence set ∷ []) → b ≡ logged a (sequence_with t.set ++ [])
sequence_handed t a b set is handed = handed ∙ ap (λ (s : Option PlainSps). logged a (sequence_with s ++ [])) (sym is)

-- ---- what was done

pub does_nothing : {H : Type 0} (t : Given) (old new : Traces H) → new.log ≡ old.log
    → new.handed ≡ old.handed → new.asked ≡ old.asked → new.queue ≡ old.queue
    → IsPartOf new.tickets old.tickets → Does t old new []
does_nothing {H} t old new log handed asked queue tickets = record {
  calls = [];
  log = log ∙ logged_none old.log;
  made = refl;
  timed = tt;
  handed = handed ∙ logged_none old.handed;
  asked = asked;
  out = [];
  queue = queue ∙ sym (append-nil old.queue);
  shown = refl;
  tied = λ x h. part_left x old.tickets [] (tickets x h);
}

pub keeps_all : {H : Type 0} (old new : List (ℕ × H)) → new ≡ old → IsPartOf new old
keeps_all {H} old new same = λ x h. subst (λ l. Contains l x) same h

-- one call; its ticket, if it has one, may be kept
pub does_call : {H : Type 0} (t : Given) (old new : Traces H) (call : Call H)
    → new.log ≡ logged old.log (call ∷ [])
    → new.handed ≡ logged old.handed (handed_by t (call_of call) ++ []) → new.asked ≡ old.asked
    → new.queue ≡ old.queue → IsPartOf new.tickets (old.tickets ++ submissions (call ∷ [])) → IsTimed t.timestamp call
    → Does t old new (Called (call_of call) ∷ [])
does_call {H} t old new call log handed asked queue tickets timed = record {
  calls = call ∷ [];
  log = log;
  made = refl;
  timed = (timed, tt);
  handed = handed;
  asked = asked;
  out = [];
  queue = queue ∙ sym (append-nil old.queue);
  shown = refl;
  tied = tickets;
}

pub keeps_more : {H : Type 0} (old new more : List (ℕ × H)) → new ≡ old → IsPartOf new (old ++ more)
keeps_more {H} old new more same = λ x h. part_left x old more (subst (λ l. Contains l x) same h)

no_calls : (es : List Entry) → flat_map call_in (map output_of es) ≡ []
no_calls [] = refl
no_calls (e ∷ es) = no_calls es

none_handed : (t : Given) (es : List Entry) → flat_map (handed_in t) (map output_of es) ≡ []
none_handed t [] = refl
none_handed t (e ∷ es) = none_handed t es

all_outputs : (es : List Entry) → flat_map output_in (map output_of es) ≡ map entry_output es
all_outputs [] = refl
all_outputs (e ∷ es) = ap (λ os. entry_output e ∷ os) (all_outputs es)

-- entries are output
pub does_bump : {H Z : Type 0} (t : Given) (old new : Traces H) (bumped : Bumped) (a b : Dpb H)
    (before now : VecDeque (Frame H) Z) → Bumps bumped a b before now → new.log ≡ old.log
    → new.handed ≡ old.handed → new.asked ≡ old.asked → old.queue ≡ before.items → new.queue ≡ now.items
    → old.tickets ≡ tickets (stored_entries a) → new.tickets ≡ tickets (stored_entries b)
    → Does t old new (map output_of bumped.outputs)
does_bump {H} t old new bumped a b before now x log handed asked queue_before queue_now tickets_before
    tickets_now = record {
      calls = [];
      log = log ∙ logged_none old.log;
      made = sym (no_calls bumped.outputs);
      timed = tt;
      handed = handed ∙ logged_none old.handed ∙ ap (logged old.handed) (sym (none_handed t bumped.outputs));
      asked = asked;
      out = x.out;
      queue = queue_now ∙ x.appended ∙ ap (λ l. l ++ x.out) (sym queue_before);
      shown = x.given ∙ sym (all_outputs bumped.outputs);
      tied = λ y h. part_left y old.tickets []
          (subst (λ l. Contains l y) (sym tickets_before)
          (from y (part_either y (map frame_ticket x.out) new.tickets h)));
    }
  where
    from : (y : ℕ × H) → Contains (map frame_ticket x.out) y ⊎ Contains new.tickets y
        → Contains (tickets (stored_entries a)) y
    from y (inl h) = x.out_handles y h
    from y (inr h) = x.handles y (subst (λ l. Contains l y) tickets_now h)

pub does_then : {H : Type 0} (t : Given) (a b c : Traces H) (d e : List Event) → Does t a b d → Does t b c e
    → Does t a c (d ++ e)
does_then {H} t a b c d e x y = record {
  calls = x.calls ++ y.calls;
  log = y.log ∙ ap (λ log. logged log y.calls) x.log ∙ logged_more a.log x.calls y.calls;
  made = map-append call_of x.calls y.calls ∙ ap (λ l. l ++ map call_of y.calls) x.made
      ∙ ap (λ l. flat_map call_in d ++ l) y.made ∙ sym (flat_map-append call_in d e);
  timed = all_both (IsTimed t.timestamp) x.calls y.calls x.timed y.timed;
  handed = y.handed ∙ ap (λ handed. logged handed (flat_map (handed_in t) e)) x.handed
      ∙ logged_more a.handed (flat_map (handed_in t) d) (flat_map (handed_in t) e)
      ∙ ap (logged a.handed) (sym (flat_map-append (handed_in t) d e));
  asked = y.asked ∙ x.asked;
  out = x.out ++ y.out;
  queue = y.queue ∙ ap (λ q. q ++ y.out) x.queue ∙ append_assoc a.queue x.out y.out;
  shown = map-append frame_output x.out y.out ∙ ap (λ l. l ++ map frame_output y.out) x.shown
      ∙ ap (λ l. flat_map output_in d ++ l) y.shown ∙ sym (flat_map-append output_in d e);
  tied = λ z h. from z (part_either z (map frame_ticket x.out) (map frame_ticket y.out ++ c.tickets)
      (subst (λ l. Contains l z) (ap (λ l. l ++ c.tickets) (map-append frame_ticket x.out y.out)
      ∙ append_assoc (map frame_ticket x.out) (map frame_ticket y.out) c.tickets) h));
}
  where
    all : List (ℕ × H)
    all = a.tickets ++ submissions (x.calls ++ y.calls)

    split : all ≡ (a.tickets ++ submissions x.calls) ++ submissions y.calls
    split = ap (λ l. a.tickets ++ l) (flat_map-append submission x.calls y.calls)
        ∙ sym (append_assoc a.tickets (submissions x.calls) (submissions y.calls))

    by_first : (z : ℕ × H) → Contains (map frame_ticket x.out ++ b.tickets) z → Contains all z
    by_first z h =
        subst (λ l. Contains l z) (sym split)
        (part_left z (a.tickets ++ submissions x.calls) (submissions y.calls) (x.tied z h))

    by_second : (z : ℕ × H) → Contains b.tickets z ⊎ Contains (submissions y.calls) z → Contains all z
    by_second z (inl h) = by_first z (part_right z (map frame_ticket x.out) b.tickets h)
    by_second z (inr h) =
        subst (λ l. Contains l z) (sym split) (part_right z (a.tickets ++ submissions x.calls) (submissions y.calls) h)

    from : (z : ℕ × H)
        → Contains (map frame_ticket x.out) z ⊎ Contains (map frame_ticket y.out ++ c.tickets) z → Contains all z
    from z (inl h) = by_first z (part_left z (map frame_ticket x.out) b.tickets h)
    from z (inr h) = by_second z (part_either z b.tickets (submissions y.calls) (y.tied z h))

-- the same after one more question for free frames
pub does_questioned : {H : Type 0} (t : Given) (a b : Traces H) (es : List Event) → Does t a b es
    → Does t (questioned a) (questioned b) es
does_questioned t a b es x = record {
  calls = x.calls;
  log = x.log;
  made = x.made;
  timed = x.timed;
  handed = x.handed;
  asked = ap asked_more x.asked;
  out = x.out;
  queue = x.queue;
  shown = x.shown;
  tied = x.tied;
}

-- ---- what stopped

-- a part that stops at its first call
pub stops_at : {H : Type 0} (t : Given) (old new : Traces H) (call : walk.Call) (rest : List Event)
    (Left : walk.Call → Type 0) → new.log ≡ old.log → new.handed ≡ old.handed → new.asked ≡ old.asked
    → new.queue ≡ old.queue → IsPartOf new.tickets old.tickets → Left call
    → Stops t old new (Called call ∷ rest) Left
stops_at t old new call rest Left log handed asked queue tickets left = record {
  done = [];
  call = call;
  rest = rest;
  whole = refl;
  does = does_nothing t old new log handed asked queue tickets;
  left = left;
}

-- one that stops after another
pub stops_then : {H : Type 0} (t : Given) (a b c : Traces H) (d plan : List Event) (Left : walk.Call
    → Type 0) → Does t a b d → Stops t b c plan Left → Stops t a c (d ++ plan) Left
stops_then t a b c d plan Left x y = record {
  done = d ++ y.done;
  call = y.call;
  rest = y.rest;
  whole = ap (λ l. d ++ l) y.whole ∙ sym (append_assoc d y.done (Called y.call ∷ y.rest));
  does = does_then t a b c d y.done x y.does;
  left = y.left;
}

-- one that stops before another
pub stops_more : {H : Type 0} (t : Given) (a b : Traces H) (plan more : List Event) (Left : walk.Call
    → Type 0) → Stops t a b plan Left → Stops t a b (plan ++ more) Left
stops_more t a b plan more Left x = record {
  done = x.done;
  call = x.call;
  rest = x.rest ++ more;
  whole = ap (λ l. l ++ more) x.whole ∙ append_assoc x.done (Called x.call ∷ x.rest) more;
  does = x.does;
  left = x.left;
}

-- in other words
pub stops_as : {H : Type 0} (t : Given) (a b : Traces H) (plan plan' : List Event) (Left Left' : walk.Call
    → Type 0) → plan' ≡ plan → ((c : walk.Call) → Left c → Left' c) → Stops t a b plan Left → Stops t a b plan' Left'
stops_as t a b plan plan' Left Left' same weaker x = record {
  done = x.done;
  call = x.call;
  rest = x.rest;
  whole = same ∙ x.whole;
  does = x.does;
  left = weaker x.call x.left;
}

-- a call of the backend was refused
pub stops_by : {H : Type 0} (e : BackendError) (t : Given) (a b : Traces H) (plan : List Event)
    (Left : walk.Call → Type 0) → Stops t a b plan Left → StopsBy (backend_error e) t a b plan Left
stops_by Failed t a b plan Left x = x
stops_by NoMemory t a b plan Left x = x

pub stops_by_then : {H : Type 0} (e : DecodeError) (t : Given) (a b c : Traces H) (d plan : List Event)
    (Left : walk.Call → Type 0) → Does t a b d → StopsBy e t b c plan Left → StopsBy e t a c (d ++ plan) Left
stops_by_then errors.Backend t a b c d plan Left x y = stops_then t a b c d plan Left x y
stops_by_then errors.NoMemory t a b c d plan Left x y = stops_then t a b c d plan Left x y
stops_by_then e t a b c d plan Left x y = absurd y

pub stops_by_more : {H : Type 0} (e : DecodeError) (t : Given) (a b : Traces H) (plan more : List Event)
    (Left : walk.Call → Type 0) → StopsBy e t a b plan Left → StopsBy e t a b (plan ++ more) Left
stops_by_more errors.Backend t a b plan more Left x = stops_more t a b plan more Left x
stops_by_more errors.NoMemory t a b plan more Left x = stops_more t a b plan more Left x
stops_by_more e t a b plan more Left x = absurd x

pub stops_by_as : {H : Type 0} (e : DecodeError) (t : Given) (a b : Traces H) (plan plan' : List Event)
    (Left Left' : walk.Call → Type 0) → plan' ≡ plan → ((c : walk.Call) → Left c → Left' c)
    → StopsBy e t a b plan Left → StopsBy e t a b plan' Left'
stops_by_as errors.Backend t a b plan plan' Left Left' same weaker x =
    stops_as t a b plan plan' Left Left' same weaker x
stops_by_as errors.NoMemory t a b plan plan' Left Left' same weaker x =
    stops_as t a b plan plan' Left Left' same weaker x
stops_by_as e t a b plan plan' Left Left' same weaker x = absurd x

-- ---- parts in a row

pub completes_then : {H : Type 0} (t : Given) (a b c : Traces H) (p : Part Standing) (f : Standing
    → Part Standing) (s r : Standing) → Completes t a b p s → Completes t b c (f s) r → Completes t a c (p >>= f) r
completes_then {H} t a b c p f s r x y =
    let z = subst (λ (v : Standing). Completes t b c (f v) r) x.next y in
    record { does = does_then t a b c p.events (f p.next).events x.does z.does; next = z.next }

-- the exit of a `?` after a call of the backend
pub runs_stop : {H T : Type 0} (r : Result T DecodeError) (e : BackendError) (t : Given) (a b : Traces H)
    (part : Part Standing) (Left : walk.Call → Type 0) (st : Standing)
    → IsErrAnd r (λ y. y ≡ backend_error e) → Stops t a b part.events Left → Runs r t a b part Left st
runs_stop r e t a b part Left st is x = let q = err_from_is_err_and r is in
    rw q.1 (rw q.2 (stops_by e t a b part.events Left x))

-- the second of two parts
pub runs_behind : {H T : Type 0} (r : Result T DecodeError) (t : Given) (a b c : Traces H)
    (p : Part Standing) (f : Standing → Part Standing) (Left Left' : walk.Call → Type 0) (s st : Standing)
    → Completes t a b p s → ((call : walk.Call) → Left call → Left' call) → Runs r t b c (f s) Left st
    → Runs r t a c (p >>= f) Left' st
runs_behind (Ok v) t a b c p f Left Left' s st x weaker y = completes_then t a b c p f s st x y
runs_behind (Err e) t a b c p f Left Left' s st x weaker y =
    stops_by_as e t a c (p.events ++ (f s).events) (p >>= f).events Left Left'
    (ap (λ (v : Standing). p.events ++ (f v).events) (sym x.next)) weaker
    (stops_by_then e t a b c p.events (f s).events Left x.does y)

pub ruleset part_rules =
    (does_call, does_nothing, does_then, does_bump, stops_at, stops_then, stops_more, stops_by, keeps_all, keeps_more)
