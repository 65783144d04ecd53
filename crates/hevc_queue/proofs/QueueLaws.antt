-- The queue after a call, and its first event.
use Rattle.std.proofs.Common.{◌≡◌, ℕ, zero, suc, ◌+◌, List, [], ◌∷◌, ◌++◌, length, drop}
use Rattle.std.proofs.Common.{get_or, Option, Some, None, IfSome, IfNone, refl, ap, sym, ◌∙◌, arith}
use Rattle.std.proofs.lemmas.List.{drop-append-le, length_push}
use Rattle.hevc_events.specs.declared.event.Event.{Event}
use Rattle.hevc_events.specs.Waiting.{Waiting, next_place, with_event}
use Rattle.hevc_queue.specs.declared.given.Given.{Given}
use Rattle.hevc_queue.specs.Events.{event_of, events_from, events_of}

-- there is an event for each
length-events_from : (k : ℕ) (gs : List Given) → length (events_from k gs) ≡ length gs
length-events_from k [] = refl
length-events_from k (g ∷ gs) = ap (λ n. suc n) (length-events_from (k + 1) gs)

-- one more comes after the others
events_from-push : (k : ℕ) (gs : List Given) (g : Given)
    → events_from k (gs ++ g ∷ []) ≡ events_from k gs ++ event_of (k + length gs) g ∷ []
events_from-push k [] g =
    let same : k ≡ k + 0 = omega arith in ap (λ n. event_of n g ∷ []) same
events_from-push k (first ∷ gs) g =
    let same : k + 1 + length gs ≡ k + suc (length gs) = omega arith in
    ap (λ es. event_of k first ∷ es)
    (events_from-push (k + 1) gs g
    ∙ ap (λ n. events_from (k + 1) gs ++ event_of n g ∷ []) same)

-- what waits is the end of what was given: with one more, whose event comes after the others
waits_more : (given : List Given) (g : Given) (place : ℕ) (queue : Waiting) (event : Event)
    → next_place queue ≡ length given → queue.events ≡ drop queue.taken (events_of given)
    → place ≡ length given → event ≡ event_of place g
    → queue.events ++ event ∷ [] ≡ drop queue.taken (events_of (given ++ g ∷ []))
waits_more given g place queue event counted last at is =
    let few = length-events_from 0 given in
    let more = events_from-push 0 given g in
    let here : 0 + length given ≡ place = omega arith in
    rw (last, is)
    (sym
    (ap (drop queue.taken) (more ∙ ap (λ n. events_from 0 given ++ event_of n g ∷ []) here)
    ∙ drop-append-le queue.taken (events_from 0 given) (event_of place g ∷ []) (omega (arith, counted, few))))

-- the same of a queue and of what was given, which were changed
pub queue_more : {X : Type 0} (given given' : List Given) (g : Given) (place : ℕ)
    (queue queue' : Waiting) (event : Event)
    → (next_place queue ≡ length given) × (queue.events ≡ drop queue.taken (events_of given)) × X
    → place ≡ length given → event ≡ event_of place g
    → queue' ≡ with_event queue event → given' ≡ given ++ g ∷ []
    → (next_place queue' ≡ length given') × (queue'.events ≡ drop queue'.taken (events_of given'))
queue_more given given' g place queue queue' event before at is put told =
    let now = waits_more given g place queue event before.0 before.1 at is in
    let many : next_place (with_event queue event) ≡ length (given ++ g ∷ []) =
    omega (arith, before.0, length_push queue.events event, length_push given g) in
    rw (put, told) (many, now)

-- what is after the first of what is left of a list
after_first : {X : Type 0} (xs : List X) (n : ℕ) (x : X) (rest : List X)
    → x ∷ rest ≡ drop n xs → rest ≡ drop (suc n) xs
after_first [] zero x rest is = cc
after_first [] (suc n) x rest is = cc
after_first (y ∷ ys) zero x rest is = cc
after_first (y ∷ ys) (suc n) x rest is = after_first ys n x rest is

-- the queue and what was given, once the first event was taken, where there was one
pub queue_less : {X : Type 0} (given : List Given) (queue queue' : Waiting) (first : Option Event)
    → (next_place queue ≡ length given) × (queue.events ≡ drop queue.taken (events_of given)) × X
    → IfSome first (λ event. queue.events ≡ event ∷ queue'.events)
    → IfSome first (λ _. queue'.taken ≡ queue.taken + 1)
    → IfNone first (queue' ≡ queue)
    → (next_place queue' ≡ length given) × (queue'.events ≡ drop queue'.taken (events_of given)) × X
queue_less given queue queue' None before first one_more same = rw same before
queue_less given queue queue' (Some event) before first one_more same =
    let shorter : length queue.events ≡ suc (length queue'.events) = ap length first in
    let more : queue'.taken ≡ suc queue.taken = omega (arith, one_more) in
    let rest = after_first (events_of given) queue.taken event queue'.events (sym first ∙ before.1) in
    (omega (arith, before.0, one_more, shorter), rw more rest, before.2)

-- the first of the events from a place on is that of what was given there
first_event : (k : ℕ) (gs : List Given) (taken : ℕ) (event : Event) (events : List Event)
    → event ∷ events ≡ drop taken (events_from k gs)
    → (d : Given) → event ≡ event_of (k + taken) (get_or gs taken d)
first_event k [] zero event events is d = cc
first_event k [] (suc taken) event events is d = cc
first_event k (g ∷ gs) zero event events is d =
    let same : k ≡ k + 0 = omega arith in
    let first : event ≡ event_of k g = cc in
    first ∙ ap (λ n. event_of n g) same
first_event k (g ∷ gs) (suc taken) event events is d =
    let same : k + 1 + taken ≡ k + suc taken = omega arith in
    first_event (k + 1) gs taken event events is d
    ∙ ap (λ n. event_of n (get_or gs taken d)) same

-- the first event of a queue is that of what was given at its place
pub first_taken : (given : List Given) (queue : Waiting) (rest : List Event) (first : Option Event)
    → queue.events ≡ drop queue.taken (events_of given)
    → IfSome first (λ event. queue.events ≡ event ∷ rest)
    → IfSome first (λ event. (d : Given)
    → event ≡ event_of queue.taken (get_or given queue.taken d))
first_taken given queue rest None last is = tt
first_taken given queue rest (Some event) last is = λ d.
    let same : 0 + queue.taken ≡ queue.taken = omega arith in
    first_event 0 given queue.taken event rest (sym is ∙ last) d
    ∙ ap (λ n. event_of n (get_or given queue.taken d)) same
