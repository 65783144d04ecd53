-- What each part of the walk outputs, and what is needed for output after it.
use Rattle.std.proofs.Common.{◌≡◌, ℕ, Bool, true, false, cond, ◌&&◌, eqb, List, [], ◌∷◌, ◌++◌, map}
use Rattle.std.proofs.Common.{filter, refl, sym, ◌∙◌, ap, subst, arith, Option, Some, None}
use Rattle.std.proofs.Common.{append-nil}
use Rattle.std.specs.List.{AllByRecursion as Each}
use Rattle.std.proofs.lemmas.Bool.Decides.{nat_tests}
use Rattle.hevc_walk.specs.Meanings.{Format, Slice, same_format}
use Rattle.hevc_walk.specs.Pictures.{Head}
use Rattle.hevc_walk.specs.Buffer.{Entry, Buffer, bumping, draining, due_outputs, after_output}
use Rattle.hevc_walk.specs.Buffer.{needs_bumping, needs_additional_bumping, with_stored}
use Rattle.hevc_walk.specs.Buffer.{in_output_order}
use Rattle.hevc_walk.specs.ReferenceSets.{RefPicSet, reference_set, with_marks}
use Rattle.hevc_walk.specs.Walk.{Event, Called, Output, output_of, Part, ◌>>=◌, nothing, Store}
use Rattle.hevc_walk.specs.Walk.{output_by, finish, store_picture, change_format, open_sequence}
use Rattle.hevc_walk.specs.Walk.{is_accepted, begin_picture, is_decoded, make_room, needed_entries}
use Rattle.hevc_walk.specs.Walk.{start_decoding, picture_part, prepare, decode_slices, slice_call}
use Rattle.hevc_walk.specs.Walk.{at_unit, closing}
use Rattle.hevc_walk.specs.Results.{OutputPicture, outputs_in}
use Rattle.hevc_walk_order.specs.DisplayOrder.{output_key}
use Rattle.hevc_walk_order.proofs.Each.{each-append}
use Rattle.hevc_walk_order.proofs.Keys.{Key, sort, each-sort}
use Rattle.hevc_walk_order.proofs.Waiting.{key, keys, Aged, aged, keys_of, waiting, aged-with_marks}
use Rattle.hevc_walk_order.proofs.Waiting.{aged-needed, stored_key, waiting-stored}
use Rattle.hevc_walk_order.proofs.Waiting.{keys-in_output_order, each-due, each-after}

abbrev pub outs : List Event → List Key
outs [] = []
outs (Called call ∷ es) = outs es
outs (Output number order_count ∷ es) = (number, order_count) ∷ outs es

pub outs-append : (xs ys : List Event) → outs (xs ++ ys) ≡ outs xs ++ outs ys
outs-append [] ys = refl
outs-append (Called call ∷ xs) ys = outs-append xs ys
outs-append (Output number order_count ∷ xs) ys = ap (λ (l : List Key). (number, order_count) ∷ l) (outs-append xs ys)

outs-output : (es : List Entry) → outs (map output_of es) ≡ keys es
outs-output [] = refl
outs-output (e ∷ es) = ap (λ (l : List Key). key e ∷ l) (outs-output es)

-- the same of events with their units
abbrev pub outs_in : List (ℕ × Event) → List Key
outs_in [] = []
outs_in ((k, Called call) ∷ es) = outs_in es
outs_in ((k, Output number order_count) ∷ es) = (number, order_count) ∷ outs_in es

pub outs_in-append : (xs ys : List (ℕ × Event)) → outs_in (xs ++ ys) ≡ outs_in xs ++ outs_in ys
outs_in-append [] ys = refl
outs_in-append ((k, Called call) ∷ xs) ys = outs_in-append xs ys
outs_in-append ((k, Output number order_count) ∷ xs) ys =
    ap (λ (l : List Key). (number, order_count) ∷ l) (outs_in-append xs ys)

pub outs_in-at : (k : ℕ) (es : List Event) → outs_in (at_unit k es) ≡ outs es
outs_in-at k [] = refl
outs_in-at k (Called call ∷ es) = outs_in-at k es
outs_in-at k (Output number order_count ∷ es) = ap (λ (l : List Key). (number, order_count) ∷ l) (outs_in-at k es)

pub outs_in-slices : (p : Head) (set : RefPicSet) (slices : List (ℕ × Slice))
    → outs_in (decode_slices p set slices) ≡ []
outs_in-slices p set [] = refl
outs_in-slices p set (s ∷ slices) = by_test (is_decoded p) (outs_in-slices p set slices)
  where
    by_test : (b : Bool) → outs_in (decode_slices p set slices) ≡ []
        → outs_in (cond b ((s.0, Called (slice_call p set s.1)) ∷ []) [] ++ decode_slices p set slices) ≡ []
    by_test true h = h
    by_test false h = h

pub outs_in-keys : (es : List (ℕ × Event)) → map output_key (outputs_in es) ≡ outs_in es
outs_in-keys [] = refl
outs_in-keys ((k, Called call) ∷ es) = outs_in-keys es
outs_in-keys ((k, Output number order_count) ∷ es) = ap (λ (l : List Key). (number, order_count) ∷ l) (outs_in-keys es)

-- those of the numbers that pass a test
pub outs_in-passed : (test : ℕ → Bool) (es : List (ℕ × Event))
    → map output_key (filter (λ (o : OutputPicture). test o.number) (outputs_in es)) ≡ filter
    (λ (k : Key). test k.0) (outs_in es)
outs_in-passed test [] = refl
outs_in-passed test ((k, Called call) ∷ es) = outs_in-passed test es
outs_in-passed test ((k, Output number order_count) ∷ es) = by_test (test number) (outs_in-passed test es)
  where
    by_test : (b : Bool)
        → map output_key (filter (λ (o : OutputPicture). test o.number) (outputs_in es)) ≡ filter
        (λ (k : Key). test k.0) (outs_in es)
        → map output_key
        (cond b (record { number = number; order_count = order_count; unit = k } ∷ filter
        (λ (o : OutputPicture). test o.number) (outputs_in es))
        (filter (λ (o : OutputPicture). test o.number) (outputs_in es)))
        ≡ cond b ((number, order_count) ∷ filter (λ (k : Key). test k.0) (outs_in es))
        (filter (λ (k : Key). test k.0) (outs_in es))
    by_test true h = ap (λ (l : List Key). (number, order_count) ∷ l) h
    by_test false h = h

-- a part outputs these, and leaves these waiting
abbrev pub Gives : Part Store → List Key → List Aged → Type 0
Gives part out wait = (outs part.events ≡ out) × (aged part.next.buffer ≡ wait)

pub drain-gives : (s : Store) → Gives (output_by draining s) (sort (waiting s.buffer)) []
drain-gives s = (outs-output (in_output_order s.buffer) ∙ keys-in_output_order s.buffer, refl)

pub then-gives : (p : Part Store) (f : Store → Part Store) (out out' : List Key) (wait : List Aged)
    → outs p.events ≡ out → Gives (f p.next) out' wait → Gives (p >>= f) (out ++ out') wait
then-gives p f out out' wait h k = (
  outs-append p.events (f p.next).events ∙ ap (λ (l : List Key). l ++ outs (f p.next).events) h
      ∙ ap (λ (l : List Key). out ++ l) k.0,
  k.1,
)

pub finish-skipped : (q : Head) (s : Store) → q.skipped ≡ true → finish (Some q) s ≡ nothing s
unfolding finish
finish-skipped q s h = ap (λ (b : Bool). cond b (nothing s) (store_picture q s)) h

-- a picture that isn't skipped is stored, and what is due is output
abbrev pub stored : Head → Store → Buffer
stored q s = with_stored q s.buffer

abbrev pub stored_due : Head → Store → List Entry
stored_due q s = due_outputs (needs_additional_bumping q.limits) (with_stored q s.buffer)

pub finish-stored : (q : Head) (s : Store) → q.skipped ≡ false
    → (outs (finish (Some q) s).events ≡ keys (stored_due q s))
    × ((finish (Some q) s).next.buffer ≡ after_output (stored_due q s) (stored q s))
unfolding finish store_picture
finish-stored q s skipped =
    subst (λ (b : Bool). (outs (cond b (nothing s) (store_picture q s)).events ≡ keys (stored_due q s))
    × ((cond b (nothing s) (store_picture q s)).next.buffer ≡ after_output (stored_due q s) (stored q s)))
    (sym skipped) (outs-output (stored_due q s), refl)

pub same_format-own : (f : Format) → same_format f f ≡ true
same_format-own f =
    all (own f.coded_width) (own f.coded_height) (own f.general_profile_idc) (own f.bit_depth_luma_minus8)
    (own f.bit_depth_chroma_minus8) (own f.chroma_format_idc) (own f.max_num_pics)
  where
    own : (n : ℕ) → eqb n n ≡ true
    own n = grind (arith, nat_tests)

    all : {a b c d e f g : Bool} → a ≡ true → b ≡ true → c ≡ true → d ≡ true → e ≡ true → f ≡ true
        → g ≡ true → a && b && c && d && e && f && g ≡ true
    all {b = b} {c = c} {d = d} {e = e} {f = f} {g = g} h1 h2 h3 h4 h5 h6 h7 =
        ap (λ (x : Bool). x && b && c && d && e && f && g) h1
        ∙ ap (λ (x : Bool). x && c && d && e && f && g) h2 ∙ ap (λ (x : Bool). x && d && e && f && g) h3
        ∙ ap (λ (x : Bool). x && e && f && g) h4 ∙ ap (λ (x : Bool). x && f && g) h5 ∙ ap (λ (x : Bool). x && g) h6 ∙ h7

pub change-same : (f : Format) (s : Store) → s.accepted ≡ Some f → change_format f s ≡ nothing s
unfolding change_format
change-same f s h = ap (λ (b : Bool). cond b (nothing s) (output_by draining s >>= open_sequence f))
    (ap (λ (o : Option Format). is_accepted f o) h ∙ same_format-own f)

-- another format is output before it is negotiated
pub change-gives : (C : List Key → List Aged → Type 0) (f : Format) (s : Store) → C [] (aged s.buffer)
    → C (sort (waiting s.buffer)) [] → C (outs (change_format f s).events) (aged (change_format f s).next.buffer)
unfolding change_format
change-gives C f s same other = by_test (is_accepted f s.accepted)
  where
    drained : Gives (output_by draining s >>= open_sequence f) (sort (waiting s.buffer) ++ []) []
    drained = then-gives (output_by draining s) (open_sequence f) (sort (waiting s.buffer)) [] []
        (drain-gives s).0 (refl, refl)

    by_test : (b : Bool)
        → C (outs (cond b (nothing s) (output_by draining s >>= open_sequence f)).events)
        (aged (cond b (nothing s) (output_by draining s >>= open_sequence f)).next.buffer)
    by_test true = same
    by_test false = subst (λ (l : List Key). C l []) (sym (drained.0 ∙ append-nil (sort (waiting s.buffer)))) other

begun : (p : Head) (set : RefPicSet) (part : Part Store) (out : List Key) (wait : List Aged)
    → Gives part out wait → Gives (part >>= start_decoding p set) out wait
unfolding start_decoding
begun p set part out wait h =
    (outs-append part.events (start_decoding p set part.next).events ∙ append-nil (outs part.events) ∙ h.0, h.1)

pub begin-not : (p : Head) (first : Slice) (s : Store) → is_decoded p ≡ false → begin_picture p first s ≡ nothing s
unfolding begin_picture
begin-not p first s h =
    ap (λ (b : Bool). cond b
    (make_room p (record s { buffer = with_marks p first s.buffer }) >>= start_decoding p
    (reference_set p first s.buffer)) (nothing s)) h

-- a picture that is decoded begins once there is room for it
begin-by : (p : Head) (first : Slice) (s : Store) (out : List Key) (wait : List Aged) → is_decoded p ≡ true
    → Gives (make_room p (record s { buffer = with_marks p first s.buffer })) out wait
    → Gives (begin_picture p first s) out wait
unfolding begin_picture
begin-by p first s out wait decoded h =
    subst (λ (b : Bool). Gives
    (cond b (make_room p marked >>= start_decoding p (reference_set p first s.buffer)) (nothing s)) out
    wait) (sym decoded) (begun p (reference_set p first s.buffer) (make_room p marked) out wait h)
  where
    marked : Store
    marked = record s { buffer = with_marks p first s.buffer }

room-by : (d r : Bool) (p : Head) (t : Store) → p.no_output_of_prior_pics ≡ d → p.starts_sequence ≡ r
    → make_room p t ≡ cond d (nothing (record t { buffer = [] }))
    (cond r (output_by draining t)
    (output_by (bumping (needs_bumping p.limits)) (record t { buffer = needed_entries t.buffer })))
unfolding make_room
room-by d r p t discards starts =
    ap (λ (b : Bool). cond b (nothing (record t { buffer = [] }))
    (cond p.starts_sequence (output_by draining t)
    (output_by (bumping (needs_bumping p.limits)) (record t { buffer = needed_entries t.buffer })))) discards
    ∙ ap (λ (b : Bool). cond d (nothing (record t { buffer = [] }))
    (cond b (output_by draining t)
    (output_by (bumping (needs_bumping p.limits)) (record t { buffer = needed_entries t.buffer })))) starts

-- within a sequence what is due is output
abbrev pub kept : Head → Slice → Store → Buffer
kept p first s = needed_entries (with_marks p first s.buffer)

pub aged-kept : (p : Head) (first : Slice) (s : Store) → aged (kept p first s) ≡ aged s.buffer
aged-kept p first s = aged-needed (with_marks p first s.buffer) ∙ aged-with_marks p first s.buffer

abbrev pub kept_due : Head → Slice → Store → List Entry
kept_due p first s = due_outputs (needs_bumping p.limits) (kept p first s)

pub begin-within : (p : Head) (first : Slice) (s : Store) → is_decoded p ≡ true
    → p.no_output_of_prior_pics ≡ false → p.starts_sequence ≡ false
    → (outs (begin_picture p first s).events ≡ keys (kept_due p first s))
    × ((begin_picture p first s).next.buffer ≡ after_output (kept_due p first s) (kept p first s))
unfolding begin_picture start_decoding
begin-within p first s decoded discards starts =
    subst (λ (b : Bool). Is (cond b (make_room p marked >>= start_decoding p set) (nothing s))) (sym decoded) (
      outs-append (make_room p marked).events (start_decoding p set (make_room p marked).next).events
          ∙ append-nil (outs (make_room p marked).events) ∙ room.0,
      room.1,
    )
  where
    marked : Store
    marked = record s { buffer = with_marks p first s.buffer }

    set : RefPicSet
    set = reference_set p first s.buffer

    Is : Part Store → Type 0
    Is part = (outs part.events ≡ keys (kept_due p first s))
        × (part.next.buffer ≡ after_output (kept_due p first s) (kept p first s))

    room : Is (make_room p marked)
    room = subst (λ (part : Part Store). Is part) (sym (room-by false false p marked discards starts))
        (outs-output (kept_due p first s), refl)

-- where a sequence starts all are output
pub begin-starts : (p : Head) (first : Slice) (s : Store) → is_decoded p ≡ true
    → p.no_output_of_prior_pics ≡ false → p.starts_sequence ≡ true
    → Gives (begin_picture p first s) (sort (waiting s.buffer)) []
begin-starts p first s decoded discards starts =
    begin-by p first s (sort (waiting s.buffer)) [] decoded
    (subst (λ (part : Part Store). Gives part (sort (waiting s.buffer)) [])
    (sym (room-by false true p marked discards starts))
    ((drain-gives marked).0 ∙ ap (λ (ws : List Aged). sort (keys_of ws)) (aged-with_marks p first s.buffer), refl))
  where
    marked : Store
    marked = record s { buffer = with_marks p first s.buffer }

-- or discarded
pub begin-discards : (p : Head) (first : Slice) (s : Store) → is_decoded p ≡ true
    → p.no_output_of_prior_pics ≡ true → Gives (begin_picture p first s) [] []
begin-discards p first s decoded discards =
    begin-by p first s [] [] decoded
    (subst (λ (part : Part Store). Gives part [] [])
    (sym (room-by true p.starts_sequence p (record s { buffer = with_marks p first s.buffer }) discards
    refl)) (refl, refl))

-- What a part outputs, and leaves waiting, was waiting before, or is the picture that was stored.
abbrev pub EachOf : (Key → Type 0) → Part Store → Type 0
EachOf P part = Each P (outs part.events) × Each P (waiting part.next.buffer)

abbrev pub OfHead : (Key → Type 0) → Option Head → Type 0
OfHead P None = Unit {0}
OfHead P (Some q) = P (q.number, q.order_count)

each-output_by : (P : Key → Type 0) (rule : Buffer → Bool) (s : Store) → Each P (waiting s.buffer)
    → EachOf P (output_by (bumping rule) s)
each-output_by P rule s h = (
  subst (λ (l : List Key). Each P l) (sym (outs-output (due_outputs rule s.buffer)))
      (each-due P rule s.buffer h),
  each-after P (due_outputs rule s.buffer) s.buffer h,
)

each-draining : (P : Key → Type 0) (s : Store) → Each P (waiting s.buffer) → EachOf P (output_by draining s)
each-draining P s h =
    (subst (λ (l : List Key). Each P l) (sym (drain-gives s).0) (each-sort P (waiting s.buffer) h), tt)

each-then : (P : Key → Type 0) (p : Part Store) (f : Store → Part Store) → EachOf P p
    → (Each P (waiting p.next.buffer) → EachOf P (f p.next)) → EachOf P (p >>= f)
each-then P p f h k = (
  subst (λ (l : List Key). Each P l) (sym (outs-append p.events (f p.next).events))
      (each-append P (outs p.events) (outs (f p.next).events) h.0 (k h.1).0),
  (k h.1).1,
)

each-stored_key : (P : Key → Type 0) (q : Head) → P (q.number, q.order_count) → Each P (stored_key q)
each-stored_key P q h = by_test q.pic_output_flag
  where
    by_test : (b : Bool) → Each P (cond b ((q.number, q.order_count) ∷ []) [])
    by_test true = (h, tt)
    by_test false = tt

pub each-finish : (P : Key → Type 0) (q : Option Head) (s : Store) → OfHead P q → Each P (waiting s.buffer)
    → EachOf P (finish q s)
unfolding finish store_picture
each-finish P None s own h = (tt, h)
each-finish P (Some q) s own h = by_test q.skipped
  where
    stored : Each P (waiting (with_stored q s.buffer))
    stored = subst (λ (l : List Key). Each P l) (sym (waiting-stored q s.buffer))
        (each-append P (waiting s.buffer) (stored_key q) h (each-stored_key P q own))

    by_test : (b : Bool) → EachOf P (cond b (nothing s) (store_picture q s))
    by_test true = (tt, h)
    by_test false =
        each-output_by P (needs_additional_bumping q.limits) (record s { buffer = with_stored q s.buffer }) stored

pub each-change : (P : Key → Type 0) (f : Format) (s : Store) → Each P (waiting s.buffer) → EachOf P (change_format f s)
each-change P f s h =
    change-gives (λ out wait. Each P out × Each P (keys_of wait)) f s (tt, h) (each-sort P (waiting s.buffer) h, tt)

pub each-begin : (P : Key → Type 0) (p : Head) (first : Slice) (s : Store) → Each P (waiting s.buffer)
    → EachOf P (begin_picture p first s)
unfolding begin_picture make_room start_decoding
each-begin P p first s h = by_tests (is_decoded p) p.no_output_of_prior_pics p.starts_sequence
  where
    t : Store
    t = record s { buffer = with_marks p first s.buffer }

    marked : Each P (waiting t.buffer)
    marked = subst (λ (l : List Key). Each P l) (sym (ap keys_of (aged-with_marks p first s.buffer))) h

    kept : Each P (waiting (needed_entries t.buffer))
    kept = subst (λ (l : List Key). Each P l) (sym (ap keys_of (aged-needed t.buffer))) marked

    room : Bool → Bool → Part Store
    room d r = cond d (nothing (record t { buffer = [] }))
        (cond r (output_by draining t)
        (output_by (bumping (needs_bumping p.limits)) (record t { buffer = needed_entries t.buffer })))

    by_tests : (b d r : Bool)
        → EachOf P (cond b (room d r >>= start_decoding p (reference_set p first s.buffer)) (nothing s))
    by_tests false d r = (tt, h)
    by_tests true true r = (tt, tt)
    by_tests true false true =
        each-then P (output_by draining t) (start_decoding p (reference_set p first s.buffer))
        (each-draining P t marked) (λ k. (tt, k))
    by_tests true false false =
        each-then P (output_by (bumping (needs_bumping p.limits))
        (record t { buffer = needed_entries t.buffer })) (start_decoding p (reference_set p first s.buffer))
        (each-output_by P (needs_bumping p.limits) (record t { buffer = needed_entries t.buffer }) kept) (λ k. (tt, k))

pub each-picture : (P : Key → Type 0) (q : Option Head) (p : Head) (first : Slice) (s : Store) → OfHead P q
    → Each P (waiting s.buffer) → EachOf P (picture_part q p first s)
each-picture P q p first s own h =
    each-then P (prepare q p s) (begin_picture p first)
    (each-then P (finish q s) (change_format p.format) (each-finish P q s own h)
    (λ k. each-change P p.format (finish q s).next k)) (λ k. each-begin P p first (prepare q p s).next k)

pub each-closing : (P : Key → Type 0) (q : Option Head) (s : Store) → OfHead P q → Each P (waiting s.buffer)
    → EachOf P (closing q s)
each-closing P q s own h = each-then P (finish q s) (output_by draining) (each-finish P q s own h)
    (λ k. each-draining P (finish q s).next k)
