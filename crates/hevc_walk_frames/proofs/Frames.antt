-- How many frames are kept.
use Rattle.std.proofs.Common.{◌≡◌, ◌⊎◌, inl, inr, ⊎_elim, ℕ, suc, ◌+◌, ◌≤◌, ◌<◌, Bool, true, false, cond}
use Rattle.std.proofs.Common.{◌&&◌, ◌||◌, eqb, List, [], ◌∷◌, ◌++◌, length, map, filter, refl, sym, ◌∙◌, ap}
use Rattle.std.proofs.Common.{subst, arith, Option, Some, None}
use Rattle.std.proofs.lemmas.List.{length-map}
use Rattle.hevc_walk.specs.Meanings.{Format, Slice, Meaning}
use Rattle.hevc_walk.specs.Pictures.{Head, Picture, stream_from, nothing_yet, pictures}
use Rattle.hevc_walk.specs.Buffer.{Entry, Buffer, LongTerm, is_reference, has_number, after_output}
use Rattle.hevc_walk.specs.Buffer.{bumping, draining, due_outputs, is_needed, needs_bumping}
use Rattle.hevc_walk.specs.ReferenceSets.{names, first_number, all_members, reference_set, with_marks}
use Rattle.hevc_walk.specs.ReferenceSets.{with_long_term, long_term_if, long_term_entry}
use Rattle.hevc_walk.specs.ReferenceSets.{marked_if, unmarked, is_named}
use Rattle.hevc_walk.specs.Walk.{Store, Part, ◌>>=◌, nothing, finish, change_format, begin_picture, make_room}
use Rattle.hevc_walk.specs.Walk.{needed_entries, output_by, start_decoding, is_decoded, latest_head, store}
use Rattle.hevc_walk.specs.Walk.{reference_set_of}
use Rattle.hevc_walk.specs.Clean.{AllClean, IsClean}
use Rattle.hevc_walk.specs.Fates.{one, times, among}
use Rattle.hevc_walk_bound.specs.Stores.{StoresFew}
use Rattle.hevc_walk_bound.proofs.Bound.{stores_few}
use Rattle.hevc_walk_marks.specs.Marked.{has_reference}
use Rattle.hevc_walk_marks.proofs.Marks.{each_marked}
use Rattle.hevc_walk_order.proofs.Heads.{IsHead, AreHeads, stream-heads, decoded}
use Rattle.hevc_walk_frames.specs.Coming.{is_waiting}
use Rattle.hevc_walk_frames.specs.Frames.{is_kept, AreKept, KeepsFew}
use Rattle.hevc_walk_frames.proofs.Counting.{no_times, no_longer}

-- the numbers of stored pictures
numbers : Buffer → List ℕ
numbers es = map (λ e. e.number) es

or_cases : (a b : Bool) → a || b ≡ true → (a ≡ true) ⊎ (b ≡ true)
or_cases true b h = inl refl
or_cases false b h = inr h

-- ---- what waits is stored

waiting_stored : (n : ℕ) (es : Buffer) → is_waiting n es ≡ true → 1 ≤ times n (numbers es)
unfolding numbers
waiting_stored n [] h = absurd (cc h)
waiting_stored n (e ∷ es) h = by_test (eqb e.number n) h (waiting_stored n es)
  where
    by_test : (b : Bool) → (b && e.needed_for_output) || is_waiting n es ≡ true
        → (is_waiting n es ≡ true → 1 ≤ times n (map (λ x. x.number) es))
        → 1 ≤ one b + times n (map (λ x. x.number) es)
    by_test true h further = omega arith
    by_test false h further = let k = further h in omega (arith, k)

-- ---- what is used for reference is stored, and stays as room is made

reference_stored : (n : ℕ) (es : Buffer) → has_reference n es ≡ true → 1 ≤ times n (numbers es)
unfolding numbers
reference_stored n [] h = absurd (cc h)
reference_stored n (e ∷ es) h = by_test (eqb e.number n) h (reference_stored n es)
  where
    by_test : (b : Bool) → (b && is_reference e.mark) || has_reference n es ≡ true
        → (has_reference n es ≡ true → 1 ≤ times n (map (λ x. x.number) es))
        → 1 ≤ one b + times n (map (λ x. x.number) es)
    by_test true h further = omega arith
    by_test false h further = let k = further h in omega (arith, k)

is_or : (a b c : Bool) → (b ≡ true → c ≡ true) → a || b ≡ true → a || c ≡ true
is_or true b c f h = refl
is_or false b c f h = f h

-- without the first entry
after_first : (b c : Bool) → (b && false) || c ≡ true → c ≡ true
after_first true c h = h
after_first false c h = h

needed_reference : (n : ℕ) (es : Buffer) → has_reference n es ≡ true → has_reference n (filter is_needed es) ≡ true
needed_reference n [] h = h
needed_reference n (e ∷ es) h = by_tests e.needed_for_output (is_reference e.mark) refl (needed_reference n es) h
  where
    kept : (r : Bool) → is_reference e.mark ≡ r → (has_reference n es ≡ true → has_reference n (filter is_needed es) ≡ true)
        → (eqb e.number n && r) || has_reference n es ≡ true → has_reference n (e ∷ filter is_needed es) ≡ true
    kept r is further h = subst (λ (x : Bool). (eqb e.number n && x) || has_reference n (filter is_needed es) ≡ true)
        (sym is) (is_or (eqb e.number n && r) (has_reference n es) _ further h)

    by_tests : (w r : Bool) → is_reference e.mark ≡ r
        → (has_reference n es ≡ true → has_reference n (filter is_needed es) ≡ true)
        → (eqb e.number n && r) || has_reference n es ≡ true
        → has_reference n (cond (w || r) (e ∷ filter is_needed es) (filter is_needed es)) ≡ true
    by_tests true r is further h = kept r is further h
    by_tests false true is further h = kept true is further h
    by_tests false false is further h = further (after_first (eqb e.number n) (has_reference n es) h)

left_reference : (n : ℕ) (outputs es : Buffer) → has_reference n es ≡ true
    → has_reference n (after_output outputs es) ≡ true
left_reference n outputs [] h = h
left_reference n outputs (e ∷ es) h =
    by_tests (has_number e.number outputs) (is_reference e.mark) refl (left_reference n outputs es) h
  where
    rest : Buffer
    rest = after_output outputs es

    kept : (r : Bool) → is_reference e.mark ≡ r → (has_reference n es ≡ true → has_reference n rest ≡ true)
        → (eqb e.number n && r) || has_reference n es ≡ true
        → (eqb e.number n && is_reference e.mark) || has_reference n rest ≡ true
    kept r is further h = subst (λ (x : Bool). (eqb e.number n && x) || has_reference n rest ≡ true)
        (sym is) (is_or (eqb e.number n && r) (has_reference n es) _ further h)

    by_tests : (o r : Bool) → is_reference e.mark ≡ r → (has_reference n es ≡ true → has_reference n rest ≡ true)
        → (eqb e.number n && r) || has_reference n es ≡ true
        → has_reference n (cond o (cond r (record e { needed_for_output = false } ∷ []) []) (e ∷ []) ++ rest) ≡ true
    by_tests true true is further h = kept true is further h
    by_tests true false is further h = further (after_first (eqb e.number n) (has_reference n es) h)
    by_tests false r is further h = kept r is further h

-- ---- a picture that begins a sequence names nothing

none_first : (test : Entry → Bool) → ((e : Entry) → test (unmarked e) ≡ false) → (es : Buffer)
    → first_number test (map unmarked es) ≡ None
none_first test none [] = refl
none_first test none (e ∷ es) =
    ap (λ (b : Bool). cond b (Some e.number) (first_number test (map unmarked es))) (none e) ∙ none_first test none es

none_named : {X : Type 0} (n : ℕ) (f : X → Option ℕ) → ((x : X) → f x ≡ None) → (xs : List X)
    → names n (map f xs) ≡ false
none_named n f none [] = refl
none_named n f none (x ∷ xs) = ap (λ (o : Option ℕ). names n (o ∷ map f xs)) (none x) ∙ none_named n f none xs

no_references_in : (n : ℕ) (ms ls : List (Option ℕ)) → ((k : ℕ) → names k ls ≡ false) → (es : Buffer)
    → has_reference n (map (marked_if ms) (map (long_term_if ls) (map unmarked es))) ≡ false
no_references_in n ms ls none [] = refl
no_references_in n ms ls none (e ∷ es) =
    ap (λ (x : Entry). (eqb (marked_if ms x).number n && is_reference (marked_if ms x).mark)
    || has_reference n (map (marked_if ms) (map (long_term_if ls) (map unmarked es))))
    (ap (λ (b : Bool). cond b (record (unmarked e) { mark = LongTerm }) (unmarked e)) (none e.number))
    ∙ ap (λ (b : Bool). b || has_reference n (map (marked_if ms) (map (long_term_if ls) (map unmarked es))))
    (by_test (names e.number ms))
    ∙ no_references_in n ms ls none es
  where
    unused : (b : Bool) → b && false ≡ false
    unused true = refl
    unused false = refl

    by_test : (b : Bool)
        → eqb (cond b (unmarked e) (unmarked (unmarked e))).number n
        && is_reference (cond b (unmarked e) (unmarked (unmarked e))).mark ≡ false
    by_test true = unused (eqb e.number n)
    by_test false = unused (eqb e.number n)

fresh_marks : (n : ℕ) (p : Head) (slice : Slice) (es : Buffer) → p.starts_sequence ≡ true
    → has_reference n (with_marks p slice es) ≡ false
unfolding with_marks
fresh_marks n p slice es starts =
    ap (λ (l : Buffer). has_reference n (map (marked_if (all_members (reference_set p slice es)))
    (with_long_term p slice l))) (ap (λ (b : Bool). cond b (map unmarked es) es) starts)
    ∙ no_references_in n (all_members (reference_set p slice es))
    (map (long_term_entry p slice (map unmarked es)) slice.long_term_pics)
    (λ k. none_named k (long_term_entry p slice (map unmarked es))
    (λ m. none_first (λ e. is_reference e.mark && is_named p slice m.poc_lsb m.delta_poc_msb_cycle e.order_count)
    (λ e. refl) es) slice.long_term_pics) es

-- ---- what a picture names is stored while it is decoded

room_reference : (n : ℕ) (p : Head) (s : Store) → IsHead p
    → (p.starts_sequence ≡ true → has_reference n s.buffer ≡ false) → has_reference n s.buffer ≡ true
    → has_reference n (make_room p s).next.buffer ≡ true
unfolding make_room
room_reference n p s is fresh h = by_tests p.no_output_of_prior_pics p.starts_sequence refl refl
  where
    es : Buffer
    es = needed_entries s.buffer

    by_tests : (d r : Bool) → p.no_output_of_prior_pics ≡ d → p.starts_sequence ≡ r
        → has_reference n (cond d (nothing (record s { buffer = [] }))
        (cond r (output_by draining s)
        (output_by (bumping (needs_bumping p.limits)) (record s { buffer = es })))).next.buffer ≡ true
    by_tests d true x y = absurd (let f = fresh y in cc (sym h ∙ f))
    by_tests true false x y = absurd (let f = is.within y in cc (sym x ∙ f))
    by_tests false false x y =
        left_reference n (due_outputs (needs_bumping p.limits) es) es (needed_reference n s.buffer h)

begun_buffer : (p : Head) (slice : Slice) (s : Store) → is_decoded p ≡ true
    → (begin_picture p slice s).next.buffer ≡ (make_room p (record s { buffer = with_marks p slice s.buffer })).next.buffer
unfolding begin_picture start_decoding
begun_buffer p slice s is =
    ap (λ (b : Bool). (cond b
    (make_room p (record s { buffer = with_marks p slice s.buffer }) >>= start_decoding p (reference_set p slice s.buffer))
    (nothing s)).next.buffer) is

named_stored : (n : ℕ) (p : Head) (slice : Slice) (s : Store) → IsHead p → is_decoded p ≡ true
    → names n (all_members (reference_set p slice s.buffer)) ≡ true
    → 1 ≤ times n (numbers (begin_picture p slice s).next.buffer)
named_stored n p slice s is decodes named =
    subst (λ (es : Buffer). 1 ≤ times n (numbers es)) (sym (begun_buffer p slice s decodes))
    (reference_stored n _
    (room_reference n p (record s { buffer = with_marks p slice s.buffer }) is
    (fresh_marks n p slice s.buffer) (each_marked p slice s.buffer n named)))

-- ---- the frames of one picture

kept_stored : (set : Option (ℕ × Format)) (p : Picture) (before : List Picture) (n : ℕ) → IsHead p.head
    → is_decoded p.head ≡ true → is_kept set p before n ≡ true
    → 1 ≤ times n (p.number ∷ numbers (store set (p ∷ before)).buffer)
kept_stored set p before n is decodes kept =
    ⊎_elim
    (λ rest. ⊎_elim (λ own. by_own (eqb p.number n) own)
    (λ named. by_more (named_stored n p.head p.first c.next is decodes named))
    (or_cases (eqb p.number n) (names n (all_members (reference_set_of set p before))) rest))
    (λ waits. by_more (waiting_stored n (store set (p ∷ before)).buffer waits))
    (or_cases (eqb p.number n || names n (all_members (reference_set_of set p before)))
    (is_waiting n (store set (p ∷ before)).buffer) kept)
  where
    c : Part Store
    c = change_format p.format (finish (latest_head before) (store set before)).next

    by_own : (b : Bool) → b ≡ true → 1 ≤ one b + times n (numbers (store set (p ∷ before)).buffer)
    by_own true h = omega arith
    by_own false h = absurd (cc h)

    by_more : 1 ≤ times n (numbers (store set (p ∷ before)).buffer)
        → 1 ≤ one (eqb p.number n) + times n (numbers (store set (p ∷ before)).buffer)
    by_more h = omega (arith, h)

few : (set : Option (ℕ × Format)) (p : Picture) (before : List Picture) → IsHead p.head → is_decoded p.head ≡ true
    → length (store set (p ∷ before)).buffer ≤ p.limits.max_dec_pic_buffering_minus1
    → p.limits.max_dec_pic_buffering_minus1 < p.format.max_num_pics
    → (ns : List ℕ) → AreKept set p before ns → length ns ≤ p.format.max_num_pics
unfolding numbers
few set p before is decodes stored room ns kept =
    let stores = (store set (p ∷ before)).buffer in
    let l = length-map stores (λ (e : Entry). e.number) in
    let n = no_longer ns (p.number ∷ numbers stores) (λ k. by_among k (among k ns) refl) in
    by_sum l n stored room
  where
    by_among : (k : ℕ) (b : Bool) → among k ns ≡ b
        → times k ns ≤ times k (p.number ∷ numbers (store set (p ∷ before)).buffer)
    by_among k true some = at_most (kept.once k) (kept_stored set p before k is decodes (kept.kept k some))
      where
        at_most : {a b : ℕ} → a ≤ 1 → 1 ≤ b → a ≤ b
        at_most h i = omega (arith, h, i)
    by_among k false none = let z = no_times k ns none in omega (arith, z)

    by_sum : {a b c d e : ℕ} → a ≡ b → c ≤ suc a → b ≤ d → d < e → c ≤ e
    by_sum h i j k = omega (arith, h, i, j, k)

all_few : (set : Option (ℕ × Format)) (ps : List Picture) → AreHeads ps → AllClean ps → StoresFew set ps
    → KeepsFew set ps
all_few set [] heads clean stored = tt
all_few set (p ∷ before) heads clean stored = (
  λ taken. few set p before heads.0 (decoded p.head heads.0.range taken) (stored.0 taken) (clean.0.room taken),
  all_few set before heads.1 clean.1 stored.1,
)

pub few_frames : (us : List Meaning) → IsClean us → KeepsFew (stream_from 0 nothing_yet us).first_set (pictures us)
few_frames us clean =
    all_few (stream_from 0 nothing_yet us).first_set (pictures us)
    (stream-heads 0 nothing_yet us clean.goes_on tt) clean.pictures (stores_few us clean)
