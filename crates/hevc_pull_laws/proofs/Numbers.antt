-- The numbers of the pictures whose ends weren't told, and the calls whose events weren't.
use Rattle.std.proofs.Common.{◌≡◌, ℕ, zero, suc, ◌+◌, ◌≤◌, ◌<◌, Bool, true, false, not, ◌&&◌, cond, eqb, List, []}
use Rattle.std.proofs.Common.{◌∷◌, ◌++◌, map, length, drop, get_or, refl, sym, ◌∙◌, ap, subst, arith, Some, None}
use Rattle.std.specs.Prelude.{nat_lt}
use Rattle.std.specs.List.{find}
use Rattle.std.proofs.lemmas.Bool.Decides.{nat_tests}
use Rattle.std.proofs.lemmas.List.{get_or_past}
use Rattle.hevc_walk.specs.Walk as walk
use Rattle.hevc_walk.specs.Walk.{Called, NewSequence, NewPicture, BeginPicture, DecodeSlice, SubmitPicture}
use Rattle.hevc_walk.specs.Fates.{one, times}
use Rattle.hevc_walk_units.specs.Units.{Standing}
use Rattle.hevc_walk_frames.specs.Coming.{is_coming}
use Rattle.hevc_backend.specs.declared.call.Call.{Call}
use Rattle.hevc_driver.specs.Calls as driver
use Rattle.hevc_events.specs.declared.event.Event.{Event}
use Rattle.hevc_queue.specs.declared.given.Given.{Given}
use Rattle.hevc_queue.specs.declared.given.Given.TheVariants.{Sequence, Picture, Begun, Slice, Submission}
use Rattle.hevc_queue.specs.Given.{call_of}
use Rattle.hevc_queue.specs.Events.{event_of}
use Rattle.hevc_pull.specs.declared.counted.Counted.{Counted}
use Rattle.hevc_pull.specs.Counting.{has_ended, is_hiding, told_by, told_if_own, with_size, without}
use Rattle.hevc_pull_laws.proofs.Taking.{hidden_by}

-- how often a picture is among those
abbrev pub untold : ℕ → List Counted → ℕ
untold n cs = times n (map (λ c. c.number) cs)

equal : (m n : ℕ) → eqb m n ≡ true → m ≡ n
equal m n h = grind (arith, nat_tests)

pub same : (n : ℕ) → eqb n n ≡ true
same n = grind (arith, nat_tests)

pub without_own : (n : ℕ) (cs : List Counted) → untold n (without n cs) ≡ 0
without_own n [] = refl
without_own n (c ∷ cs) = by_test (eqb c.number n) refl (without_own n cs)
  where
    by_test : (b : Bool) → eqb c.number n ≡ b → untold n (without n cs) ≡ 0
        → untold n (cond (not b) (c ∷ without n cs) (without n cs)) ≡ 0
    by_test true is rest = rest
    by_test false is rest = let h = ap one is in omega (arith, h, rest)

pub without_other : (m n : ℕ) (cs : List Counted) → eqb m n ≡ false → untold n (without m cs) ≡ untold n cs
without_other m n [] h = refl
without_other m n (c ∷ cs) h = by_test (eqb c.number m) refl (without_other m n cs h)
  where
    not_this : eqb c.number m ≡ true → eqb c.number n ≡ false
    not_this is = grind (arith, nat_tests, h)

    by_test : (b : Bool) → eqb c.number m ≡ b → untold n (without m cs) ≡ untold n cs
        → untold n (cond (not b) (c ∷ without m cs) (without m cs)) ≡ one (eqb c.number n) + untold n cs
    by_test true is rest = let h = ap one (not_this is) in omega (arith, h, rest)
    by_test false is rest = ap (λ (k : ℕ). one (eqb c.number n) + k) rest

told_number : (e : Event) (c : Counted) → (told_if_own e c).number ≡ c.number
told_number e c = by_own (eqb c.number e.number)
  where
    by_size : (b : Bool) → (cond b (with_size e c) c).number ≡ c.number
    by_size true = refl
    by_size false = refl

    by_kind : (b : Bool) → (cond b (record c { is_begun = true }) (cond (eqb e.kind 3) (with_size e c) c)).number ≡ c.number
    by_kind true = refl
    by_kind false = by_size (eqb e.kind 3)

    by_own : (b : Bool) → (cond b (told_by e c) c).number ≡ c.number
    by_own true = by_kind (eqb e.kind 2)
    by_own false = refl

pub told_same : (n : ℕ) (e : Event) (cs : List Counted) → untold n (map (told_if_own e) cs) ≡ untold n cs
told_same n e [] = refl
told_same n e (c ∷ cs) =
    ap (λ (m : ℕ). one (eqb m n) + untold n (map (told_if_own e) cs)) (told_number e c)
    ∙ ap (λ (k : ℕ). one (eqb c.number n) + k) (told_same n e cs)

pub one_more : (n : ℕ) (cs : List Counted) (c : Counted) → untold n (cs ++ c ∷ []) ≡ untold n cs + one (eqb c.number n)
one_more n [] c = omega arith
one_more n (x ∷ cs) c = let h = one_more n cs c in omega (arith, h)

-- the picture whose end is due
pub record IsDue (s : Standing) (cs : List Counted) (c : Counted) : Type 0 where
  pub there : 1 ≤ untold c.number cs
  pub over : is_coming s c.number ≡ false

pub first_due : (s : Standing) (cs : List Counted) (c : Counted) → find (has_ended s) cs ≡ Some c → IsDue s cs c
first_due s [] c h = absurd (cc h)
first_due s (x ∷ cs) c h = by_test (is_coming s x.number) refl h (λ g. first_due s cs c g)
  where
    by_test : (b : Bool) → is_coming s x.number ≡ b → cond (not b) (Some x) (find (has_ended s) cs) ≡ Some c
        → (find (has_ended s) cs ≡ Some c → IsDue s cs c) → IsDue s (x ∷ cs) c
    by_test true is g further =
        let rest = further g in
        let t = rest.there in
        record { there = omega (arith, t); over = rest.over }
    by_test false is g further =
        let it : x ≡ c = cc g in
        subst (λ (y : Counted). IsDue s (x ∷ cs) y) it
        (record {
          there = subst (λ (b : Bool). 1 ≤ one b + untold x.number cs) (sym (same x.number)) (omega arith);
          over = is;
        })

-- where no end is due, one that isn't to come isn't there
pub none_due : (n : ℕ) (s : Standing) (cs : List Counted) → find (has_ended s) cs ≡ None → is_coming s n ≡ false
    → untold n cs ≡ 0
none_due n s [] h over = refl
none_due n s (c ∷ cs) h over = by_test (is_coming s c.number) refl h (λ g. none_due n s cs g over)
  where
    by_number : (b : Bool) → eqb c.number n ≡ b → is_coming s c.number ≡ true → untold n cs ≡ 0
        → one b + untold n cs ≡ 0
    by_number true is comes rest =
        let other : is_coming s c.number ≡ false = ap (λ (m : ℕ). is_coming s m) (equal c.number n is) ∙ over in
        absurd (cc (comes, other))
    by_number false is comes rest = omega (arith, rest)

    by_test : (b : Bool) → is_coming s c.number ≡ b
        → cond (not b) (Some c) (find (has_ended s) cs) ≡ None
        → (find (has_ended s) cs ≡ None → untold n cs ≡ 0) → one (eqb c.number n) + untold n cs ≡ 0
    by_test true is g further = by_number (eqb c.number n) refl is (further g)
    by_test false is g further = absurd (cc g)

-- ---- the events of calls

-- the pictures that aren't to be output, by the calls that begin them
abbrev pub hidden_calls : ℕ → List (Call ℕ) → ℕ
hidden_calls n cs = hidden_by n (map driver.call_of cs)

hides_of : (n : ℕ) (c : walk.Call) (cs : List walk.Call)
    → hidden_by n (c ∷ cs) ≡ hidden_by n (c ∷ []) + hidden_by n cs
hides_of n (NewPicture number t count output s) cs = omega arith
hides_of n (NewSequence info) cs = omega arith
hides_of n (BeginPicture number set) cs = omega arith
hides_of n (DecodeSlice number a b x y) cs = omega arith
hides_of n (SubmitPicture number) cs = omega arith

pub hides-append : (n : ℕ) (xs ys : List (Call ℕ)) → hidden_calls n (xs ++ ys) ≡ hidden_calls n xs + hidden_calls n ys
hides-append n [] ys = omega arith
hides-append n (x ∷ xs) ys =
    let a = hides_of n (driver.call_of x) (map driver.call_of (xs ++ ys)) in
    let b = hides_of n (driver.call_of x) (map driver.call_of xs) in
    let h = hides-append n xs ys in
    omega (arith, a, b, h)

-- the end that an event tells by its flag
abbrev pub hides : ℕ → Event → ℕ
hides n e = cond (is_hiding e) (one (eqb e.number n)) 0

pub hides_one : (n place : ℕ) (g : Given) → hides n (event_of place g) ≡ hidden_calls n (call_of g ∷ [])
hides_one n place (Sequence sps) = refl
hides_one n place (Picture number picture timestamp) = by_test picture.pic_output_flag
  where
    by_test : (b : Bool) → cond (eqb (cond b 1 0) 0) (one (eqb number n)) 0 ≡ one (not b && eqb number n) + 0
    by_test true = refl
    by_test false = omega arith
hides_one n place (Begun b) = refl
hides_one n place (Slice s) = refl
hides_one n place (Submission number) = refl

-- the first that waits, and the others
pub next_of : (n : ℕ) (gs : List Given) (k : ℕ) (d : Given) → k < length gs
    → hidden_calls n (drop k (map call_of gs))
    ≡ hidden_calls n (call_of (get_or gs k d) ∷ []) + hidden_calls n (drop (suc k) (map call_of gs))
next_of n [] k d low = absurd (omega (arith, low))
next_of n (g ∷ gs) zero d low = hides_of n (driver.call_of (call_of g)) (map driver.call_of (map call_of gs))
next_of n (g ∷ gs) (suc k) d low = next_of n gs k d (omega (arith, low))

-- there is one where an event of it was told
pub is_there : (gs : List Given) (k place : ℕ) (e : Event) → ((d : Given) → e ≡ event_of place (get_or gs k d))
    → k < length gs
is_there gs k place e told = by_test (nat_lt k (length gs)) refl
  where
    numbered : length gs ≤ k → (m : ℕ) → e.number ≡ m
    numbered past m =
        ap (λ (x : Event). x.number) (told (Submission m))
        ∙ ap (λ (g : Given). (event_of place g).number) (get_or_past gs k (Submission m) past)

    by_test : (b : Bool) → nat_lt k (length gs) ≡ b → k < length gs
    by_test true is = grind (arith, nat_tests, is)
    by_test false is =
        let past : length gs ≤ k = grind (arith, nat_tests, is) in
        let a = numbered past 0 in
        let b = numbered past 1 in
        absurd (omega (arith, a, b))
