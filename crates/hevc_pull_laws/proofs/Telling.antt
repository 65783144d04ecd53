-- How the ends that were told, and those that weren't, stand after a call.
use Rattle.std.proofs.Common.{◌≡◌, inl, inr, ℕ, suc, ◌+◌, ◌≤◌, ◌<◌, Bool, true, false, not, ◌&&◌, ◌||◌, cond}
use Rattle.std.proofs.Common.{eqb, List, [], ◌∷◌, ◌++◌, map, length, drop, get_or, refl, sym, ◌∙◌, ap, subst, arith}
use Rattle.std.proofs.Common.{Option, Some, None}
use Rattle.std.specs.Prelude.{nat_lt}
use Rattle.std.proofs.lemmas.Bool.Decides.{nat_tests}
use Rattle.std.proofs.lemmas.List.{drop-append-le, length-append, drop_all}
use Rattle.hevc_walk.specs.Pictures.{Head}
use Rattle.hevc_walk.specs.Fates.{one, times}
use Rattle.hevc_walk_fates.proofs.Counts.{to_come}
use Rattle.hevc_walk_units.specs.Units.{Standing, open_head}
use Rattle.hevc_walk_frames.specs.Coming.{is_coming, is_open, is_waiting}
use Rattle.hevc_walk_frames.proofs.Balance.{pending, Settles, Spends}
use Rattle.hevc_walk_frames.proofs.Coming.{waits-not}
use Rattle.hevc_backend.specs.declared.call.Call.{Call}
use Rattle.hevc_backend.specs.Trait.{logged}
use Rattle.hevc_bumping.specs.declared.frame.Frame.{Frame}
use Rattle.hevc_events.specs.declared.event.Event.{Event}
use Rattle.hevc_queue.specs.declared.given.Given.TheVariants.{Submission}
use Rattle.hevc_queue.specs.Given.{call_of}
use Rattle.hevc_queue.specs.Queue.{Queue, log_of}
use Rattle.hevc_pull.specs.declared.counted.Counted.{Counted}
use Rattle.hevc_pull.specs.declared.pulled.Pulled.{Pulled}
use Rattle.hevc_pull.specs.declared.pulled.Pulled.TheVariants.{Asked, Output, Dropped, Skipped}
use Rattle.hevc_pull.specs.declared.pulled.Pulled.TheVariants.{FormatChanged}
use Rattle.hevc_pull.specs.Counting.{counted_behind, counted_with, is_hiding, told_if_own, without}
use Rattle.hevc_pull.specs.Pulling.{Asks, AreTaken, Ends, PullsNext, Telling, nothing_to_tell}
use Rattle.hevc_pull.specs.Pulling.{with_backend}
use Rattle.hevc_pull.specs.Views.{told_log}
use Rattle.hevc_pull_laws.specs.Runs.{end_in}
use Rattle.hevc_driver.specs.Does.{Traces}
use Rattle.hevc_pull_laws.proofs.Taking.{Moves, shown_by}
use Rattle.hevc_pull_laws.proofs.Numbers.{untold, same, without_own, without_other, told_same, one_more, IsDue, first_due}
use Rattle.hevc_pull_laws.proofs.Numbers.{hidden_calls, hides, hides-append, hides_one, is_there, next_of}

many : {A B : Type 0} (f : A → B) (xs : List A) → length (map f xs) ≡ length xs
many f [] = refl
many f (x ∷ xs) = ap (λ (m : ℕ). suc m) (many f xs)

-- the calls whose events weren't taken
abbrev pub to_take : Queue → List (Call ℕ)
to_take q = drop q.counts.taken (log_of q)

-- how often the end of a picture may still be told
abbrev pub due : ℕ → Telling → ℕ
due n t = shown_by n t.view.queue + hidden_calls n (to_take t.view.backend) + pending n t.view.standing

-- The end of a picture was told so often.
pub record Stands (n told : ℕ) (t : Telling) : Type 0 where
  -- no event was taken but of a call
  pub made : t.view.backend.counts.taken ≤ length (log_of t.view.backend)
  -- no end comes of a picture whose end was told
  pub few : due n t ≤ untold n t.counted
  -- each picture is among those whose end was told, or those whose end wasn't
  pub sum : told + untold n t.counted ≡ one (nat_lt n t.view.standing.next.number)

pub at_most_one : (b : Bool) → one b ≤ 1
at_most_one true = omega arith
at_most_one false = omega arith

none_below : (n : ℕ) → 0 ≡ one (nat_lt n 0)
none_below n = by_test (nat_lt n 0) refl
  where
    by_test : (b : Bool) → nat_lt n 0 ≡ b → 0 ≡ one b
    by_test true is = absurd (grind (arith, nat_tests, is))
    by_test false is = refl

pub at_first : (n : ℕ) (t : Telling) → t ≡ nothing_to_tell → Stands n 0 t
at_first n t is = subst (λ (v : Telling). Stands n 0 v) (sym is) (record {
  made = omega arith;
  few = omega arith;
  sum = none_below n;
})

pub pending_once : (n told : ℕ) (t : Telling) → Stands n told t → pending n t.view.standing ≤ 1
pending_once n told t h =
    let a = h.few in
    let b = h.sum in
    let c = at_most_one (nat_lt n t.view.standing.next.number) in
    omega (arith, a, b, c)

-- ---- a unit was given, or the stream was left

same_log : (l : List (Call ℕ)) (xs calls : List (Call ℕ)) → Some l ≡ logged (Some xs) calls → l ≡ xs ++ calls
same_log l xs calls is = cc is

-- what came of the calls
record Grows (n : ℕ) (out done_hidden : ℕ) (before now : Telling) : Type 0 where
  made : now.view.backend.counts.taken ≤ length (log_of now.view.backend)
  queue : shown_by n now.view.queue ≡ shown_by n before.view.queue + out
  calls : hidden_calls n (to_take now.view.backend) ≡ hidden_calls n (to_take before.view.backend) + done_hidden

shown-append : (n : ℕ) (xs ys : List (Frame ℕ)) → shown_by n (xs ++ ys) ≡ shown_by n xs + shown_by n ys
shown-append n [] ys = omega arith
shown-append n (x ∷ xs) ys = let h = shown-append n xs ys in omega (arith, h)

grows : (n : ℕ) (before now : Telling) (calls : List (Call ℕ)) (out : List (Frame ℕ))
    → before.view.backend.counts.taken ≤ length (log_of before.view.backend)
    → now.view.backend.counts.taken ≡ before.view.backend.counts.taken
    → log_of now.view.backend ≡ log_of before.view.backend ++ calls
    → now.view.queue ≡ before.view.queue ++ out
    → Grows n (shown_by n out) (hidden_calls n calls) before now
grows n before now calls out made taken log queue =
    let more : length (log_of now.view.backend) ≡ length (log_of before.view.backend) + length calls =
    ap length log ∙ length-append (log_of before.view.backend) calls in
    record {
      made = omega (arith, made, taken, more);
      queue = ap (shown_by n) queue ∙ shown-append n before.view.queue out;
      calls = ap (λ (k : ℕ). hidden_calls n (drop k (log_of now.view.backend))) taken
          ∙ ap (λ (l : List (Call ℕ)). hidden_calls n (drop before.view.backend.counts.taken l)) log
          ∙ ap (hidden_calls n) (drop-append-le before.view.backend.counts.taken (log_of before.view.backend) calls made)
          ∙ hides-append n (to_take before.view.backend) calls;
    }

next_below : (n m : ℕ) → one (eqb m n) + one (nat_lt n m) ≡ one (nat_lt n (m + 1))
next_below n m = by_tests (eqb m n) (nat_lt n m) (nat_lt n (m + 1)) refl refl refl
  where
    by_tests : (a b c : Bool) → eqb m n ≡ a → nat_lt n m ≡ b → nat_lt n (m + 1) ≡ c → one a + one b ≡ one c
    by_tests true true c x y z = absurd (grind (arith, nat_tests, x, y))
    by_tests true false true x y z = refl
    by_tests true false false x y z = absurd (grind (arith, nat_tests, x, z))
    by_tests false true true x y z = refl
    by_tests false true false x y z = absurd (grind (arith, nat_tests, y, z))
    by_tests false false true x y z = absurd (grind (arith, nat_tests, x, y, z))
    by_tests false false false x y z = refl

-- nothing was counted
pub spent : (n told : ℕ) (before now : Telling) (old new : Traces ℕ) → Stands n told before
    → old.log ≡ told_log before.view.backend → new.log ≡ told_log now.view.backend
    → old.queue ≡ before.view.queue → new.queue ≡ now.view.queue
    → now.view.backend.counts.taken ≡ before.view.backend.counts.taken
    → now.counted ≡ before.counted
    → Moves n (Spends n before.view.standing) old new now.view.standing → Stands n told now
spent n told before now old new h old_log new_log old_queue new_queue taken counted m =
    let log = same_log (log_of now.view.backend) (log_of before.view.backend) m.calls
    (sym new_log ∙ m.log ∙ ap (λ (l : Option (List (Call ℕ))). logged l m.calls) old_log) in
    let queue = sym new_queue ∙ m.queue ∙ ap (λ (q : List (Frame ℕ)). q ++ m.out) old_queue in
    let g = grows n before now m.calls m.out h.made taken log queue in
    let a = h.few in
    let b = m.settles.sum in
    let c = m.hides in
    let d = m.shows in
    let e = g.queue in
    let f = g.calls in
    let same_untold : untold n now.counted ≡ untold n before.counted = ap (untold n) counted in
    let same_number : one (nat_lt n now.view.standing.next.number) ≡ one (nat_lt n before.view.standing.next.number) =
    ap (λ (k : ℕ). one (nat_lt n k)) m.settles.number in
    let s = h.sum in
    record {
      made = g.made;
      few = omega (arith, a, b, c, d, e, f, same_untold);
      sum = omega (arith, s, same_untold, same_number);
    }

-- a picture may have been counted
pub settled : (n told timestamp : ℕ) (before now : Telling) (old new : Traces ℕ) → Stands n told before
    → old.log ≡ told_log before.view.backend → new.log ≡ told_log now.view.backend
    → old.queue ≡ before.view.queue → new.queue ≡ now.view.queue
    → now.view.backend.counts.taken ≡ before.view.backend.counts.taken
    → now.counted ≡ counted_behind timestamp before.view.standing.next.number now.view.standing.next.number
    before.counted
    → Moves n (Settles n before.view.standing) old new now.view.standing → Stands n told now
settled n told timestamp before now old new h old_log new_log old_queue new_queue taken counted m =
    by_part m.settles
  where
    k : ℕ
    k = before.view.standing.next.number

    l : ℕ
    l = now.view.standing.next.number

    by_part : Settles n before.view.standing (record { events = m.done; next = now.view.standing }) → Stands n told now
    by_part (inl s) =
        spent n told before now old new h old_log new_log old_queue new_queue taken
        (counted ∙ ap (λ (b : Bool). cond b before.counted (before.counted ++ counted_with k timestamp ∷ []))
        (ap (λ (x : ℕ). eqb x k) s.number ∙ same k))
        (record {
          calls = m.calls;
          log = m.log;
          out = m.out;
          queue = m.queue;
          done = m.done;
          hides = m.hides;
          shows = m.shows;
          settles = s;
        })
    by_part (inr s) =
        let log = same_log (log_of now.view.backend) (log_of before.view.backend) m.calls
        (sym new_log ∙ m.log ∙ ap (λ (x : Option (List (Call ℕ))). logged x m.calls) old_log) in
        let queue = sym new_queue ∙ m.queue ∙ ap (λ (q : List (Frame ℕ)). q ++ m.out) old_queue in
        let g = grows n before now m.calls m.out h.made taken log queue in
        let number = s.number in
        let other : eqb l k ≡ false = grind (arith, nat_tests, number) in
        let counted_is : now.counted ≡ before.counted ++ counted_with k timestamp ∷ [] =
        counted ∙ ap (λ (b : Bool). cond b before.counted (before.counted ++ counted_with k timestamp ∷ [])) other in
        let more : untold n now.counted ≡ untold n before.counted + one (eqb k n) =
        ap (untold n) counted_is ∙ one_more n before.counted (counted_with k timestamp) in
        let below : one (nat_lt n l) ≡ one (eqb k n) + one (nat_lt n k) =
        ap (λ (x : ℕ). one (nat_lt n x)) number ∙ sym (next_below n k) in
        let a = h.few in
        let b = s.sum in
        let c = m.hides in
        let d = m.shows in
        let e = g.queue in
        let f = g.calls in
        let t = h.sum in
        record {
          made = g.made;
          few = omega (arith, a, b, c, d, e, f, more);
          sum = omega (arith, t, more, below);
        }

-- ---- what came of the units is taken

-- one end is told of a picture that it may be told of
record Told (n m told rest : ℕ) (cs : List Counted) (total : ℕ) : Type 0 where
  few : rest ≤ untold n (without m cs)
  sum : told + (one (eqb m n) + 0) + untold n (without m cs) ≡ total

equal : (m n : ℕ) → eqb m n ≡ true → m ≡ n
equal m n h = grind (arith, nat_tests)

tell : (n m told rest : ℕ) (cs : List Counted) (below : Bool) → one (eqb m n) + rest ≤ untold n cs
    → told + untold n cs ≡ one below → Told n m told rest cs (one below)
tell n m told rest cs below few sum = by_test (eqb m n) refl few
  where
    by_test : (b : Bool) → eqb m n ≡ b → one b + rest ≤ untold n cs → Told n m told rest cs (one below)
    by_test true is f =
        let none : untold n (without m cs) ≡ 0 = subst (λ (x : ℕ). untold n (without x cs) ≡ 0) (sym (equal m n is)) (without_own n cs) in
        let a = at_most_one below in
        let b = ap one is in
        record {
          few = omega (arith, f, sum, a, none);
          sum = omega (arith, f, sum, a, none, b);
        }
    by_test false is f =
        let others = without_other m n cs is in
        let b = ap one is in
        record {
          few = omega (arith, f, others);
          sum = omega (arith, sum, others, b);
        }

module _ (n told : ℕ) (e : Event) (before now : Telling) (h : Stands n told before) (a : Asks e before now) where
  abbrev q : Queue
  q = before.view.backend

  abbrev q' : Queue
  q' = now.view.backend

  abbrev k : ℕ
  k = q.counts.taken

  log_same : log_of q' ≡ log_of q
  log_same = ap log_of a.takes.others

  taken_more : q'.counts.taken ≡ suc k
  taken_more = let t = ap (λ (x : Queue). x.counts.taken) a.takes.others in omega (arith, t)

  there : k < length q.given
  there = is_there q.given k k e a.takes.told

  made_now : q'.counts.taken ≤ length (log_of q')
  made_now =
      let low = there in
      let t = taken_more in
      let l = ap length log_same in
      let m = many call_of q.given in
      omega (arith, low, t, l, m)

  first_hides : hidden_calls n (to_take q) ≡ hides n e + hidden_calls n (to_take q')
  first_hides =
      let x = next_of n q.given k (Submission 0) there in
      let y = ap (hides n) (a.takes.told (Submission 0)) ∙ hides_one n k (get_or q.given k (Submission 0)) in
      let z : hidden_calls n (to_take q') ≡ hidden_calls n (drop (suc k) (log_of q)) =
      ap (λ (l : List (Call ℕ)). hidden_calls n (drop q'.counts.taken l)) log_same
      ∙ ap (λ (m : ℕ). hidden_calls n (drop m (log_of q))) taken_more in
      omega (arith, x, y, z)

  by_hiding : (b : Bool) → is_hiding e ≡ b
      → Stands n (told + times n (cond b (e.number ∷ []) []))
      (with_backend q' (cond b (without e.number before.counted) (map (told_if_own e) before.counted)) before)
  by_hiding true is =
      let x = first_hides in
      let y : hides n e ≡ one (eqb e.number n) = ap (λ (b : Bool). cond b (one (eqb e.number n)) 0) is in
      let f = h.few in
      let t = tell n e.number told
      (shown_by n before.view.queue + hidden_calls n (to_take q') + pending n before.view.standing)
      before.counted (nat_lt n before.view.standing.next.number) (omega (arith, f, x, y)) h.sum in
      record { made = made_now; few = t.few; sum = t.sum }
  by_hiding false is =
      let x = first_hides in
      let y : hides n e ≡ 0 = ap (λ (b : Bool). cond b (one (eqb e.number n)) 0) is in
      let f = h.few in
      let s = h.sum in
      let t = told_same n e before.counted in
      record { made = made_now; few = omega (arith, f, x, y, t); sum = omega (arith, s, t) }

  pub asked : Stands n (told + times n (end_in (Some (Asked e)))) now
  asked =
      subst (λ (t : Telling). Stands n (told + times n (end_in (Some (Asked e)))) t) (sym a.others)
      (by_hiding (is_hiding e) refl)

output : (n told : ℕ) (frame : Frame ℕ) (c : Counted) (before now : Telling) → Stands n told before
    → PullsNext (Some (Output frame c)) before now → Stands n (told + times n (frame.number ∷ [])) now
output n told frame c before now h p =
    let f = h.few in
    let x : shown_by n before.view.queue ≡ one (eqb frame.number n) + shown_by n now.view.queue = ap (shown_by n) p.1 in
    let t = tell n frame.number told
    (shown_by n now.view.queue + hidden_calls n (to_take before.view.backend) + pending n before.view.standing)
    before.counted (nat_lt n before.view.standing.next.number) (omega (arith, f, x)) h.sum in
    subst (λ (v : Telling). Stands n (told + times n (frame.number ∷ [])) v) (sym p.3)
    (record { made = h.made; few = t.few; sum = t.sum })

-- ---- a picture that isn't to come

or_parts : (a b : Bool) → a || b ≡ false → (a ≡ false) × (b ≡ false)
or_parts true b h = absurd (cc h)
or_parts false b h = (refl, h)

none_to_come : (n : ℕ) (q : Option Head) → is_open n q ≡ false → to_come n q ≡ 0
none_to_come n None h = refl
none_to_come n (Some q) h = by_tests q.skipped q.pic_output_flag (eqb q.number n) h
  where
    by_tests : (s o b : Bool) → b ≡ false → one (not s && o && b) ≡ 0
    by_tests true o b h = refl
    by_tests false true b h = ap one h
    by_tests false false b h = refl

pub none_pending : (n : ℕ) (s : Standing) → is_coming s n ≡ false → pending n s ≡ 0
none_pending n s h =
    let two = or_parts (is_open n (open_head s.current)) (is_waiting n s.store.buffer) h in
    let a = waits-not n s.store.buffer two.1 in
    let b = none_to_come n (open_head s.current) two.0 in
    omega (arith, a, b)

-- where all was taken no call waits, nor an output
pub none_wait : (n : ℕ) (t : Telling) → AreTaken t.view
    → shown_by n t.view.queue + hidden_calls n (to_take t.view.backend) ≡ 0
none_wait n t taken =
    let a : shown_by n t.view.queue ≡ 0 = ap (shown_by n) taken.outputs in
    let m = many call_of t.view.backend.given in
    let all = taken.calls.all in
    let b : hidden_calls n (to_take t.view.backend) ≡ 0 =
    ap (hidden_calls n) (drop_all t.view.backend.counts.taken (log_of t.view.backend) (omega (arith, m, all))) in
    omega (arith, a, b)

ended : (n told : ℕ) (c : Counted) (before now : Telling) → Stands n told before → Ends c before now
    → Stands n (told + times n (c.number ∷ [])) now
ended n told c before now h p =
    let t = tell n c.number told (due n before) before.counted (nat_lt n before.view.standing.next.number)
    (by_test (eqb c.number n) refl) h.sum in
    subst (λ (v : Telling). Stands n (told + times n (c.number ∷ [])) v) (sym p.others)
    (record { made = h.made; few = t.few; sum = t.sum })
  where
    is_due : IsDue before.view.standing before.counted c
    is_due = first_due before.view.standing before.counted c p.first

    by_test : (b : Bool) → eqb c.number n ≡ b → one b + due n before ≤ untold n before.counted
    by_test true is =
        let number = equal c.number n is in
        let x = none_wait n before p.taken in
        let y : pending n before.view.standing ≡ 0 =
        none_pending n before.view.standing
        (subst (λ (m : ℕ). is_coming before.view.standing m ≡ false) number is_due.over) in
        let z : 1 ≤ untold n before.counted =
        subst (λ (m : ℕ). 1 ≤ untold m before.counted) number is_due.there in
        omega (arith, x, y, z)
    by_test false is = let f = h.few in omega (arith, f)

none_more : (n told : ℕ) (t : Telling) → Stands n told t → Stands n (told + 0) t
none_more n told t h = let s = h.sum in record { made = h.made; few = h.few; sum = omega (arith, s) }

pub pulled : (n told : ℕ) (what : Option Pulled) (before now : Telling) → Stands n told before
    → PullsNext what before now → Stands n (told + times n (end_in what)) now
pulled n told (Some (Asked event)) before now h p = asked n told event before now h p.1
pulled n told (Some (Output frame c)) before now h p = output n told frame c before now h p
pulled n told (Some (Dropped c)) before now h p = ended n told c before now h p.1
pulled n told (Some (Skipped c)) before now h p = ended n told c before now h p.1
pulled n told (Some FormatChanged) before now h p =
    subst (λ (v : Telling). Stands n (told + 0) v) (sym p.3)
    (let s = h.sum in record { made = h.made; few = h.few; sum = omega (arith, s) })
pulled n told None before now h p =
    subst (λ (v : Telling). Stands n (told + 0) v) (sym p.3) (none_more n told before h)
