-- What a unit that is given, or a flush, tells of the end of a picture, and leaves to be told.
use Rattle.std.proofs.Common.{◌≡◌, ◌⊎◌, inl, inr, ℕ, ◌≤◌, Bool, true, false, cond, List, [], ◌∷◌}
use Rattle.std.proofs.Common.{◌++◌, map, refl, sym, ◌∙◌, ap, subst, arith, Option, Some, None, append-nil}
use Rattle.std.specs.Prelude.{ℤ, Result, Ok, Err}
use Rattle.std.specs.List.{flat_map}
use Rattle.hevc_walk.specs.Meanings.{Meaning}
use Rattle.hevc_walk.specs.Walk as walk
use Rattle.hevc_walk.specs.Walk.{Event, Called, Output, Part, NewSequence, NewPicture, BeginPicture}
use Rattle.hevc_walk.specs.Walk.{DecodeSlice, SubmitPicture, output_by, finish, output_of}
use Rattle.hevc_walk.specs.Buffer.{draining}
use Rattle.hevc_walk.specs.Fates.{times}
use Rattle.hevc_walk_fates.proofs.Counts.{given}
use Rattle.hevc_walk_units.specs.Units.{Standing, open_head, finish_current, on_store}
use Rattle.hevc_walk_frames.proofs.Balance.{hidden, pending, Spends, Settles, finish-spends, drain-spends, then}
use Rattle.hevc_bumping.specs.declared.frame.Frame.{Frame}
use Rattle.hevc_bumping.specs.Frames.{frame_output}
use Rattle.hevc_backend.specs.declared.call.Call.{Call}
use Rattle.hevc_backend.specs.Trait.{logged}
use Rattle.hevc_backend.specs.Handed.{no_dpb, no_picture}
use Rattle.hevc_driver.specs.Calls.{call_of}
use Rattle.hevc_driver.specs.Given.{Given}
use Rattle.hevc_driver.specs.Does.{Traces, Does, Stops, call_in, output_in, questioned, questioned_if}
use Rattle.hevc_driver.specs.Moments.{begins_at, kept_behind, given_up, forgotten, closes, step_part}
use Rattle.hevc_driver.specs.Takes.{Goes, Opens, Fills, Halts, Refuses, Stays, StopsAt, Takes}
use Rattle.hevc_driver.specs.declared.decode_error.DecodeError.{DecodeError}
use Rattle.hevc_driver.specs.declared.decode_error.DecodeError.TheVariants as errors
use Rattle.hevc_stateless.specs.declared.state.State.{State}
use Rattle.hevc_stateless.specs.States.{is_awaited}
use Rattle.hevc_stateless.specs.Flushes.{Flushes, Ends}
use Rattle.hevc_pull_laws.proofs.Parts.{is_called, of_calls, no_outputs, first_of_finish}
use Rattle.hevc_pull_laws.proofs.Stopped.{done_to, step-settles, kept-spends, finishes, opens, gives_up, stays}
use Rattle.hevc_pull_laws.proofs.Stopped.{submits, stopped, refused}

-- the pictures that aren't to be output, by the calls that begin them
abbrev pub hidden_by : ℕ → List walk.Call → ℕ
hidden_by n cs = hidden n (map (λ c. Called c) cs)

pub calls_hide : (n : ℕ) (es : List Event) → hidden_by n (flat_map call_in es) ≡ hidden n es
calls_hide n [] = refl
calls_hide n (Called (NewPicture number t c output s) ∷ es) = let h = calls_hide n es in omega (arith, h)
calls_hide n (Called (NewSequence info) ∷ es) = calls_hide n es
calls_hide n (Called (BeginPicture number set) ∷ es) = calls_hide n es
calls_hide n (Called (DecodeSlice number a b x y) ∷ es) = calls_hide n es
calls_hide n (Called (SubmitPicture number) ∷ es) = calls_hide n es
calls_hide n (Output number count ∷ es) = calls_hide n es

-- the pictures that are output
abbrev pub shown_by : ℕ → List (Frame ℕ) → ℕ
shown_by n fs = times n (map (λ f. f.number) fs)

outputs_show : (n : ℕ) (es : List Event) → times n (map (λ o. o.0) (flat_map output_in es)) ≡ given n es
outputs_show n [] = refl
outputs_show n (Called call ∷ es) = outputs_show n es
outputs_show n (Output number count ∷ es) = let h = outputs_show n es in omega (arith, h)

frames_show : (n : ℕ) (fs : List (Frame ℕ)) → times n (map (λ o. o.0) (map frame_output fs)) ≡ shown_by n fs
frames_show n [] = refl
frames_show n (f ∷ fs) = let h = frames_show n fs in omega (arith, h)

-- what may have been done to what is seen of a decoder
pub record Moves (n : ℕ) (Settled : Part Standing → Type 0) (old new : Traces ℕ) (now : Standing) : Type 0 where
  pub calls : List (Call ℕ)
  pub log : new.log ≡ logged old.log calls
  pub out : List (Frame ℕ)
  pub queue : new.queue ≡ old.queue ++ out
  pub done : List Event
  pub hides : hidden_by n (map call_of calls) ≡ hidden n done
  pub shows : shown_by n out ≡ given n done
  pub settles : Settled (done_to done now)

-- these events were done, whatever was asked before
by_does : (n : ℕ) (Settled : Part Standing → Type 0) (g : Given) (old asked new : Traces ℕ) (now : Standing)
    (done : List Event) → asked.log ≡ old.log → asked.queue ≡ old.queue → Does g asked new done
    → Settled (done_to done now) → Moves n Settled old new now
by_does n Settled g old asked new now done same_log same_queue d settles = record {
  calls = d.calls;
  log = d.log ∙ ap (λ (l : Option (List (Call ℕ))). logged l d.calls) same_log;
  out = d.out;
  queue = d.queue ∙ ap (λ (q : List (Frame ℕ)). q ++ d.out) same_queue;
  done = done;
  hides = ap (hidden_by n) d.made ∙ calls_hide n done;
  shows = sym (frames_show n d.out) ∙ ap (λ (l : List (ℕ × ℤ)). times n (map (λ o. o.0) l)) d.shown
      ∙ outputs_show n done;
  settles = settles;
}

log_nothing : (l : Option (List (Call ℕ))) → l ≡ logged l []
log_nothing None = refl
log_nothing (Some l) = ap (λ (x : List (Call ℕ)). Some x) (sym (append-nil l))

pub unmoved : (n : ℕ) (Settled : Part Standing → Type 0) (old : Traces ℕ) (now : Standing)
    → Settled (done_to [] now) → Moves n Settled old old now
unmoved n Settled old now settles = record {
  calls = [];
  log = log_nothing old.log;
  out = [];
  queue = sym (append-nil old.queue);
  done = [];
  hides = refl;
  shows = refl;
  settles = settles;
}

module _ (n : ℕ) (g : Given) (old new : Traces ℕ) (u : Meaning) (before now : Standing)
    (once : pending n before ≤ 1) where
  -- to this standing
  to : (es : List Event) (t : Standing) → now ≡ t → Settles n before (done_to es t) → Settles n before (done_to es now)
  to es t is h = subst (λ (v : Standing). Settles n before (done_to es v)) (sym is) h

  asked_first : (b : Bool) (done : List Event) → Does g (questioned_if b old) new done
      → Settles n before (done_to done now) → Moves n (Settles n before) old new now
  asked_first b done d settles = by_does n (Settles n before) g old (questioned_if b old) new now done refl refl d settles

  goes : Goes g old new u before now → Moves n (Settles n before) old new now
  goes h = asked_first (begins_at u before) (step_part u before).events h.completes.does
      (to _ (step_part u before).next h.completes.next (step-settles n u before once))

  opened : Opens g old new u before now → Moves n (Settles n before) old new now
  opened h = asked_first (begins_at u before) _ h.completes.does
      (to _ _ h.completes.next (inl (opens n u before once)))

  stops : StopsAt g old new u before now → Moves n (Settles n before) old new now
  stops h = asked_first h.asked h.stops.done h.stops.does
      (stopped n u before now h.stops.done h.stops.rest h.stops.call once h.stops.whole h.stops.left.1)

  filled : (plan : List Event) → Fills g old new plan (kept_behind u before) now → Moves n (Settles n before) old new now
  filled plan h = by_does n (Settles n before) g old old new now (Called (SubmitPicture h.number) ∷ []) refl refl h.does
      (to _ _ h.left (inl (kept-spends n u before _ (submits n h.number (kept_behind u before)))))

  halted : Halts g old new u before now → Moves n (Settles n before) old new now
  halted h = by_does n (Settles n before) g old (questioned old) new now _ refl refl h.does
      (to _ _ h.left (inl (finishes n u before once)))

  refuses : {e : DecodeError} → Refuses e g old new u before now → Moves n (Settles n before) old new now
  refuses h = asked_first (begins_at u before) (step_part u before).events h.does
      (to _ _ h.left (inl (refused n u before h.cause once h.accepted h.refused)))

  pub taken : {T : Type 0} (result : Result T DecodeError) → Takes result g old new u before now
      → Moves n (Settles n before) old new now
  taken (Ok value) h = goes h
  taken (Err errors.CheckEvents) h = opened h
  taken (Err errors.Backend) h = stops h
  taken (Err errors.NoMemory) h = stops h
  taken (Err errors.DpbFull) h = filled (step_part u before).events h.1
  taken (Err (errors.NotEnoughOutputBuffers frames)) h = halted h.1
  taken (Err errors.PictureNumbersSpent) h = halted h.halts
  taken (Err errors.NoNal) h = refuses h
  taken (Err errors.TruncatedNalu) h = refuses h
  taken (Err (errors.InvalidNaluType number)) h = refuses h
  taken (Err errors.OutOfBits) h = refuses h
  taken (Err (errors.OutOfRange table row)) h = refuses h
  taken (Err (errors.MissingPps id)) h = refuses h
  taken (Err errors.NoIndependentSlice) h = refuses h
  taken (Err (errors.ChangedMidPicture accepted named)) h = refuses h
  taken (Err errors.PocOutOfRange) h = refuses h

-- ---- a flush

closed : (n : ℕ) (s : Standing) → pending n s ≤ 1 → Spends n s (closes s)
closed n s once =
    then n s (finish_current s) (on_store (output_by draining)) (finish-spends n s once)
    (drain-spends n (finish_current s).next)

pub nothing_given : Given
nothing_given = record {
  timestamp = 0;
  set = None;
  picture = no_picture;
  dpb = no_dpb;
  segment = None;
}

module _ (n : ℕ) (old new : Traces ℕ) (state : State) (before now : Standing) (once : pending n before ≤ 1) where
  forgets : (b : Bool) → now ≡ cond b (forgotten (closes before).next) (closes before).next
      → Spends n before (done_to (closes before).events now)
  forgets true is =
      subst (λ (v : Standing). Spends n before (done_to (closes before).events v)) (sym is)
      (let h = (closed n before once).sum in record { number = refl; sum = omega (arith, h) })
  forgets false is =
      subst (λ (v : Standing). Spends n before (done_to (closes before).events v)) (sym is)
      (closed n before once)

  ended : (g : Given) → Ends g old new state before now → Moves n (Spends n before) old new now
  ended g h = by_does n (Spends n before) g old old new now (closes before).events refl refl h.does
      (forgets (is_awaited state) h.left)

  gave : (g : Given) → Stops g old new (closes before).events (λ call. now ≡ given_up before)
      → Moves n (Spends n before) old new now
  gave g h =
      let none = first_of_finish is_called of_calls (open_head before.current) before.store
      (map output_of (draining (finish_current before).next.store.buffer).outputs) h.done (Called h.call) h.rest
      (no_outputs is_called of_calls (draining (finish_current before).next.store.buffer).outputs) refl h.whole in
      by_does n (Spends n before) g old old new now h.done refl refl h.does
      (subst (λ (v : Standing). Spends n before (done_to h.done v)) (sym h.left)
      (subst (λ (es : List Event). Spends n before (done_to es (given_up before))) (sym none)
      (gives_up n before)))

  pub flushed : {T : Type 0} (result : Result T DecodeError)
      → ((g : Given) → Flushes result g old new state before now) → Moves n (Spends n before) old new now
  flushed (Ok value) h = ended nothing_given (h nothing_given)
  flushed (Err errors.DpbFull) h =
      let f = (h nothing_given).1 in
      by_does n (Spends n before) nothing_given old old new now (Called (SubmitPicture f.number) ∷ []) refl refl f.does
      (subst (λ (v : Standing). Spends n before (done_to (Called (SubmitPicture f.number) ∷ []) v)) (sym f.left)
      (submits n f.number before))
  flushed (Err errors.Backend) h = gave nothing_given (h nothing_given)
  flushed (Err errors.NoMemory) h = by_part (h nothing_given)
    where
      by_part : Stays old new before now
          ⊎ Stops nothing_given old new (closes before).events (λ call. now ≡ given_up before)
          → Moves n (Spends n before) old new now
      by_part (inl s) =
          subst (λ (t : Traces ℕ). Moves n (Spends n before) old t now) (sym s.traces)
          (unmoved n (Spends n before) old now
          (subst (λ (v : Standing). Spends n before (done_to [] v)) (sym s.left) (stays n before)))
      by_part (inr s) = gave nothing_given s
  flushed (Err errors.NoNal) h = absurd (h nothing_given)
  flushed (Err errors.CheckEvents) h = absurd (h nothing_given)
  flushed (Err (errors.NotEnoughOutputBuffers frames)) h = absurd (h nothing_given)
  flushed (Err errors.PictureNumbersSpent) h = absurd (h nothing_given)
  flushed (Err errors.TruncatedNalu) h = absurd (h nothing_given)
  flushed (Err (errors.InvalidNaluType number)) h = absurd (h nothing_given)
  flushed (Err errors.OutOfBits) h = absurd (h nothing_given)
  flushed (Err (errors.OutOfRange table row)) h = absurd (h nothing_given)
  flushed (Err (errors.MissingPps id)) h = absurd (h nothing_given)
  flushed (Err errors.NoIndependentSlice) h = absurd (h nothing_given)
  flushed (Err (errors.ChangedMidPicture accepted named)) h = absurd (h nothing_given)
  flushed (Err errors.PocOutOfRange) h = absurd (h nothing_given)
