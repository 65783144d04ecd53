-- The ends that are told by a whole run.
use Rattle.std.proofs.Common.{◌≡◌, inl, inr, ℕ, ◌+◌, ◌≤◌, Bool, true, false, List, [], ◌∷◌, refl, sym, ap}
use Rattle.std.proofs.Common.{subst, arith, cond, Option, None}
use Rattle.std.specs.Prelude.{Result, Ok, Err, nat_lt}
use Rattle.hevc_spec.specs.UnitHeader.{UnitHeader, HeaderFault, unit_header}
use Rattle.hevc_spec.specs.Units.{NalUnit, units}
use Rattle.hevc_walk.specs.Meanings.{Meaning}
use Rattle.hevc_walk.specs.Fates.{one, times}
use Rattle.hevc_walk_units.specs.Units.{Standing}
use Rattle.hevc_walk_frames.specs.Coming.{is_coming}
use Rattle.hevc_walk_frames.proofs.Balance.{pending, Settles}
use Rattle.hevc_records.specs.SliceHeader.{PlainSliceSegmentHeader}
use Rattle.hevc_stream.specs.Options.{Options}
use Rattle.hevc_driver.specs.declared.decode_error.DecodeError.{DecodeError}
use Rattle.hevc_driver.specs.declared.decode_error.DecodeError.TheVariants as errors
use Rattle.hevc_driver.specs.Given.{Given}
use Rattle.hevc_driver.specs.Does.{Traces}
use Rattle.hevc_driver.specs.Moments.{closes, forgotten}
use Rattle.hevc_stateless.specs.declared.state.State.{State}
use Rattle.hevc_stateless.specs.declared.state.State.TheVariants.{AwaitingStreamInfo, AwaitingFormat, Decoding}
use Rattle.hevc_stateless.specs.declared.state.State.TheVariants.{Reset}
use Rattle.hevc_stateless.specs.States.{is_awaited}
use Rattle.hevc_stateless.specs.Steps.{Acts, Seen, StepsIn, TakesIn}
use Rattle.hevc_stateless.specs.Views.{Moment, moment_of, traces_of}
use Rattle.hevc_queue.specs.Queue.{Queue}
use Rattle.hevc_pull.specs.declared.decoder.PullDecoder.{PullDecoder}
use Rattle.hevc_pull.specs.declared.calls.DecodeCall.{DecodeCall}
use Rattle.hevc_pull.specs.Calls.{Accepts, Decodes, DecodesFirst, IsFlushed}
use Rattle.hevc_pull.specs.Pulling.{PullsNext, Telling, nothing_to_tell, telling}
use Rattle.hevc_pull.specs.Seeking.{Sought, SoughtBehind, found, is_found, is_passed}
use Rattle.hevc_pull.specs.Views.{options_for, seen_of, pulled_traces, view_in, with_free_frames}
use Rattle.hevc_pull_laws.specs.Runs.{Does, Runs, Step, Given as GivenUnit, Taken, Accepted, Flushed}
use Rattle.hevc_pull_laws.specs.Runs.{Sought as SoughtNext, end_told, times_told}
use Rattle.hevc_pull_laws.proofs.Stopped.{stays}
use Rattle.hevc_pull_laws.proofs.Taking.{Moves, taken, unmoved, flushed, nothing_given}
use Rattle.hevc_pull_laws.proofs.Numbers.{none_due}
use Rattle.hevc_pull_laws.proofs.Telling.{Stands, at_first, pending_once, pulled, settled, spent}

-- ---- a unit

-- all that decoding may change, as it is seen
abbrev traces_in : Seen Queue ℕ → Traces ℕ
traces_in s = traces_of s.log s.handed s.asked s.view

abbrev Moved : ℕ → Seen Queue ℕ → Seen Queue ℕ → Type 0
Moved n old new = Moves n (Settles n old.view.standing) (traces_in old) (traces_in new) new.view.standing

left : (n : ℕ) (old new : Seen Queue ℕ) → new ≡ old → Moved n old new
left n old new is =
    subst (λ (s : Seen Queue ℕ). Moved n old s) (sym is)
    (unmoved n (Settles n old.view.standing) (traces_in old) old.view.standing (inl (stays n old.view.standing)))

abbrev MovedMoment : ℕ → Moment ℕ → Moment ℕ → Type 0
MovedMoment n old new = Moves n (Settles n old.standing) old.traces new.traces new.standing

left_moment : (n : ℕ) (old new : Moment ℕ) → new ≡ old → MovedMoment n old new
left_moment n old new is =
    subst (λ (m : Moment ℕ). MovedMoment n old m) (sym is)
    (unmoved n (Settles n old.standing) old.traces old.standing (inl (stays n old.standing)))

module _ {T : Type 0} (n : ℕ) (g : Given) (u : Meaning) (own : Option PlainSliceSegmentHeader) (behind : State)
    (old new : Moment ℕ) (once : pending n old.standing ≤ 1) where
  acts : (result : Result T DecodeError) → Acts result g u own behind old new → MovedMoment n old new
  acts result a = taken n g old.traces new.traces u old.standing new.standing once result a.part

  takes_in : (result : Result T DecodeError) → TakesIn result g u own behind old new → MovedMoment n old new
  takes_in (Err errors.NoMemory) (inl is) = left_moment n old new is
  takes_in (Err errors.NoMemory) (inr a) = acts (Err errors.NoMemory) a
  takes_in (Ok value) a = acts (Ok value) a
  takes_in (Err errors.NoNal) a = acts (Err errors.NoNal) a
  takes_in (Err errors.CheckEvents) a = acts (Err errors.CheckEvents) a
  takes_in (Err (errors.NotEnoughOutputBuffers frames)) a = acts (Err (errors.NotEnoughOutputBuffers frames)) a
  takes_in (Err errors.PictureNumbersSpent) a = acts (Err errors.PictureNumbersSpent) a
  takes_in (Err errors.TruncatedNalu) a = acts (Err errors.TruncatedNalu) a
  takes_in (Err (errors.InvalidNaluType number)) a = acts (Err (errors.InvalidNaluType number)) a
  takes_in (Err errors.OutOfBits) a = acts (Err errors.OutOfBits) a
  takes_in (Err (errors.OutOfRange table row)) a = acts (Err (errors.OutOfRange table row)) a
  takes_in (Err (errors.MissingPps id)) a = acts (Err (errors.MissingPps id)) a
  takes_in (Err errors.NoIndependentSlice) a = acts (Err errors.NoIndependentSlice) a
  takes_in (Err (errors.ChangedMidPicture accepted named)) a = acts (Err (errors.ChangedMidPicture accepted named)) a
  takes_in (Err errors.PocOutOfRange) a = acts (Err errors.PocOutOfRange) a
  takes_in (Err errors.DpbFull) a = acts (Err errors.DpbFull) a
  takes_in (Err errors.Backend) a = acts (Err errors.Backend) a

module _ {T : Type 0} (n timestamp : ℕ) (options : Options) (bytes : List ℕ) (result : Result T DecodeError) where
  steps_in : (header : UnitHeader) (old new : Seen Queue ℕ) → pending n old.view.standing ≤ 1
      → StepsIn result timestamp options header bytes old new → Moved n old new
  steps_in header old new once s = by_test (is_awaited old.view.state) refl
    where
      by_test : (b : Bool) → is_awaited old.view.state ≡ b → Moved n old new
      by_test true is = left n old new (s.awaited is).1
      by_test false is = takes_in n _ _ _ _
          (moment_of old.log old.handed old.asked old.view) (moment_of new.log new.handed new.asked new.view) once
          result (s.taken is).takes

  -- where decoding goes on again only the context of the next picture is another
  from_found : (b : Bool) (old new : Seen Queue ℕ) → Moved n (found b old) new → Moved n old new
  from_found true old new m = record {
    calls = m.calls;
    log = m.log;
    out = m.out;
    queue = m.queue;
    done = m.done;
    hides = m.hides;
    shows = m.shows;
    settles = by_part m.settles;
  }
    where
      by_part : Settles n (found true old).view.standing (record { events = m.done; next = new.view.standing })
          → Settles n old.view.standing (record { events = m.done; next = new.view.standing })
      by_part (inl s) = inl (record { number = s.number; sum = s.sum })
      by_part (inr s) = inr (record { number = s.number; sum = s.sum })
  from_found false old new m = m

  found_once : (b : Bool) (old : Seen Queue ℕ) → pending n old.view.standing ≤ 1
      → pending n (found b old).view.standing ≤ 1
  found_once true old once = once
  found_once false old once = once

  sought : (seeking : Bool) (header : UnitHeader) (old new : Seen Queue ℕ) → pending n old.view.standing ≤ 1
      → Sought result timestamp options seeking header bytes old new → Moved n old new
  sought seeking header old new once s = by_test (is_passed seeking header) refl
    where
      by_test : (b : Bool) → is_passed seeking header ≡ b → Moved n old new
      by_test true is = left n old new (s.passed is).1
      by_test false is =
          from_found (is_found seeking header) old new
          (steps_in header (found (is_found seeking header) old) new
          (found_once (is_found seeking header) old once) (s.taken is))

  behind_header : (header : Result UnitHeader HeaderFault) (seeking : Bool) (old new : Seen Queue ℕ)
      → pending n old.view.standing ≤ 1
      → SoughtBehind header result timestamp options seeking bytes old new → Moved n old new
  behind_header (Err fault) seeking old new once s = left n old new s.1
  behind_header (Ok header) seeking old new once s = sought seeking header old new once s

first_decoded : {T : Type 0} (n timestamp : ℕ) (options : Options) (us : List NalUnit) (result : Result T DecodeError)
    (seeking : Bool) (old new : Seen Queue ℕ) → pending n old.view.standing ≤ 1
    → DecodesFirst us result timestamp options seeking old new → Moved n old new
first_decoded n timestamp options [] result seeking old new once d = left n old new d.1
first_decoded n timestamp options (u ∷ others) result seeking old new once d =
    behind_header n timestamp options u.bytes result (unit_header u.bytes) seeking old new once d

none_told : (n told : ℕ) (t : Telling) → Stands n told t → Stands n (told + 0) t
none_told n told t h = let s = h.sum in record { made = h.made; few = h.few; sum = omega (arith, s) }

decoded : (n told : ℕ) (bytes : List ℕ) (before now : PullDecoder) (given told_call : DecodeCall) (status : ℕ)
    → Stands n told (telling before) → Decodes bytes before now given told_call status
    → Stands n told (telling now)
decoded n told bytes before now given told_call status h (inl d) =
    settled n told given.timestamp (telling before) (telling now)
    (traces_in (with_free_frames given.free_frames (seen_of before))) (traces_in (seen_of now)) h refl refl refl refl
    d.keeps.taken d.counts.counted
    (first_decoded n given.timestamp (options_for before) (units bytes) d.answer before.seeking
    (with_free_frames given.free_frames (seen_of before)) (seen_of now) (pending_once n told (telling before) h) d.takes)
decoded n told bytes before now given told_call status h (inr d) =
    subst (λ (p : PullDecoder). Stands n told (telling p)) (sym d.2) h

-- ---- the other calls

left_stream : (n told : ℕ) (answer : Result (Unit {0}) DecodeError) (before now : PullDecoder)
    → Stands n told (telling before) → IsFlushed answer before now → Stands n told (telling now)
left_stream n told answer before now h f =
    spent n told (telling before) (telling now) (pulled_traces before) (pulled_traces now) h refl refl refl refl
    f.keeps.taken (ap (λ c. c.items) f.counted)
    (flushed n (pulled_traces before) (pulled_traces now) (view_in before).state (view_in before).standing
    (view_in now).standing (pending_once n told (telling before) h) answer f.flushes)

state_other : (s : State) → is_awaited s ≡ false → s ≡ AwaitingFormat → ⊥
state_other s h is = let k : is_awaited s ≡ true = ap is_awaited is in absurd (cc (h, k))

state_is : (s : State) → is_awaited s ≡ true → s ≡ AwaitingFormat
state_is AwaitingFormat h = refl
state_is AwaitingStreamInfo h = absurd (cc h)
state_is Decoding h = absurd (cc h)
state_is Reset h = absurd (cc h)

accepted : (n told status : ℕ) (before now : PullDecoder) → Stands n told (telling before)
    → Accepts before now status → Stands n told (telling now)
accepted n told status before now h a = by_test (is_awaited (view_in before).state) refl
  where
    by_test : (b : Bool) → is_awaited (view_in before).state ≡ b → Stands n told (telling now)
    by_test true is =
        subst (λ (t : Telling). Stands n told t) (sym (a.accepted (state_is (view_in before).state is)).1)
        (record { made = h.made; few = h.few; sum = h.sum })
    by_test false is =
        subst (λ (p : PullDecoder). Stands n told (telling p))
        (sym (a.refused (state_other (view_in before).state is)).1) h

-- ---- a run

step : (n told : ℕ) (s : Step) (before now : PullDecoder) → Stands n told (telling before) → Does s before now
    → Stands n (told + times n (end_told s)) (telling now)
step n told (GivenUnit bytes) before now h d =
    none_told n told (telling now) (decoded n told bytes before now d.0 d.1 d.2 h d.3)
step n told (Taken what) before now h d = pulled n told what (telling before) (telling now) h d
step n told Accepted before now h d = none_told n told (telling now) (accepted n told d.0 before now h d.1)
step n told Flushed before now h d =
    none_told n told (telling now) (left_stream n told d.1.answer before now h d.1.flushed)
step n told SoughtNext before now h d =
    none_told n told (telling now) (left_stream n told d.1.answer before now h d.1.flushed)

more : (n told a b : ℕ) (t : Telling) → Stands n (told + a + b) t → Stands n (told + (a + b)) t
more n told a b t h = let s = h.sum in record { made = h.made; few = h.few; sum = omega (arith, s) }

run : (n told : ℕ) (steps : List Step) (before now : PullDecoder) → Stands n told (telling before)
    → Runs steps before now → Stands n (told + times_told n steps) (telling now)
run n told [] before now h r =
    subst (λ (p : PullDecoder). Stands n (told + 0) (telling p)) (sym r) (none_told n told (telling before) h)
run n told (s ∷ steps) before now h r =
    more n told (times n (end_told s)) (times_told n steps) (telling now)
    (run n (told + times n (end_told s)) steps r.0 now (step n told s before r.0 h r.1) r.2)

whole : (steps : List Step) (first now : PullDecoder) → telling first ≡ nothing_to_tell → Runs steps first now
    → (n : ℕ) → Stands n (times_told n steps) (telling now)
whole steps first now is r n =
    let h = run n 0 steps first now (at_first n (telling first) is) r in
    let s = h.sum in
    record { made = h.made; few = h.few; sum = omega (arith, s) }

pub never_twice : (steps : List Step) (first now : PullDecoder) → telling first ≡ nothing_to_tell
    → Runs steps first now → (n : ℕ) → times_told n steps ≤ one (nat_lt n (view_in now).standing.next.number)
never_twice steps first now is r n = let s = (whole steps first now is r n).sum in omega (arith, s)

pub all_are_told : (steps : List Step) (first now : PullDecoder) → telling first ≡ nothing_to_tell
    → Runs steps first now → PullsNext None (telling now) (telling now) → (n : ℕ)
    → is_coming (view_in now).standing n ≡ false
    → times_told n steps ≡ one (nat_lt n (view_in now).standing.next.number)
all_are_told steps first now is r none n over =
    let s = (whole steps first now is r n).sum in
    let k = none_due n (view_in now).standing now.counted.items none.1 over in
    omega (arith, s, k)

-- ---- the end of a stream

pub none_after : (before now : PullDecoder) (value : Unit {0}) → IsFlushed (Ok value) before now → (n : ℕ)
    → is_coming (view_in now).standing n ≡ false
none_after before now value f n = by_test (is_awaited (view_in before).state) (f.flushes nothing_given).left
  where
    by_test : (b : Bool) → (view_in now).standing
        ≡ cond b (forgotten (closes (view_in before).standing).next) (closes (view_in before).standing).next
        → is_coming (view_in now).standing n ≡ false
    by_test true is = subst (λ (s : Standing). is_coming s n ≡ false) (sym is) refl
    by_test false is = subst (λ (s : Standing). is_coming s n ≡ false) (sym is) refl
