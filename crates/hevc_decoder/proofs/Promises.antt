-- From a whole run to what is promised of it.
use Rattle.std.proofs.Common.{◌≡◌, ℕ, ◌+◌, ◌-◌, ◌^◌, ◌≤◌, ◌<◌, List, [], ◌∷◌, ◌++◌, map, length}
use Rattle.std.proofs.Common.{refl, sym, ◌∙◌, ap, subst, append_assoc, arith, Option, Some, None}
use Rattle.std.proofs.Common.{Result, Ok, Err}
use Rattle.std.specs.Prelude.{OnOk, IfErr, Contains}
use Rattle.std.specs.List.{AllByRecursion}
use Rattle.std.proofs.lemmas.List.{map-append, append-nil}
use Rattle.hevc_walk.specs.Meanings.{Meaning}
use Rattle.hevc_walk.specs.Pictures.{pictures}
use Rattle.hevc_walk.specs.Walk as walk
use Rattle.hevc_walk.specs.Walk.{Event, Called, Output}
use Rattle.hevc_walk.specs.Refusals.{Refusal, stop}
use Rattle.hevc_walk.specs.Results.{OutputPicture, calls_below, calls_in, outputs_in, calls}
use Rattle.hevc_walk.specs.Results.{outputs, verdict, full, full_or, stop_or}
use Rattle.hevc_walk.specs.Fates.{times, output_numbers}
use Rattle.hevc_walk.specs.Clean.{IsClean}
use Rattle.hevc_walk_agree.proofs.Cuts.{calls_in-append, outputs_in-append}
use Rattle.hevc_walk_fates.specs.Submissions.{submitted_in, submitted_numbers}
use Rattle.hevc_walk_fates.proofs.Fates.{output_once, output_by_fate}
use Rattle.hevc_walk_fates.proofs.Submitted.{submitted_once}
use Rattle.hevc_walk_bound.proofs.Bound.{clean_ok, stores_few}
use Rattle.hevc_walk_order.specs.DisplayOrder.{ComeInOrder, ComeInTurn}
use Rattle.hevc_walk_order.proofs.Law.{law}
use Rattle.hevc_walk_order.proofs.Turns.{in_turn}
use Rattle.hevc_backend.specs.declared.call.Call.{Call}
use Rattle.hevc_backend.specs.declared.call.Call.TheVariants as code
use Rattle.hevc_driver.specs.declared.decode_error.DecodeError.{DecodeError}
use Rattle.hevc_driver.specs.declared.decode_error.DecodeError.TheVariants as errors
use Rattle.hevc_backend.specs.Trait.{Counts, Counted}
use Rattle.hevc_driver.specs.Answers.{CountsErrors, KeepsFaultless, IsNotOfBackend}
use Rattle.hevc_driver.specs.Calls.{call_of, IsTimed, submissions}
use Rattle.hevc_decoder.specs.Promise.{CountsNone, Told, IsHonest, Decodes}
use Rattle.hevc_driver.proofs.Members.{part_left}
use Rattle.hevc_stateless_laws.specs.Stands.{asked}
use Rattle.hevc_spec.specs.Units.{units}
use Rattle.hevc_stream.specs.Options.{Options}
use Rattle.hevc_stream.specs.Stream.{meanings}
use Rattle.hevc_decoder.specs.declared.decoded.Shown.{Shown}
use Rattle.hevc_decoder.specs.declared.decoded.Refused.{Refused}
use Rattle.hevc_decoder.specs.Answers.{without_unit, IsAnswer, AnswersOnly, IsNoMemory}
use Rattle.hevc_decoder.specs.Answers.{IsOkOrNoMemory, IsNoFullStore, FindsRoom}
use Rattle.hevc_decoder.specs.Names.{output_picture, shown_ticket, answer_of}
use Rattle.std.specs.List.{flat_map}
use Rattle.std.specs.Prelude.{take}
use Rattle.std.proofs.Math.Seq.{take-append_seam}
use Rattle.std.proofs.lemmas.List.{length-map}
use Rattle.hevc_stateless.specs.Segments.{ReadUnit}
use Rattle.hevc_driver.specs.Given.{AreOneToOne, handed_by, call_with, handing_call}
use Rattle.hevc_stateless_laws.specs.Segments.{given_of, handed_over, read_units}
use Rattle.hevc_decoder.specs.Takes.{handed_at}
use Rattle.hevc_decoder.proofs.Pairing.{one_to_one}
use Rattle.hevc_decoder.specs.Scenes.{Trail}
use Rattle.hevc_decoder.specs.Cut.{EndsAt, Ends, IsCut}
use Rattle.hevc_decoder.specs.Runs.{Ended}
use Rattle.hevc_decoder.specs.Headline.{Grew, Appended, IsFront, all_asked, AnswersError}
use Rattle.hevc_decoder.specs.Headline.{AnswersVerdict, WantsFrame, AllSubmitted, SubmittedOnce}
use Rattle.hevc_decoder.specs.Headline.{shown_numbers, ComeOutOnce, AreForOutput}

times_both : (n : ℕ) (xs ys : List ℕ) → times n (xs ++ ys) ≡ times n xs + times n ys
times_both n [] ys = omega arith
times_both n (x ∷ xs) ys = let h = times_both n xs ys in omega arith

-- the numbers of the pictures that calls submit
abbrev numbers_asked : List walk.Call → List ℕ
numbers_asked [] = []
numbers_asked (walk.SubmitPicture n ∷ cs) = n ∷ numbers_asked cs
numbers_asked (walk.NewSequence info ∷ cs) = numbers_asked cs
numbers_asked (walk.NewPicture number t c o s ∷ cs) = numbers_asked cs
numbers_asked (walk.BeginPicture number set ∷ cs) = numbers_asked cs
numbers_asked (walk.DecodeSlice number address bytes list0 list1 ∷ cs) = numbers_asked cs

numbers_of_all : (cs : List (ℕ × walk.Call)) → submitted_in cs ≡ numbers_asked (all_asked cs)
numbers_of_all [] = refl
numbers_of_all ((k, walk.SubmitPicture n) ∷ cs) = ap (λ ns. n ∷ ns) (numbers_of_all cs)
numbers_of_all ((k, walk.NewSequence info) ∷ cs) = numbers_of_all cs
numbers_of_all ((k, walk.NewPicture number t c o s) ∷ cs) = numbers_of_all cs
numbers_of_all ((k, walk.BeginPicture number set) ∷ cs) = numbers_of_all cs
numbers_of_all ((k, walk.DecodeSlice number address bytes list0 list1) ∷ cs) = numbers_of_all cs

numbers_of_made : {H : Type 0} (cs : List (Call H)) → map (λ t. t.0) (submissions cs) ≡ numbers_asked (map call_of cs)
numbers_of_made [] = refl
numbers_of_made (code.SubmitPicture number handle ∷ cs) = ap (λ ns. number ∷ ns) (numbers_of_made cs)
numbers_of_made (code.NewSequence info ∷ cs) = numbers_of_made cs
numbers_of_made (code.NewPicture number t c o s ∷ cs) = numbers_of_made cs
numbers_of_made (code.BeginPicture number st_curr_before st_curr_after st_foll lt_curr lt_foll ∷ cs) =
    numbers_of_made cs
numbers_of_made (code.DecodeSlice number address bytes list0 list1 ∷ cs) = numbers_of_made cs

numbers_both : (cs ds : List walk.Call) → numbers_asked (cs ++ ds) ≡ numbers_asked cs ++ numbers_asked ds
numbers_both [] ds = refl
numbers_both (walk.SubmitPicture n ∷ cs) ds = ap (λ ns. n ∷ ns) (numbers_both cs ds)
numbers_both (walk.NewSequence info ∷ cs) ds = numbers_both cs ds
numbers_both (walk.NewPicture number t c o s ∷ cs) ds = numbers_both cs ds
numbers_both (walk.BeginPicture number set ∷ cs) ds = numbers_both cs ds
numbers_both (walk.DecodeSlice number address bytes list0 list1 ∷ cs) ds = numbers_both cs ds

numbers_shown : {H : Type 0} (os : List (Shown H)) → shown_numbers os ≡ map (λ o. o.number) (map output_picture os)
numbers_shown [] = refl
numbers_shown (o ∷ os) = ap (λ ns. o.number ∷ ns) (numbers_shown os)

-- a verdict without a refusal
full_refused : (f : Option ℕ) (s : Option Refusal) (n m : ℕ)
    → answer_of (full_or f (stop_or s (Ok n))) ≡ Ok m → s ≡ None
full_refused (Some k) s n m e = absurd (cc e)
full_refused None (Some r) n m e = absurd (cc e)
full_refused None None n m e = refl

-- the clauses of a run
module _ {H : Type 0} (us : List Meaning) (ss : List ReadUnit) (r : Result ℕ Refused) (old new : Trail H)
    (x : Ended r us ss old new) where
  calls_are : calls us ≡ calls_in x.done ++ calls_in x.rest
  calls_are = ap calls_in x.whole ∙ calls_in-append x.done x.rest

  outputs_are : outputs us ≡ outputs_in x.done ++ outputs_in x.rest
  outputs_are = ap outputs_in x.whole ∙ outputs_in-append x.done x.rest

  asked_are : all_asked (calls us) ≡ map call_of x.does.calls ++ all_asked (calls_in x.rest)
  asked_are = ap all_asked calls_are ∙ map-append asked (calls_in x.done) (calls_in x.rest)
      ∙ ap (λ l. l ++ all_asked (calls_in x.rest)) (sym x.does.made)

  given_are : outputs us ≡ map output_picture x.does.out ++ outputs_in x.rest
  given_are = outputs_are ∙ ap (λ l. l ++ outputs_in x.rest) (sym x.does.given)

  pub calls_of : Grew old.log new.log (λ l. IsFront (map call_of l) (all_asked (calls us)))
  calls_of = (x.does.calls, x.does.log, (all_asked (calls_in x.rest), asked_are))

  pub outputs_of : Appended old.shown new.shown (λ o. IsFront (map output_picture o) (outputs us))
  outputs_of = (x.does.out, x.does.shown, (outputs_in x.rest, given_are))

  all_given : x.rest ≡ [] → map output_picture x.does.out ≡ outputs us
  all_given none =
      sym (given_are ∙ ap (λ es. map output_picture x.does.out ++ outputs_in es) none
      ∙ append-nil (map output_picture x.does.out))

  answers_at : (e : DecodeError) (s : Refused) → EndsAt e s us x.done x.rest → AnswersError e s (verdict us)
  answers_at errors.Backend s y = tt
  answers_at errors.NoMemory s y = tt
  answers_at (errors.NotEnoughOutputBuffers frames) s y = tt
  answers_at errors.NoNal s y = absurd y
  answers_at errors.CheckEvents s y = absurd y
  answers_at errors.PictureNumbersSpent s y = absurd y
  answers_at e s y = y.0

  answers_by : (q : Result ℕ Refused) → Ends q us x.done x.rest → AnswersVerdict q (verdict us)
  answers_by (Ok n) y = y.0
  answers_by (Err s) y = answers_at s.error s y

  pub answer_is : AnswersVerdict r (verdict us)
  answer_is = answers_by r x.ends

  only_at : (e : DecodeError) (s : Refused) → EndsAt e s us x.done x.rest → IsAnswer e
  only_at errors.NoNal s y = y
  only_at errors.CheckEvents s y = y
  only_at errors.PictureNumbersSpent s y = y
  only_at (errors.NotEnoughOutputBuffers frames) s y = y.0
  only_at e s y = tt

  only_by : (q : Result ℕ Refused) → Ends q us x.done x.rest → AnswersOnly q
  only_by (Ok n) y = tt
  only_by (Err s) y = only_at s.error s y

  pub answers_only_of : AnswersOnly r
  answers_only_of = only_by r x.ends

  frames_at : (e : DecodeError) (s : Refused) → EndsAt e s us x.done x.rest → WantsFrame e s.unit us
  frames_at (errors.NotEnoughOutputBuffers frames) s y = y.1
  frames_at e s y = tt

  frames_by : (q : Result ℕ Refused) → Ends q us x.done x.rest → IfErr q (λ s. WantsFrame s.error s.unit us)
  frames_by (Ok n) y = tt
  frames_by (Err s) y = frames_at s.error s y

  pub frames_of : IfErr r (λ s. WantsFrame s.error s.unit us)
  frames_of = frames_by r x.ends

  pub cut_of : IsCut r us old.log new.log old.shown new.shown
  cut_of = record {
    done = x.done;
    rest = x.rest;
    whole = x.whole;
    made = (x.does.calls, x.does.log, x.does.made);
    given = (x.does.out, x.does.shown, x.does.given);
    ends = x.ends;
  }

  -- with these calls came what comes with their units
  handed_done : (es : List (ℕ × Event)) → flat_map (handed_at (given_of us ss)) es ≡ handed_over us ss (calls_in es)
  handed_done [] = refl
  handed_done ((k, Called c) ∷ es) = ap (λ l. handed_by (given_of us ss k) c ++ l) (handed_done es)
  handed_done ((k, Output number order_count) ∷ es) = handed_done es

  many : length x.does.calls ≡ length (calls_in x.done)
  many = sym (length-map x.does.calls call_of) ∙ ap (λ l. length l) x.does.made ∙ length-map (calls_in x.done) asked

  made_first : take (length x.does.calls) (calls us) ≡ calls_in x.done
  made_first = ap (λ (n : ℕ). take n (calls us)) many ∙ ap (take (length (calls_in x.done))) calls_are
      ∙ take-append_seam (calls_in x.done) (calls_in x.rest)

  pub handed_of : Grew old.handed new.handed
      (λ hs. Grew old.log new.log (λ l. hs ≡ handed_over us ss (take (length l) (calls us))))
  handed_of = (
    flat_map (handed_at (given_of us ss)) x.done,
    x.does.handed,
    (x.does.calls, x.does.log, handed_done x.done ∙ ap (handed_over us ss) (sym made_first)),
  )

  -- and one to one with them, where what comes with the first calls of all does
  asked_calls : (cs : List (ℕ × walk.Call)) → flat_map handing_call (map asked cs) ≡ flat_map (λ c. handing_call c.1) cs
  asked_calls [] = refl
  asked_calls (c ∷ cs) = ap (λ l. handing_call c.1 ++ l) (asked_calls cs)

  pub one_to_one_of : ((n : ℕ) → map call_with (handed_over us ss (take n (calls us))) ≡ flat_map
      (λ c. handing_call c.1) (take n (calls us)))
      → Grew old.handed new.handed (λ hs. Grew old.log new.log (λ l. AreOneToOne hs (map call_of l)))
  one_to_one_of paired = (
    flat_map (handed_at (given_of us ss)) x.done,
    x.does.handed,
    (
      x.does.calls,
      x.does.log,
      ap (λ hs. map call_with hs) (handed_done x.done ∙ ap (handed_over us ss) (sym made_first))
          ∙ paired (length x.does.calls)
          ∙ ap (λ (cs : List (ℕ × walk.Call)). flat_map (λ (c : ℕ × walk.Call). handing_call c.1) cs) made_first
          ∙ sym (asked_calls (calls_in x.done)) ∙ ap (λ cs. flat_map handing_call cs) (sym x.does.made),
    ),
  )

  pub handles_of : old.tickets ≡ [] → Grew old.log new.log (λ l. Appended old.shown new.shown (λ o. AllSubmitted l o))
  handles_of empty = (
    x.does.calls,
    x.does.log,
    (
      x.does.out,
      x.does.shown,
      λ t h. subst (λ (ts : List (ℕ × H)). Contains (ts ++ submissions x.does.calls) t) empty
          (x.does.tied t (part_left t (map shown_ticket x.does.out) new.tickets h)),
    ),
  )

  pub submitted_once_of : Grew old.log new.log (λ l. SubmittedOnce l)
  submitted_once_of = (
    x.does.calls,
    x.does.log,
    λ n.
        let once : times n (submitted_numbers us) ≤ 1 = submitted_once us n in
        let are : submitted_numbers us ≡ map (λ t. t.0) (submissions x.does.calls)
        ++ numbers_asked (all_asked (calls_in x.rest))
        = numbers_of_all (calls us) ∙ ap numbers_asked asked_are
        ∙ numbers_both (map call_of x.does.calls) (all_asked (calls_in x.rest))
        ∙ ap (λ ns. ns ++ numbers_asked (all_asked (calls_in x.rest))) (sym (numbers_of_made x.does.calls)) in
        let both : times n (submitted_numbers us) ≡ times n
        (map (λ t. t.0) (submissions x.does.calls)) + times n (numbers_asked (all_asked (calls_in x.rest)))
        = ap (times n) are ∙ times_both n (map (λ t. t.0) (submissions x.does.calls))
        (numbers_asked (all_asked (calls_in x.rest))) in
        omega arith,
  )

  numbers_are : output_numbers us ≡ shown_numbers x.does.out ++ map (λ o. o.number) (outputs_in x.rest)
  numbers_are = ap (map (λ o. o.number)) given_are ∙ map-append
      (λ (o : OutputPicture). o.number) (map output_picture x.does.out) (outputs_in x.rest)
      ∙ ap (λ ns. ns ++ map (λ o. o.number) (outputs_in x.rest)) (sym (numbers_shown x.does.out))

  pub once_of : Appended old.shown new.shown (λ o. ComeOutOnce o)
  once_of = (
    x.does.out,
    x.does.shown,
    λ n.
        let once : times n (output_numbers us) ≤ 1 = output_once us n in
        let both : times n (output_numbers us) ≡ times n (shown_numbers x.does.out) + times n
        (map (λ o. o.number) (outputs_in x.rest))
        = ap (times n) numbers_are
        ∙ times_both n (shown_numbers x.does.out) (map (λ o. o.number) (outputs_in x.rest)) in
        omega arith,
  )

  stops_none : (m : ℕ) → answer_of (verdict us) ≡ Ok m → stop us ≡ None
  stops_none m e = full_refused (full us) (stop us) (length (pictures us)) m e

  fates_by : (q : Result ℕ Refused) → Ends q us x.done x.rest
      → OnOk q (Appended old.shown new.shown (λ o. AreForOutput us o))
  fates_by (Ok m) y = (
    x.does.out,
    x.does.shown,
    λ n.
        ap (times n)
        (sym (numbers_are ∙ ap (λ es. shown_numbers x.does.out ++ map (λ o. o.number) (outputs_in es)) y.1
        ∙ append-nil (shown_numbers x.does.out)))
        ∙ output_by_fate us (stops_none m y.0) n,
  )
  fates_by (Err s) y = tt

  pub fates_of : OnOk r (Appended old.shown new.shown (λ o. AreForOutput us o))
  fates_of = fates_by r x.ends

  order_by : (P : List OutputPicture → Type 0) → (stop us ≡ None → P (outputs us)) → (q : Result ℕ Refused)
      → Ends q us x.done x.rest → OnOk q (Appended old.shown new.shown (λ o. P (map output_picture o)))
  order_by P holds (Ok m) y = (x.does.out, x.does.shown, subst P (sym (all_given y.1)) (holds (stops_none m y.0)))
  order_by P holds (Err s) y = tt

  pub in_turn_of : OnOk r (Appended old.shown new.shown (λ o. ComeInTurn us (map output_picture o)))
  in_turn_of = order_by (ComeInTurn us) (λ none. in_turn us none) r x.ends

  pub display_order_of : OnOk r (Appended old.shown new.shown (λ o. ComeInOrder us (map output_picture o)))
  display_order_of = order_by (ComeInOrder us) (λ none. law us none) r x.ends

  not_ok : (n : ℕ) (s : Refused) → verdict us ≡ Ok n → answer_of (verdict us) ≡ Err s → ⊥
  not_ok n s is refused = cc (sym (ap answer_of is) ∙ refused)

  completes_at : (n : ℕ) (e : DecodeError) (s : Refused) → verdict us ≡ Ok n
      → IsNotOfBackend {T = ℕ} (Err e) → EndsAt e s us x.done x.rest → IsNoMemory e
  completes_at n errors.Backend s is fine y = absurd (fine tt)
  completes_at n (errors.NotEnoughOutputBuffers frames) s is fine y = absurd (fine tt)
  completes_at n errors.NoMemory s is fine y = tt
  completes_at n errors.NoNal s is fine y = absurd y
  completes_at n errors.CheckEvents s is fine y = absurd y
  completes_at n errors.PictureNumbersSpent s is fine y = absurd y
  completes_at n e s is fine y = absurd (not_ok n s is y.0)

  completes_by : (n : ℕ) (q : Result ℕ Refused) → verdict us ≡ Ok n → IsNotOfBackend (without_unit q)
      → Ends q us x.done x.rest → IsOkOrNoMemory q
  completes_by n (Ok m) is fine y = tt
  completes_by n (Err s) is fine y = completes_at n s.error s is fine y

  pub completes : (n : ℕ) → verdict us ≡ Ok n → IsNotOfBackend (without_unit r) → IsOkOrNoMemory r
  completes n is fine = completes_by n r is fine x.ends

  pub completes_clean : IsClean us → IsNotOfBackend (without_unit r) → IsOkOrNoMemory r
  completes_clean clean fine = completes (length (pictures us)) (clean_ok us clean) fine

  room_at : (e : DecodeError) (s : Refused) → verdict us ≡ Ok (length (pictures us))
      → EndsAt e s us x.done x.rest → IsNoFullStore e
  room_at errors.DpbFull s is y = not_ok (length (pictures us)) s is y.0
  room_at e s is y = tt

  room_by : (q : Result ℕ Refused) → verdict us ≡ Ok (length (pictures us)) → Ends q us x.done x.rest → FindsRoom q
  room_by (Ok m) is y = tt
  room_by (Err s) is y = room_at s.error s is y

  pub room_of : IsClean us → FindsRoom r
  room_of clean = room_by r (clean_ok us clean) x.ends

  pub timestamps_of : Grew old.log new.log (λ l. AllByRecursion (IsTimed 0) l)
  timestamps_of = (x.does.calls, x.does.log, x.does.timed)

-- a count that is what it was, and could have risen, has not risen
not_risen : (n m : ℕ) → m ≡ n → n < 2 ^ 64 - 1 → Counted n m → ⊥
not_risen n m same less risen = let r = risen.1 in omega (arith, same, less, r)

-- a backend that counted nothing isn't blamed
pub blames_none : (before now : Counts) (q : Result ℕ DecodeError) → CountsErrors before now q
    → CountsNone before now → IsNotOfBackend q
blames_none before now (Ok n) cause none = tt
blames_none before now (Err errors.Backend) cause none =
    λ _. not_risen before.faults now.faults (ap (λ (c : Counts). c.faults) none.same) none.faults cause.0
blames_none before now (Err (errors.NotEnoughOutputBuffers frames)) cause none =
    λ _. not_risen before.empty_answers now.empty_answers
    (ap (λ (c : Counts). c.empty_answers) none.same) none.empty_answers cause.0
blames_none before now (Err e) cause none = λ h. h

-- what a whole run promises
module _ {H : Type 0} (before now : Told H) (r : Result ℕ Refused)
    (cause : CountsErrors before.counts now.counts (without_unit r))
    (faultless : KeepsFaultless before.is_faultless now.is_faultless (without_unit r)) where
  abbrev first_trail : Trail H
  first_trail = record { log = before.log; handed = before.handed; shown = before.shown; tickets = [] }

  abbrev last_trail : List (ℕ × H) → Trail H
  last_trail tickets = record { log = now.log; handed = now.handed; shown = now.shown; tickets = tickets }

  pub honest_of : (us : List Meaning) (ss : List ReadUnit) (tickets : List (ℕ × H))
      → Ended r us ss first_trail (last_trail tickets) → IsHonest before now r
  honest_of us ss tickets x = record {
    answers_only = answers_only_of us ss r first_trail (last_trail tickets) x;
    handles = handles_of us ss r first_trail (last_trail tickets) x refl;
    submitted_once = submitted_once_of us ss r first_trail (last_trail tickets) x;
    once = once_of us ss r first_trail (last_trail tickets) x;
    timestamps = timestamps_of us ss r first_trail (last_trail tickets) x;
    cause = cause;
    faultless = faultless;
  }

  pub decodes_of : (o : Options) (s : List ℕ) (tickets : List (ℕ × H))
      → Ended r (meanings o s) (read_units o s) first_trail (last_trail tickets)
      → IfErr r (λ refused. refused.unit ≤ length (units s)) → Decodes o s before now r
  decodes_of o s tickets x within =
      let us = meanings o s in
      let ss = read_units o s in
      let begin = first_trail in
      let end = last_trail tickets in
      record {
        calls = calls_of us ss r begin end x;
        outputs = outputs_of us ss r begin end x;
        answer = answer_is us ss r begin end x;
        cut = cut_of us ss r begin end x;
        handed = handed_of us ss r begin end x;
        one_to_one = one_to_one_of us ss r begin end x (one_to_one o (units s));
        unit = within;
        frames = frames_of us ss r begin end x;
        fates = fates_of us ss r begin end x;
        in_turn = in_turn_of us ss r begin end x;
        display_order = display_order_of us ss r begin end x;
        complete = λ n is none. completes us ss r begin end x n is
            (blames_none before.counts now.counts (without_unit r) cause none);
        clean = λ is none. completes_clean us ss r begin end x is
            (blames_none before.counts now.counts (without_unit r) cause none);
        complete_over_faultless = λ n is never. completes us ss r begin end x n is (faultless never).1;
        clean_over_faultless = λ is never. completes_clean us ss r begin end x is (faultless never).1;
        stores_few = stores_few us;
        room = room_of us ss r begin end x;
        honest = honest_of us ss tickets x;
      }
