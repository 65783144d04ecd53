-- What is written of the calls and the outputs is the report on the stream.
use Rattle.std.proofs.Common.{◌≡◌, ℕ, suc, ◌+◌, ◌<◌, Bool, true, false, cond, nat_lt, nat_eq, List}
use Rattle.std.proofs.Common.{[], ◌∷◌, ◌++◌, map, length, take, codes, decimal, Option, None, Some}
use Rattle.std.proofs.Common.{IfSome, Result, Ok, Err, refl, sym, ap, ap₂, subst, ◌∙◌, is_ok, arith}
use Rattle.std.proofs.Common.{append_assoc, append-nil, length-append}
use Rattle.std.proofs.lemmas.List.{map-append}
use Rattle.std.proofs.lemmas.List.Elements.{filter-append}
use Rattle.std.proofs.lemmas.Bool.Decides.{nat_tests}
use Rattle.std.specs.Prelude.{ℤ}
use Rattle.std.specs.List.{flat_map, range_with_len}
use Rattle.hevc_backend.specs.declared.call.Call.{Call}
use Rattle.hevc_backend.specs.declared.call.Call.TheVariants.{NewSequence, NewPicture, BeginPicture}
use Rattle.hevc_backend.specs.declared.call.Call.TheVariants.{DecodeSlice, SubmitPicture}
use Rattle.hevc_backend.specs.Handles.{handles, AreCounted}
use Rattle.hevc_backend.specs.Trait.{logged}
use Rattle.hevc_walk.specs.Meanings.{Meaning}
use Rattle.hevc_walk.specs.Results.{OutputPicture, events, calls, outputs, verdict, calls_in}
use Rattle.hevc_walk.specs.Results.{outputs_in, calls_below, calls_of_unit}
use Rattle.hevc_walk.specs.Walk as walk
use Rattle.hevc_walk.specs.Walk.{Event, Called}
use Rattle.hevc_walk_agree.proofs.Cuts.{calls_in-append, outputs_in-append}
use Rattle.hevc_stream.specs.Options.{Options, default_options}
use Rattle.hevc_stream.specs.Stream.{meanings}
use Rattle.hevc_driver.specs.declared.decode_error.DecodeError.{DecodeError}
use Rattle.hevc_driver.specs.declared.decode_error.DecodeError.TheVariants as errors
use Rattle.hevc_driver.specs.Answers.{IsOfBackend, IsNotOfBackend}
use Rattle.hevc_driver.specs.Calls.{call_of}
use Rattle.hevc_decoder.specs.declared.decoded.Shown.{Shown}
use Rattle.hevc_decoder.specs.declared.decoded.Refused.{Refused}
use Rattle.hevc_decoder.specs.Answers.{IsNoMemory, IsOkOrNoMemory, without_unit}
use Rattle.hevc_decoder.specs.Cut.{IsVerdict, Fills, EndsAt, Ends, IsCut}
use Rattle.hevc_decoder.specs.Headline.{all_asked}
use Rattle.hevc_decoder.specs.Names.{output_picture, answer_of}
use Rattle.hevc_report.specs.Lines.{log_line, rest_text, shown_line, shown_counts, summary_text, text_of}
use Rattle.hevc_report.specs.Report.{calls_text, submission_line, output_line, cause_text}
use Rattle.hevc_report.specs.Report.{last_line, ending_of, calls_made, outputs_given, text_for}
use Rattle.hevc_report.specs.Report.{report_of}
use Rattle.hevc_report.specs.Status.{WantsMemory}
use Rattle.hevc_report.specs.Summary.{lowest, highest, falls, counts_text, numbers_line}
use Rattle.hevc_report.specs.Summary.{summary_for, summary_line, summary_of}

first_is : (a b : ℕ) (xs ys : List ℕ) → a ∷ xs ≡ b ∷ ys → a ≡ b
first_is a b xs ys e = cc e

rest_is : (a b : ℕ) (xs ys : List ℕ) → a ∷ xs ≡ b ∷ ys → xs ≡ ys
rest_is a b xs ys e = cc e

-- the handles that are written are those of a log whose handles are counted
pub log_text : (h : ℕ) (log : List (Call ℕ)) → handles log ≡ range_with_len h (length (handles log))
    → flat_map log_line log ≡ calls_text h (map call_of log)
log_text h [] e = refl
log_text h (NewSequence info ∷ log) e = ap (λ t. log_line (NewSequence info) ++ t) (log_text h log e)
log_text h (NewPicture number nalu_type order_count output timestamp ∷ log) e =
    ap (λ t. log_line (NewPicture number nalu_type order_count output timestamp) ++ t) (log_text h log e)
log_text h (BeginPicture number st_curr_before st_curr_after st_foll lt_curr lt_foll ∷ log) e = log_text h log e
log_text h (DecodeSlice number address bytes list0 list1 ∷ log) e =
    ap (λ t. log_line (DecodeSlice number address bytes list0 list1) ++ t) (log_text h log e)
log_text h (SubmitPicture number handle ∷ log) e =
    let same : handle ≡ h = first_is _ _ _ _ e in
    ap₂ (λ k t. submission_line number k ++ t) same (log_text (h + 1) log (rest_is _ _ _ _ e))

pub shown_text : (shown : List (Shown ℕ)) → flat_map shown_line shown ≡ flat_map output_line (map output_picture shown)
shown_text [] = refl
shown_text (output ∷ shown) = ap (λ t. shown_line output ++ t) (shown_text shown)

same_counts : (shown : List (Shown ℕ)) → shown_counts shown ≡ map (λ o. o.order_count) (map output_picture shown)
same_counts [] = refl
same_counts (output ∷ shown) = ap (λ t. output.order_count ∷ t) (same_counts shown)

pub shown_length : (shown : List (Shown ℕ)) → length shown ≡ length (map output_picture shown)
shown_length [] = refl
shown_length (output ∷ shown) = ap (λ n. suc n) (shown_length shown)

-- ---- a full buffer

not_equal : (a k : ℕ) → nat_lt a k ≡ true → nat_eq a k ≡ false
not_equal a k e = grind (arith, nat_tests)

-- a call before unit k is none of unit k
below_is_other : (k : ℕ) (c : ℕ × walk.Call) (cs : List (ℕ × walk.Call)) (b : Bool) → nat_lt c.0 k ≡ b
    → calls_of_unit k cs ≡ []
    → calls_of_unit k (cond b (c ∷ cs) cs) ≡ []
below_is_other k c cs true e h = rw (not_equal c.0 k e) h
below_is_other k c cs false e h = h

none_below : (k : ℕ) (cs : List (ℕ × walk.Call)) → calls_of_unit k (calls_below k cs) ≡ []
none_below k [] = refl
none_below k (c ∷ cs) = below_is_other k c (calls_below k cs) (nat_lt c.0 k) refl (none_below k cs)

equal_to_itself : (k : ℕ) → nat_eq k k ≡ true
equal_to_itself k = grind (arith, nat_tests)

first_of_unit : (k : ℕ) (call : walk.Call) (later : List (ℕ × walk.Call))
    → take 1 (calls_of_unit k ((k, call) ∷ later)) ≡ (k, call) ∷ []
first_of_unit k call later = rw (equal_to_itself k) refl

-- the submission of the picture that finds the buffer full is the first call of its unit
submission_first : (k number : ℕ) (before later all : List (ℕ × walk.Call)) → before ≡ calls_below k all
    → all ≡ before ++ (k, walk.SubmitPicture number) ∷ later
    → calls_below k all ++ take 1 (calls_of_unit k all) ≡ before ++ (k, walk.SubmitPicture number) ∷ []
submission_first k number before later all below whole =
    let here : ℕ × walk.Call = (k, walk.SubmitPicture number) in
    let none : calls_of_unit k before ≡ [] = ap (calls_of_unit k) below ∙ none_below k all in
    let split : calls_of_unit k all ≡ calls_of_unit k (here ∷ later) =
    ap (calls_of_unit k) whole ∙ filter-append (λ c. nat_eq c.0 k) before (here ∷ later)
    ∙ ap (λ l. l ++ calls_of_unit k (here ∷ later)) none in
    let one : take 1 (calls_of_unit k all) ≡ here ∷ [] =
    ap (take 1) split ∙ first_of_unit k (walk.SubmitPicture number) later in
    ap₂ (λ a b. a ++ b) (sym below) one

-- ---- the whole

-- the calls, the outputs and the answer are those of the units
record IsWhole (us : List Meaning) (log : List (Call ℕ)) (shown : List (Shown ℕ)) (result : Result ℕ Refused) : Type 0
  where
    pub calls_are : map call_of log ≡ all_asked (calls_made result (calls us))
    pub outputs_are : map output_picture shown ≡ outputs_given result (outputs us)
    pub answer_is : answer_of (verdict us) ≡ result

-- an answer that is neither a failed backend nor a failed allocation
module _ (us : List Meaning) (log : List (Call ℕ)) (shown : List (Shown ℕ)) (done rest : List (ℕ × Event))
    (whole : events us ≡ done ++ rest) (made : map call_of log ≡ all_asked (calls_in done))
    (given : map output_picture shown ≡ outputs_in done) where
  all_done : rest ≡ [] → done ≡ events us
  all_done none = sym (whole ∙ ap (λ r. done ++ r) none ∙ append-nil done)

  all_made : rest ≡ [] → map call_of log ≡ all_asked (calls us)
  all_made none = made ∙ ap (λ es. all_asked (calls_in es)) (all_done none)

  all_given : rest ≡ [] → map output_picture shown ≡ outputs us
  all_given none = given ∙ ap outputs_in (all_done none)

  calls_are : calls us ≡ calls_in done ++ calls_in rest
  calls_are = ap calls_in whole ∙ calls_in-append done rest

  -- where the buffer is full
  fills : (k : ℕ) → Fills k us done → IsVerdict (record { unit = k; error = errors.DpbFull }) us
      → IsWhole us log shown (Err (record { unit = k; error = errors.DpbFull }))
  fills k f verdict_is =
      let last : ℕ × walk.Call = (k, walk.SubmitPicture f.number) in
      let last_event : ℕ × Event = (k, Called (walk.SubmitPicture f.number)) in
      let done_calls : calls_in done ≡ calls_in f.before ++ last ∷ [] =
      ap calls_in f.done_is ∙ calls_in-append f.before (last_event ∷ []) in
      let all : calls us ≡ calls_in f.before ++ last ∷ calls_in rest =
      calls_are ∙ ap (λ l. l ++ calls_in rest) done_calls
      ∙ append_assoc (calls_in f.before) (last ∷ []) (calls_in rest) in
      record {
        calls_are =
            made ∙ ap all_asked
            (done_calls
            ∙ sym (submission_first k f.number (calls_in f.before) (calls_in rest) (calls us) (sym f.calls)
            all));
        outputs_are =
            given ∙ ap outputs_in f.done_is ∙ outputs_in-append f.before (last_event ∷ [])
            ∙ append-nil (outputs_in f.before) ∙ sym f.outputs;
        answer_is = verdict_is;
      }

  whole_error : (k : ℕ) (error : DecodeError) → ¬ IsOfBackend error → ¬ IsNoMemory error
      → EndsAt error (record { unit = k; error = error }) us done rest
      → IsWhole us log shown (Err (record { unit = k; error = error }))
  whole_error k errors.Backend b m e = absurd (b tt)
  whole_error k (errors.NotEnoughOutputBuffers frames) b m e = absurd (b tt)
  whole_error k errors.NoMemory b m e = absurd (m tt)
  whole_error k errors.NoNal b m e = absurd e
  whole_error k errors.CheckEvents b m e = absurd e
  whole_error k errors.PictureNumbersSpent b m e = absurd e
  whole_error k errors.DpbFull b m e = fills k e.1 e.0
  whole_error k error b m e = record { calls_are = all_made e.1; outputs_are = all_given e.1; answer_is = e.0 }

  whole_answer : (result : Result ℕ Refused) → IsNotOfBackend (without_unit result) → ¬ WantsMemory result
      → Ends result us done rest → IsWhole us log shown result
  whole_answer (Ok n) b m e = record { calls_are = all_made e.1; outputs_are = all_given e.1; answer_is = e.0 }
  whole_answer (Err refused) b m e = whole_error refused.unit refused.error b m e

one_inside : (xs ys : List (Call ℕ)) → Some xs ≡ logged (Some []) ys → xs ≡ ys
one_inside xs ys e = cc e

-- what a log and outputs that began empty, and the answer, are written as
text_is : (us : List Meaning) (log : List (Call ℕ)) (shown : List (Shown ℕ)) (result : Result ℕ Refused)
    → IsWhole us log shown result → AreCounted log
    → text_of log shown result
    ≡ text_for (all_asked (calls_made (answer_of (verdict us)) (calls us)))
    (outputs_given (answer_of (verdict us)) (outputs us)) (answer_of (verdict us))
text_is us log shown result w counted =
    let calls_part : flat_map log_line log ≡ calls_text 0 (all_asked (calls_made result (calls us))) =
    log_text 0 log counted ∙ ap (calls_text 0) w.calls_are in
    let outputs_part : flat_map shown_line shown ≡ flat_map output_line (outputs_given result (outputs us)) =
    shown_text shown ∙ ap (flat_map output_line) w.outputs_are in
    let count : length shown ≡ length (outputs_given result (outputs us)) =
    shown_length shown ∙ ap length w.outputs_are in
    let same : text_of log shown result
    ≡ text_for (all_asked (calls_made result (calls us))) (outputs_given result (outputs us)) result =
    ap₂ (λ x y. x ++ y) (ap₂ (λ x y. x ++ y) calls_part outputs_part) (ap (λ n. last_line n result) count) in
    subst (λ r. text_of log shown result
    ≡ text_for (all_asked (calls_made r (calls us))) (outputs_given r (outputs us)) r) (sym w.answer_is) same

-- what the clauses of the decoder say of a log and of outputs that began empty
whole_of : (us : List Meaning) (empty after log : List (Call ℕ)) (none given shown : List (Shown ℕ))
    (result : Result ℕ Refused)
    → empty ≡ [] → log ≡ after → none ≡ [] → shown ≡ given → IsNotOfBackend (without_unit result) → ¬ WantsMemory result
    → IsCut result us (Some empty) (Some after) none given → IsWhole us log shown result
whole_of us empty after log none given shown result p q r s b m cut =
    let log_is : log ≡ cut.made.0 =
    q ∙ one_inside after cut.made.0 (cut.made.1 ∙ ap (λ l. logged (Some l) cut.made.0) p) in
    let shown_is : shown ≡ cut.given.0 = s ∙ cut.given.1 ∙ ap (λ l. l ++ cut.given.0) r in
    whole_answer us log shown cut.done cut.rest cut.whole (ap (map call_of) log_is ∙ cut.made.2)
    (ap (map output_picture) shown_is ∙ cut.given.2) result b m cut.ends

-- the same, as the clauses of the decoder have it
pub report_is : (options : Options) (stream : List ℕ) (empty after log : List (Call ℕ))
    (none given shown : List (Shown ℕ)) (result : Result ℕ Refused)
    → empty ≡ [] → log ≡ after → none ≡ [] → shown ≡ given → IsNotOfBackend (without_unit result) → ¬ WantsMemory result
    → IsCut result (meanings options stream) (Some empty) (Some after) none given → AreCounted log
    → text_of log shown result ≡ report_of options stream
report_is options stream empty after log none given shown result p q r s b m cut counted =
    let us = meanings options stream in
    text_is us log shown result (whole_of us empty after log none given shown result p q r s b m cut) counted

-- a text is the lines of the calls, and the rest
pub in_parts : (log : List (Call ℕ)) (shown : List (Shown ℕ)) (result : Result ℕ Refused)
    → flat_map log_line log ++ rest_text shown result ≡ text_of log shown result
in_parts log shown result =
    sym (append_assoc (flat_map log_line log) (flat_map shown_line shown) (last_line (length shown) result))

-- what follows of the bytes that a source had left, where it exposes them
pub told_by : (left : Option (List ℕ)) (P Q : List ℕ → Type 0) → ((s : List ℕ) → P s → Q s) → IfSome left P
    → IfSome left Q
told_by None P Q follows p = tt
told_by (Some s) P Q follows p = follows s p

pub told_both : (left : Option (List ℕ)) (P Q R : List ℕ → Type 0) → ((s : List ℕ) → P s → Q s → R s) → IfSome left P
    → IfSome left Q → IfSome left R
told_both None P Q R follows p q = tt
told_both (Some s) P Q R follows p q = follows s p q

-- ---- a summary

-- the outputs of a whole stream in one line
summary_is_of : (us : List Meaning) (log : List (Call ℕ)) (shown : List (Shown ℕ)) (result : Result ℕ Refused)
    → IsWhole us log shown result
    → summary_text shown result ≡ summary_for (answer_of (verdict us)) (outputs us)
summary_is_of us log shown (Ok n) w =
    let all : map output_picture shown ≡ outputs us = w.outputs_are in
    let counts : shown_counts shown ≡ map (λ o. o.order_count) (outputs us) =
    same_counts shown ∙ ap (map (λ (o : OutputPicture). o.order_count)) all in
    let same : summary_text shown (Ok n) ≡ summary_for (Ok n) (outputs us) = ap (summary_line n) counts in
    subst (λ r. summary_text shown (Ok n) ≡ summary_for r (outputs us)) (sym w.answer_is) same
summary_is_of us log shown (Err refused) w = ap (λ r. summary_for r (outputs us)) (sym w.answer_is)

-- the same, as the clauses of the decoder have it
pub summary_is : (options : Options) (stream : List ℕ) (empty after log : List (Call ℕ))
    (none given shown : List (Shown ℕ)) (result : Result ℕ Refused)
    → options ≡ default_options → empty ≡ [] → log ≡ after → none ≡ [] → shown ≡ given
    → IsNotOfBackend (without_unit result) → ¬ WantsMemory result
    → IsCut result (meanings options stream) (Some empty) (Some after) none given
    → summary_text shown result ≡ summary_of stream
summary_is options stream empty after log none given shown result o p q r s b m cut =
    let us = meanings options stream in
    let w = whole_of us empty after log none given shown result p q r s b m cut in
    summary_is_of us log shown result w
    ∙ ap (λ x. summary_for (answer_of (verdict (meanings x stream))) (outputs (meanings x stream))) o

-- ---- what a report tells

-- what is decoded unless an allocation fails, and none does, is decoded
pub decoded_whole : (result : Result ℕ Refused) → IsOkOrNoMemory result → ¬ WantsMemory result → is_ok result ≡ true
decoded_whole (Ok n) h m = refl
decoded_whole (Err refused) h m = absurd (m h)

some_end : (xs : List ℕ) → 0 < length (xs ++ codes "\n")
some_end xs = simp length-append (omega arith)

-- a report has a last line
pub some_line : (n : ℕ) (ending : Result ℕ Refused) → 0 < length (last_line n ending)
some_line n (Ok pictures) = some_end (codes "end pictures " ++ decimal pictures ++ codes " shown " ++ decimal n)
some_line n (Err refused) =
    some_end (codes "refused unit " ++ decimal refused.unit ++ codes " " ++ cause_text refused.error)

pub some_report : (options : Options) (stream : List ℕ) → 0 < length (report_of options stream)
some_report options stream =
    let ending = ending_of options stream in
    let given = outputs_given ending (outputs (meanings options stream)) in
    let lines =
    calls_text 0 (all_asked (calls_made ending (calls (meanings options stream)))) ++ flat_map output_line given in
    let last : 0 < length (last_line (length given) ending) = some_line (length given) ending in
    let long : length (lines ++ last_line (length given) ending)
    ≡ length lines + length (last_line (length given) ending) =
    length-append lines (last_line (length given) ending) in
    omega (arith, last, long)

-- a summary has its line
some_numbers : (pictures shown : ℕ) (low high : ℤ) (fallen : ℕ)
    → 0 < length (numbers_line pictures shown low high fallen)
some_numbers pictures shown low high fallen =
    some_end
    (codes "made " ++ decimal pictures ++ codes " shown " ++ decimal shown ++ codes " " ++ counts_text low high
    ++ codes " falls " ++ decimal fallen)

some_summary_line : (ending : Result ℕ Refused) (given : List OutputPicture) → 0 < length (summary_for ending given)
some_summary_line (Ok pictures) given =
    let counts = map (λ (o : OutputPicture). o.order_count) given in
    some_numbers pictures (length counts) (lowest counts) (highest counts) (falls counts)
some_summary_line (Err refused) given = some_line (length given) (Err refused)

pub some_summary : (stream : List ℕ) → 0 < length (summary_of stream)
some_summary stream = some_summary_line (ending_of default_options stream) (outputs (meanings default_options stream))
