-- The units of parameter sets.
use Rattle.std.proofs.Common.{◌≡◌, inl, inr, ℕ, ◌≤◌, List, refl, sym, ◌∙◌, ap, subst, Option, Some}
use Rattle.std.proofs.Common.{None, Result, Ok, Err, Bool, true, false}
use Rattle.hevc_spec.specs.UnitTypes.{is_idr}
use Rattle.hevc_spec.specs.UnitHeader.{UnitHeader, unit_header}
use Rattle.hevc_spec.specs.Payload.{payload}
use Rattle.hevc_spec.specs.Table.{Reading, gives, refuses, read}
use Rattle.hevc_records.specs.Sps.{PlainSps}
use Rattle.hevc_records.specs.Pps.{PlainPps}
use Rattle.hevc_tables.specs.PpsTable.{picture_parameter_set}
use Rattle.hevc_walk.specs.Meanings as causes
use Rattle.hevc_walk.specs.Meanings.{UnitCause, Meaning, SequenceSet, Other, Refused}
use Rattle.hevc_elements.specs.declared.parse_error.ParseError.{ParseError}
use Rattle.hevc_elements.specs.declared.parse_error.ParseError.TheVariants as parse
use Rattle.hevc_stream.specs.Options.{Options}
use Rattle.std.proofs.Common.{arith}
use Rattle.std.specs.Prelude.{IsSome, option_map, ◌==◌, if◌then◌else◌}
use Rattle.std.specs.Result.{IsErrAnd}
use Rattle.std.proofs.lemmas.Bool.Decides.{nat_tests}
use Rattle.std.proofs.lemmas.Result.{err_from_is_err_and}
use Rattle.hevc_walk_inputs.specs.Sequences.{format_of_set}
use Rattle.hevc_walk.specs.Meanings.{Format}
use Rattle.hevc_stream.specs.Kept.{Kept, with_sequence_set}
use Rattle.hevc_stream.specs.Slices.{temporal_id}
use Rattle.hevc_stream.specs.Contents.{Content, refused, sequence_set, picture_set_read, content, wants}
use Rattle.hevc_stream.specs.Stream.{meaning_of, meaning, kept_behind, with_all_waited}
use Rattle.hevc_stream_laws.proofs.ByType.{of_video_set, of_sequence_set, of_picture_set}
use Rattle.hevc_kept_sets.specs.Takes as sets
use Rattle.hevc_kept_sets.proofs.Sets.{behind_sequence_set}
use Rattle.hevc_backend.specs.declared.call.Call.{Call}
use Rattle.hevc_walk_units.specs.Units.{Standing}
use Rattle.hevc_driver.specs.declared.decode_error.DecodeError.{DecodeError}
use Rattle.hevc_driver.specs.declared.decode_error.DecodeError.TheVariants as errors
use Rattle.hevc_stateless.specs.declared.state.State.TheVariants.{Decoding}
use Rattle.hevc_driver.specs.Errors.{cause_error}
use Rattle.hevc_backend.specs.Handed.{Handed}
use Rattle.hevc_driver.specs.Given.{Given}
use Rattle.hevc_driver.specs.Does.{Traces}
use Rattle.hevc_driver.specs.Takes.{Takes}
use Rattle.hevc_stateless.specs.declared.state.State.{State}
use Rattle.hevc_stateless.specs.States.{Unit, unit_at, resumes, meaning_when, MovesBy, is_awaited}
use Rattle.hevc_stateless.specs.States.{awaits_stream_info, is_sequence_set, is_parameter_set}
use Rattle.hevc_stateless.specs.States.{later_meaning, state_behind, meaning_in}
use Rattle.hevc_stateless.specs.Views.{View, traces_of, moment_of}
use Rattle.hevc_stateless.specs.Refusals.{refusal_of}
use Rattle.hevc_stateless.specs.Steps.{Acts, Step, KeepsBehind, IsOfSet, with_read_set, given_to}
use Rattle.hevc_stateless.specs.Segments.{latest_at, own_header, read_at, set_in, set_with}
use Rattle.hevc_stateless.proofs.Passing.{refused_unit, refused_moves, idle_unit, stays_behind}
use Rattle.hevc_stateless.proofs.Passing.{set_means_in, acts_in, first_behind, first_means}
use Rattle.hevc_stateless.proofs.Passing.{later_behind}

-- ---- sets that are found

pub some_of : {X A : Type 0} (view : X → A) (o : Option X) (found : Option A) → option_map view o ≡ found
    → IsSome found → IsSome o
some_of view (Some x) found is some = refl
some_of view None found is some = subst IsSome (sym is) some

pub named_of : {X A : Type 0} (view : X → A) (o : Option X) (x : X) (set : A) → o ≡ Some x
    → option_map view o ≡ Some set → view x ≡ set
named_of view o x set here is = let all : Some (view x) ≡ Some set = ap (option_map view) (sym here) ∙ is in cc all

-- ---- errors

cause_named : (c : UnitCause) (e : ParseError) → sets.cause_error c ≡ Some e → refusal_of e ≡ cause_error c
cause_named causes.OutOfBits e is = let same : parse.OutOfBits ≡ e = cc is in ap refusal_of (sym same)
cause_named (causes.OutOfRange table row) e is = let same : parse.OutOfRange table row ≡ e =
    cc is in ap refusal_of (sym same)
cause_named causes.TruncatedNalu e is = absurd (cc is)
cause_named (causes.InvalidNaluType n) e is = absurd (cc is)
cause_named (causes.MissingPps id) e is = absurd (cc is)

cause_of_set : (c : UnitCause) (e : ParseError) → sets.cause_error c ≡ Some e → IsOfSet (cause_error c)
cause_of_set causes.OutOfBits e is = tt
cause_of_set (causes.OutOfRange table row) e is = tt
cause_of_set causes.TruncatedNalu e is = absurd (cc is)
cause_of_set (causes.InvalidNaluType n) e is = absurd (cc is)
cause_of_set (causes.MissingPps id) e is = absurd (cc is)

keeps_refused : (T : Type 0) (c : UnitCause) (o : Options) (bytes : List ℕ) (old new : Kept) → new ≡ old
    → KeepsBehind {T = T} (Err (cause_error c)) o bytes old new
keeps_refused T causes.OutOfBits o bytes old new is = is
keeps_refused T (causes.OutOfRange table row) o bytes old new is = is
keeps_refused T causes.TruncatedNalu o bytes old new is = is
keeps_refused T (causes.InvalidNaluType n) o bytes old new is = is
keeps_refused T (causes.MissingPps id) o bytes old new is = is

pub set_error : (o : Options) (bytes : List ℕ) (old new : Kept) (e : ParseError)
    → sets.Refuses o bytes e old new → IsOfSet (refusal_of e)
set_error o bytes old new parse.NoMemory h = tt
set_error o bytes old new parse.WrongNaluType h = let i =
    h.0 in subst IsOfSet (sym (cause_named i.0 parse.WrongNaluType i.2)) (cause_of_set i.0 parse.WrongNaluType i.2)
set_error o bytes old new parse.OutOfBits h = tt
set_error o bytes old new (parse.OutOfRange table row) h = tt
set_error o bytes old new (parse.MissingSps id) h = let i =
    h.0 in subst IsOfSet (sym (cause_named i.0 (parse.MissingSps id) i.2)) (cause_of_set i.0 (parse.MissingSps id) i.2)
set_error o bytes old new (parse.MissingPps id) h = let i =
    h.0 in subst IsOfSet (sym (cause_named i.0 (parse.MissingPps id) i.2)) (cause_of_set i.0 (parse.MissingPps id) i.2)

-- ---- steps

module _ (o : Options) (k : Kept) (bytes : List ℕ) (h : UnitHeader) (parsed : unit_header bytes ≡ Ok h)
    (wanted : wants o h ≡ true) where
  -- where some sequence set is kept
  abbrev sure : Kept
  sure = record k { has_sequence_set = true }

  pub means : (c : Content) → content o sure bytes ≡ c → (unit_at o k h bytes).meaning ≡ meaning_of o sure bytes c
  unfolding meaning
  means c is = ap (meaning_of o sure bytes) is

  pub same_video_set : h.nal_unit_type ≡ 32 → content o sure bytes ≡ content o k bytes
  same_video_set t = of_video_set o sure bytes h parsed wanted t ∙ sym (of_video_set o k bytes h parsed wanted t)

  pub same_sequence_set : h.nal_unit_type ≡ 33 → content o sure bytes ≡ content o k bytes
  same_sequence_set t = of_sequence_set o sure bytes h parsed wanted t
      ∙ sym (of_sequence_set o k bytes h parsed wanted t)

  pub same_picture_set : h.nal_unit_type ≡ 34 → content o sure bytes ≡ content o k bytes
  same_picture_set t = of_picture_set o sure bytes h parsed wanted t ∙ sym (of_picture_set o k bytes h parsed wanted t)

  module _ {B H : Type 0} (log : Option (List (Call H))) (handed : Option (List Handed)) (asked : Option ℕ)
      (view : View B H) (set : is_parameter_set h.nal_unit_type ≡ true)
      (other : is_idr h.nal_unit_type ≡ false) (same : content o sure bytes ≡ content o k bytes) where
    abbrev u : Unit
    u = unit_at o k h bytes

    -- a set that asks for nothing
    pub set_goes : {T : Type 0} (value : T) (t : Given) (new : Kept) → u.meaning ≡ Other
        → new ≡ kept_behind o k bytes
        → Step (Ok value) t o h bytes (record {
          log = log;
          handed = handed;
          asked = asked;
          view = view;
          kept = k;
        }) (record { log = log; handed = handed; asked = asked; view = view; kept = new })
    set_goes value t new is kept = record {
      takes = record {
        part = subst
            (λ (m : Meaning). Takes (Ok value) t (traces_of log handed asked view)
            (traces_of log handed asked view) m view.standing view.standing)
            (sym (set_means_in view.state u Other set other is refl refl))
            (idle_unit t (traces_of log handed asked view) view.standing);
        state = sym (stays_behind view.state u other (ap is_sequence_set is));
        latest = sym
            (ap (λ (m : Meaning). latest_at m (own_header o k bytes) view.latest)
            (set_means_in view.state u Other set other is refl refl));
      };
      kept = kept;
    }

    refused_by : (T : Type 0) (c : UnitCause) (t : Given) (new : Kept) → content o k bytes ≡ refused c
        → new ≡ k → Step {T = T} (Err (cause_error c)) t o h bytes (record {
          log = log;
          handed = handed;
          asked = asked;
          view = view;
          kept = k;
        }) (record { log = log; handed = handed; asked = asked; view = view; kept = new })
    refused_by T c t new is kept = let m = means (refused c) (same ∙ is) in record {
      takes = acts_in {T = T} (Err (cause_error c)) t (meaning_in view.state u) (own_header o k bytes)
          (state_behind view.state u) (moment_of log handed asked view) (moment_of log handed asked view) (record {
            part = subst
                (λ (m : Meaning). Takes {T = T} (Err (cause_error c)) t (traces_of log handed asked view)
                (traces_of log handed asked view) m view.standing view.standing)
                (sym (set_means_in view.state u (Refused c) set other m refl refl))
                (refused_unit T c t (traces_of log handed asked view) view.standing);
            state = refused_moves T c (state_behind view.state u) view.state
                (sym (stays_behind view.state u other (ap is_sequence_set m)));
            latest = sym
                (ap (λ (x : Meaning). latest_at x (own_header o k bytes) view.latest)
                (set_means_in view.state u (Refused c) set other m refl refl));
          });
      kept = keeps_refused T c o bytes k new kept;
    }

    named_by : (T : Type 0) (e : ParseError) (t : Given) (new : Kept)
        → sets.IsRefusedBy e (content o k bytes) × (new ≡ k)
        → Step {T = T} (Err (refusal_of e)) t o h bytes (record {
          log = log;
          handed = handed;
          asked = asked;
          view = view;
          kept = k;
        }) (record { log = log; handed = handed; asked = asked; view = view; kept = new })
    named_by T e t new x = let i =
        x.0 in subst
        (λ (d : DecodeError). Step {T = T} (Err d) t o h bytes (record {
          log = log;
          handed = handed;
          asked = asked;
          view = view;
          kept = k;
        }) (record { log = log; handed = handed; asked = asked; view = view; kept = new }))
        (sym (cause_named i.0 e i.2)) (refused_by T i.0 t new i.1 x.1)

    -- a set that is refused
    pub set_refused : (T : Type 0) (e : ParseError) (t : Given) (new : Kept) → sets.Refuses o bytes e k new
        → Step {T = T} (Err (refusal_of e)) t o h bytes (record {
          log = log;
          handed = handed;
          asked = asked;
          view = view;
          kept = k;
        }) (record { log = log; handed = handed; asked = asked; view = view; kept = new })
    set_refused T parse.NoMemory t new x = record { takes = inl refl; kept = inl x }
    set_refused T parse.WrongNaluType t new x = named_by T parse.WrongNaluType t new x
    set_refused T parse.OutOfBits t new x = named_by T parse.OutOfBits t new x
    set_refused T (parse.OutOfRange table row) t new x = named_by T (parse.OutOfRange table row) t new x
    set_refused T (parse.MissingSps id) t new x = named_by T (parse.MissingSps id) t new x
    set_refused T (parse.MissingPps id) t new x = named_by T (parse.MissingPps id) t new x

  -- ---- picture sets

  read_or_not : (reading : Reading PlainPps) → meaning_of o sure bytes (picture_set_read reading) ≡ Other
  read_or_not (gives set rest) = refl
  read_or_not (refuses fault rest) = refl

  pub picture_set_means : h.nal_unit_type ≡ 34 → (unit_at o k h bytes).meaning ≡ Other
  picture_set_means t =
      means (picture_set_read
      (read (picture_parameter_set (temporal_id h) k.sequence_sets) (payload bytes)))
      (of_picture_set o sure bytes h parsed wanted t)
      ∙ read_or_not (read (picture_parameter_set (temporal_id h) k.sequence_sets) (payload bytes))

  -- ---- sequence sets

  module _ (set : PlainSps) (is : content o k bytes ≡ sequence_set set) (typed : h.nal_unit_type ≡ 33) where
    sequence_means : (unit_at o k h bytes).meaning ≡ SequenceSet (format_of_set set)
    sequence_means = means (sequence_set set) (same_sequence_set typed ∙ is)

    resumed : resumes (unit_at o k h bytes) ≡ true
    resumed = rw (wanted, typed, sequence_means) refl

    kept_as_read : (new : Kept) → new ≡ with_sequence_set set k → new ≡ with_read_set (content o k bytes) k
    kept_as_read new kept = kept ∙ ap (λ (c : Content). with_read_set c k) (sym is)

    keeps_first : {H T : Type 0} (r : Result T DecodeError) (t : Given) (a b : Traces H) (f : Format)
        (s st : Standing) (new : Kept) → Takes r t a b (SequenceSet f) s st → new ≡ with_sequence_set set k
        → KeepsBehind r o bytes k new
    keeps_first (Ok v) t a b f s st new h kept = absurd (cc h.accepted)
    keeps_first (Err errors.CheckEvents) t a b f s st new h kept = kept_as_read new kept
    keeps_first (Err errors.Backend) t a b f s st new h kept = kept_as_read new kept
    keeps_first (Err errors.NoMemory) t a b f s st new h kept = inr (inl (kept_as_read new kept))
    keeps_first (Err errors.DpbFull) t a b f s st new h kept = absurd (cc h.0)
    keeps_first (Err (errors.NotEnoughOutputBuffers frames)) t a b f s st new h kept = absurd (cc h.1.begins)
    keeps_first (Err errors.PictureNumbersSpent) t a b f s st new h kept = absurd (cc h.spent)
    keeps_first (Err e) t a b f s st new h kept = absurd (cc h.accepted)

    -- what comes with the first one
    pub first_given : {B H : Type 0} (timestamp : ℕ) (log : Option (List (Call H)))
        (handed : Option (List Handed)) (asked : Option ℕ) (view : View B H)
        → awaits_stream_info view.state ≡ true
        → (given_to timestamp o h bytes (record {
          log = log;
          handed = handed;
          asked = asked;
          view = view;
          kept = k;
        })).set ≡ Some set
    first_given timestamp log handed asked view first =
        ap (λ (m : Meaning). set_with m (read_at o k view.latest bytes))
        (first_means view.state (unit_at o k h bytes) (SequenceSet (format_of_set set)) first
        (ap is_parameter_set typed) sequence_means)
        ∙ ap set_in (same_sequence_set typed ∙ is)

    -- the first one
    pub first_step : {B H T : Type 0} (r : Result T DecodeError) (t : Given)
        (log newlog : Option (List (Call H))) (handed newhanded : Option (List Handed))
        (asked newasked : Option ℕ) (view now : View B H) (new : Kept)
        → awaits_stream_info view.state ≡ true → new ≡ with_sequence_set set k
        → Acts r t (SequenceSet (format_of_set set)) (own_header o k bytes) view.state
        (moment_of log handed asked view) (moment_of newlog newhanded newasked now)
        → Step r t o h bytes (record { log = log; handed = handed; asked = asked; view = view; kept = k })
        (record { log = newlog; handed = newhanded; asked = newasked; view = now; kept = new })
    first_step {T = T} r t log newlog handed newhanded asked newasked view now new first kept acts = record {
      takes = acts_in r t _ (own_header o k bytes) _ (moment_of log handed asked view)
          (moment_of newlog newhanded newasked now) (record {
            part = subst
                (λ (m : Meaning). Takes r t (traces_of log handed asked view)
                (traces_of newlog newhanded newasked now) m view.standing now.standing)
                (sym (first_means view.state (unit_at o k h bytes) (SequenceSet (format_of_set set)) first
                (ap is_parameter_set typed) sequence_means)) acts.part;
            state = subst
                (λ (x : State). MovesBy r x now.state)
                (sym (first_behind view.state (unit_at o k h bytes) first)) acts.state;
            latest = acts.latest
                ∙ sym (ap (λ (m : Meaning). latest_at m (own_header o k bytes) view.latest)
                (first_means view.state (unit_at o k h bytes) (SequenceSet (format_of_set set)) first
                (ap is_parameter_set typed) sequence_means));
          });
      kept = keeps_first r t (traces_of log handed asked view) (traces_of newlog newhanded newasked now)
          (format_of_set set) view.standing now.standing new acts.part kept;
    }

    later_means : {B H : Type 0} (view : View B H) → awaits_stream_info view.state ≡ false
        → is_awaited view.state ≡ false → meaning_in view.state (unit_at o k h bytes) ≡ Other
    later_means view first awaited =
        ap (λ (x : State). meaning_when x (unit_at o k h bytes))
        (later_behind view.state (unit_at o k h bytes) first awaited resumed) ∙ ap later_meaning sequence_means

    -- a later one
    pub later_step : {B H T : Type 0} (value : T) (t : Given) (log : Option (List (Call H)))
        (handed : Option (List Handed)) (asked : Option ℕ) (view now : View B H) (mid new : Kept)
        → awaits_stream_info view.state ≡ false → is_awaited view.state ≡ false
        → now ≡ record view { state = Decoding } → mid ≡ with_sequence_set set k → new ≡ with_all_waited o mid
        → Step (Ok value) t o h bytes (record {
          log = log;
          handed = handed;
          asked = asked;
          view = view;
          kept = k;
        }) (record { log = log; handed = handed; asked = asked; view = now; kept = new })
    later_step value t log handed asked view now mid new first awaited same kept behind = rw same (record {
      takes = record {
        part = subst
            (λ (m : Meaning). Takes (Ok value) t (traces_of log handed asked view)
            (traces_of log handed asked view) m view.standing view.standing)
            (sym (later_means view first awaited)) (idle_unit t (traces_of log handed asked view) view.standing);
        state = sym (later_behind view.state (unit_at o k h bytes) first awaited resumed);
        latest = sym
            (ap (λ (m : Meaning). latest_at m (own_header o k bytes) view.latest) (later_means view first awaited));
      };
      kept = behind ∙ ap (with_all_waited o) kept ∙ sym (behind_sequence_set o bytes h parsed wanted k set is);
    })

    pub later_stopped : {B H T : Type 0} (r : Result T DecodeError) (t : Given)
        (log : Option (List (Call H))) (handed : Option (List Handed)) (asked : Option ℕ) (view : View B H)
        (mid new : Kept) → mid ≡ with_sequence_set set k → sets.StopsReading o mid new
        → IsErrAnd r (λ e. e ≡ errors.NoMemory)
        → Step r t o h bytes (record { log = log; handed = handed; asked = asked; view = view; kept = k })
        (record { log = log; handed = handed; asked = asked; view = view; kept = new })
    later_stopped r t log handed asked view mid new kept stops is = let q = err_from_is_err_and r is in
        rw q.1 (rw q.2 (record {
          takes = inl refl;
          kept = inr (inr (subst (λ (x : Kept). sets.StopsReading o x new) (kept_as_read mid kept) stops));
        }))

    -- it is found by its id
    pub found_by_id : (id : ℕ) (new : Kept) → set.seq_parameter_set_id ≡ id → new ≡ with_sequence_set set k
        → new.sequence_sets id ≡ Some set
    found_by_id id new at kept =
        let here : (id == set.seq_parameter_set_id) ≡ true = grind (arith, nat_tests, at) in
        ap (λ (x : Kept). x.sequence_sets id) kept ∙ ap (λ (b : Bool). if b then Some set else k.sequence_sets id) here
