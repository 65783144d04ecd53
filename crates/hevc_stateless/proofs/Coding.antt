-- Units that are no parameter sets.
use Rattle.std.proofs.Common.{◌≡◌, inl, ℕ, ◌≤◌, List, refl, sym, ◌∙◌, ap, subst, arith, Option}
use Rattle.std.proofs.Common.{Some, None, Result, Ok, Err, Bool, true, false, not}
use Rattle.std.specs.Prelude.{drop, ◌==◌, ◌&&◌, ◌||◌, if◌then◌else◌}
use Rattle.std.proofs.lemmas.Bool.Decides.{nat_tests}
use Rattle.hevc_spec.specs.UnitTypes.{is_slice, is_idr}
use Rattle.hevc_spec.specs.UnitHeader.{UnitHeader, unit_header}
use Rattle.hevc_spec.specs.Payload.{payload}
use Rattle.hevc_spec.specs.Table.{Reading, gives, refuses, read}
use Rattle.hevc_records.specs.SliceHeader.{PlainSliceSegmentHeader}
use Rattle.hevc_tables.specs.SliceHeaderTable.{ActiveSets, active_sets, slice_segment_header}
use Rattle.hevc_walk.specs.Meanings.{UnitCause, Meaning, SequenceSet, CodedSlice, EndOfSequence}
use Rattle.hevc_walk.specs.Meanings.{EndOfBitstream, Other, Refused}
use Rattle.hevc_stream.specs.Options.{Options}
use Rattle.hevc_stream.specs.Kept.{Kept}
use Rattle.hevc_stream.specs.Slices.{slice_segment_meaning}
use Rattle.hevc_stream.specs.Contents.{Content, refused, slice, end_of_sequence, end_of_bitstream}
use Rattle.hevc_stream.specs.Contents.{nothing, content_read, coded_content, slice_content, content, wants}
use Rattle.hevc_stream.specs.Stream.{meaning_of, meaning, kept_behind, with_content}
use Rattle.hevc_stream_laws.proofs.ByType.{of_end_of_sequence, of_end_of_bitstream}
use Rattle.hevc_backend.specs.declared.call.Call.{Call}
use Rattle.hevc_walk_units.specs.Units.{Standing}
use Rattle.hevc_driver.specs.declared.decode_error.DecodeError.{DecodeError}
use Rattle.hevc_driver.specs.declared.decode_error.DecodeError.TheVariants as errors
use Rattle.hevc_backend.specs.Handed.{Handed}
use Rattle.hevc_driver.specs.Given.{Given}
use Rattle.hevc_driver.specs.Does.{Traces}
use Rattle.hevc_driver.specs.Moments.{step_part}
use Rattle.hevc_driver.specs.Takes.{Goes, Takes}
use Rattle.hevc_driver.proofs.Doing.{does_nothing, keeps_all}
use Rattle.hevc_stateless.specs.declared.state.State.{State}
use Rattle.hevc_stateless.specs.declared.state.State.TheVariants.{AwaitingStreamInfo, AwaitingFormat, Decoding, Reset}
use Rattle.hevc_stateless.specs.States.{Unit, unit_at, is_sequence_set, is_parameter_set}
use Rattle.hevc_stateless.specs.States.{later_meaning, state_behind, meaning_when, meaning_in}
use Rattle.hevc_stateless.specs.States.{is_decoding, state_at}
use Rattle.hevc_stateless.specs.Views.{View, traces_of, traces_at, moment_of}
use Rattle.hevc_backend.specs.Trait.{Frames}
use Rattle.hevc_stateless.specs.Steps.{Step, TakesIn, KeepsBehind, with_read_set}
use Rattle.hevc_stateless.specs.Segments.{ReadUnit, header_in, latest_at, own_header, given_with}
use Rattle.hevc_stateless.proofs.Passing.{idle_unit, latest_without}
use Rattle.hevc_stateless.proofs.Setting.{means}

-- ---- the content

pub either : {A : Type 0} (F : Content → A) (x : A) (b : Bool) (c d : Content) → F c ≡ x → F d ≡ x
    → F (if b then c else d) ≡ x
either F x true c d is other = is
either F x false c d is other = other

module _ {A : Type 0} (F : Content → A) (x : A) (idle : F nothing ≡ x) (refusing : (cause : UnitCause)
    → F (refused cause) ≡ x) (slicing : (g : UnitHeader) (segment : PlainSliceSegmentHeader)
    → F (slice g segment) ≡ x) (ending : F end_of_sequence ≡ x) (closing : F end_of_bitstream ≡ x) where
  read_coded : (h : UnitHeader) (r : Reading PlainSliceSegmentHeader) → F (content_read (slice h) r) ≡ x
  read_coded h (gives segment rest) = slicing h segment
  read_coded h (refuses fault rest) = refusing _

  pub of_coded : (k : Kept) (h : UnitHeader) (bytes : List ℕ) → F (coded_content k h bytes) ≡ x
  of_coded k h bytes =
      either F x (not k.has_sequence_set) nothing _ idle
      (either F x (is_slice h.nal_unit_type) _ _
      (read_coded h
      (read (slice_segment_header h.nal_unit_type (drop 2 bytes)
      (active_sets k.sequence_sets k.picture_sets)) (payload bytes)))
      (either F x (h.nal_unit_type == 36) _ _ ending (either F x (h.nal_unit_type == 37) _ _ closing idle)))

-- the unit of another type isn't of this one
pub isnt : (t n : ℕ) → is_parameter_set t ≡ false → is_parameter_set n ≡ true → (t == n) ≡ false
isnt t n p q = by (t == n) refl
  where
    by : (b : Bool) → (t == n) ≡ b → b ≡ false
    by true e = let same : t ≡ n = grind (arith, nat_tests, e) in absurd (cc (sym p ∙ ap is_parameter_set same ∙ q))
    by false e = refl

-- a slice segment is no sequence set
pub segment_isnt : (o : Options) (bytes : List ℕ) (g : UnitHeader) (segment : PlainSliceSegmentHeader)
    (sets : Option ActiveSets) → is_sequence_set (slice_segment_meaning o g bytes segment sets) ≡ false
segment_isnt o bytes g segment (Some sets) = refl
segment_isnt o bytes g segment None = refl

module _ (o : Options) (k : Kept) (bytes : List ℕ) (h : UnitHeader) (parsed : unit_header bytes ≡ Ok h) where
  -- a unit that isn't wanted
  pub of_unwanted : wants o h ≡ false → (kk : Kept) → content o kk bytes ≡ nothing
  unfolding content
  of_unwanted above kk = rw (parsed, above) refl

  module _ (wanted : wants o h ≡ true) (other : is_parameter_set h.nal_unit_type ≡ false) where
    of_other : (kk : Kept) → content o kk bytes ≡ coded_content kk h bytes
    unfolding content
    of_other kk =
        rw (
          parsed,
          wanted,
          isnt h.nal_unit_type 32 other refl,
          isnt h.nal_unit_type 33 other refl,
          isnt h.nal_unit_type 34 other refl,
        ) refl

    -- what is kept stays
    pub coded_keeps : {T : Type 0} (r : Result T DecodeError) → KeepsBehind r o bytes k k
    unfolding kept_behind
    coded_keeps (Ok v) =
        sym (ap (λ (c : Content). with_content o bytes c k) (of_other k) ∙ of_coded
        (λ (c : Content). with_content o bytes c k) k refl (λ cause. refl) (λ g segment. refl) refl refl k h bytes)
    coded_keeps (Err errors.CheckEvents) =
        sym (ap (λ (c : Content). with_read_set c k) (of_other k) ∙ of_coded
        (λ (c : Content). with_read_set c k) k refl (λ cause. refl) (λ g segment. refl) refl refl k h bytes)
    coded_keeps (Err errors.Backend) =
        sym (ap (λ (c : Content). with_read_set c k) (of_other k) ∙ of_coded
        (λ (c : Content). with_read_set c k) k refl (λ cause. refl) (λ g segment. refl) refl refl k h bytes)
    coded_keeps (Err errors.NoMemory) = inl refl
    coded_keeps (Err e) = refl

    abbrev sure : Kept
    sure = record k { has_sequence_set = true }

    pub coded_isnt : is_sequence_set (unit_at o k h bytes).meaning ≡ false
    coded_isnt =
        ap is_sequence_set (means o k bytes h parsed wanted (coded_content sure h bytes) (of_other sure))
        ∙ of_coded (λ (c : Content). is_sequence_set (meaning_of o sure bytes c)) false refl (λ cause. refl)
        (λ g segment. segment_isnt o bytes g segment _) refl refl sure h bytes

    -- ends, and what asks for nothing
    pub end_means : h.nal_unit_type ≡ 36 → (unit_at o k h bytes).meaning ≡ EndOfSequence
    end_means t =
        means o k bytes h parsed wanted end_of_sequence (of_end_of_sequence o sure bytes h parsed wanted refl t)

    pub close_means : h.nal_unit_type ≡ 37 → (unit_at o k h bytes).meaning ≡ EndOfBitstream
    close_means t =
        means o k bytes h parsed wanted end_of_bitstream (of_end_of_bitstream o sure bytes h parsed wanted refl t)

    pub other_means : is_slice h.nal_unit_type ≡ false → (h.nal_unit_type == 36) ≡ false
        → (h.nal_unit_type == 37) ≡ false → (unit_at o k h bytes).meaning ≡ Other
    other_means s e c = means o k bytes h parsed wanted nothing (of_other sure ∙ rw (s, e, c) refl)

    -- a unit that is no slice has no header of a slice
    pub own_none : is_slice h.nal_unit_type ≡ false → own_header o k bytes ≡ None
    own_none no_slice =
        ap header_in (of_other sure)
        ∙ ap (λ (b : Bool). header_in
        (if b then slice_content sure h bytes else
        (if h.nal_unit_type == 36 then end_of_sequence else
        (if h.nal_unit_type == 37 then end_of_bitstream else nothing)))) no_slice
        ∙ either header_in None (h.nal_unit_type == 36) end_of_sequence _ refl
        (either header_in None (h.nal_unit_type == 37) end_of_bitstream nothing refl refl)

-- ---- ends

pub ends : {H : Type 0} (t : Given) (a : Traces H) (s : Standing)
    → Goes t a a EndOfSequence s (step_part EndOfSequence s).next
ends t a s = record {
  accepted = refl;
  room = refl;
  numbered = refl;
  goes_on = refl;
  completes = record {
    does = does_nothing t a a refl refl refl refl (keeps_all a.tickets a.tickets refl);
    next = refl;
  };
}

pub closes : {H : Type 0} (t : Given) (a : Traces H) (s : Standing)
    → Goes t a a EndOfBitstream s (step_part EndOfBitstream s).next
closes t a s = record {
  accepted = refl;
  room = refl;
  numbered = refl;
  goes_on = refl;
  completes = record {
    does = does_nothing t a a refl refl refl refl (keeps_all a.tickets a.tickets refl);
    next = refl;
  };
}

-- ---- the states

reset_behind : (w i s : Bool) → w ≡ true → s ≡ false → (if w && (i || s) then Decoding else Reset) ≡ state_at i Reset
reset_behind true true s is isnt = refl
reset_behind true false true is isnt = absurd (cc isnt)
reset_behind true false false is isnt = refl
reset_behind false i s is isnt = absurd (cc is)

pub coded_behind : (st : State) (u : Unit) → u.is_wanted ≡ true → is_sequence_set u.meaning ≡ false
    → state_behind st u ≡ state_at (is_idr u.nal_unit_type) st
coded_behind AwaitingStreamInfo u w s = by (is_idr u.nal_unit_type)
  where
    by : (b : Bool) → AwaitingStreamInfo ≡ state_at b AwaitingStreamInfo
    by true = refl
    by false = refl
coded_behind AwaitingFormat u w s = by (is_idr u.nal_unit_type)
  where
    by : (b : Bool) → AwaitingFormat ≡ state_at b AwaitingFormat
    by true = refl
    by false = refl
coded_behind Decoding u w s = by (is_idr u.nal_unit_type)
  where
    by : (b : Bool) → Decoding ≡ state_at b Decoding
    by true = refl
    by false = refl
coded_behind Reset u w s = reset_behind u.is_wanted (is_idr u.nal_unit_type) (is_sequence_set u.meaning) w s

-- an IDR picture has slices
no_idr : (t : ℕ) → is_slice t ≡ false → is_idr t ≡ false
no_idr t no_slice = by (t == 19) (t == 20) refl refl
  where
    by : (a b : Bool) → (t == 19) ≡ a → (t == 20) ≡ b → (a || b) ≡ false
    by true b e f = let same : t ≡ 19 = grind (arith, nat_tests, e) in absurd (cc (sym no_slice ∙ ap is_slice same))
    by false true e f = let same : t ≡ 20 = grind (arith, nat_tests, f) in absurd (cc (sym no_slice ∙ ap is_slice same))
    by false false e f = refl

-- a unit that isn't decoded ends no wait
still : (b : Bool) (st : State) → is_decoding (state_at b st) ≡ false → state_at b st ≡ st
still true AwaitingStreamInfo h = refl
still true AwaitingFormat h = refl
still true Decoding h = refl
still true Reset h = absurd (cc h)
still false AwaitingStreamInfo h = refl
still false AwaitingFormat h = refl
still false Decoding h = refl
still false Reset h = refl

still_false : (st : State) → state_at false st ≡ st
still_false AwaitingStreamInfo = refl
still_false AwaitingFormat = refl
still_false Decoding = refl
still_false Reset = refl

same_later : (m : Meaning) → is_sequence_set m ≡ false → later_meaning m ≡ m
same_later (SequenceSet format) is = absurd (cc is)
same_later (CodedSlice s) is = refl
same_later EndOfSequence is = refl
same_later EndOfBitstream is = refl
same_later Other is = refl
same_later (Refused cause) is = refl

-- while nothing is waited for it means what it says
pub coded_means : (st : State) (u : Unit) → is_decoding st ≡ true → is_sequence_set u.meaning ≡ false
    → meaning_when st u ≡ u.meaning
coded_means AwaitingStreamInfo u d s = absurd (cc d)
coded_means AwaitingFormat u d s = absurd (cc d)
coded_means Decoding u d s = same_later u.meaning s
coded_means Reset u d s = absurd (cc d)

-- else it is passed over
pub coded_waits : (st : State) (u : Unit) → is_decoding st ≡ false
    → is_parameter_set u.nal_unit_type ≡ false → meaning_when st u ≡ Other
coded_waits AwaitingStreamInfo u d p = ap (λ (b : Bool). if b then u.meaning else Other) p
coded_waits AwaitingFormat u d p = ap (λ (b : Bool). if b then later_meaning u.meaning else Other) p
coded_waits Decoding u d p = absurd (cc d)
coded_waits Reset u d p = ap (λ (b : Bool). if b then later_meaning u.meaning else Other) p

-- ---- steps

pub end_step : {B H : Type 0} (logs : B → Option (List (Call H))) (handeds : B
    → Option (List Handed)) (framed : B → Frames) (t : Given) (view now : View B H) (m : Meaning)
    → m ≡ EndOfSequence → now ≡ record view { standing = (step_part EndOfSequence view.standing).next }
    → Goes t (traces_at logs handeds framed view) (traces_at logs handeds framed now) m view.standing now.standing
end_step logs handeds framed t view now m is same =
    rw same (rw is (ends t (traces_at logs handeds framed view) view.standing))

pub close_step : {B H : Type 0} (logs : B → Option (List (Call H))) (handeds : B
    → Option (List Handed)) (framed : B → Frames) (t : Given) (view now : View B H) (m : Meaning)
    → m ≡ EndOfBitstream → now ≡ record view { standing = (step_part EndOfBitstream view.standing).next }
    → Goes t (traces_at logs handeds framed view) (traces_at logs handeds framed now) m view.standing now.standing
close_step logs handeds framed t view now m is same =
    rw same (rw is (closes t (traces_at logs handeds framed view) view.standing))

pub idle_step : {B H : Type 0} (logs : B → Option (List (Call H))) (handeds : B
    → Option (List Handed)) (framed : B → Frames) (t : Given) (view : View B H) (m : Meaning) → m ≡ Other
    → Goes t (traces_at logs handeds framed view) (traces_at logs handeds framed view) m view.standing view.standing
idle_step logs handeds framed t view m is = rw is (idle_unit t (traces_at logs handeds framed view) view.standing)

module _ (o : Options) (k : Kept) (bytes : List ℕ) (h : UnitHeader) (parsed : unit_header bytes ≡ Ok h) where
  abbrev u : Unit
  u = unit_at o k h bytes

  -- ---- a unit that isn't wanted

  unwanted_means : wants o h ≡ false → u.meaning ≡ Other
  unfolding meaning
  unwanted_means above =
      ap (meaning_of o (record k { has_sequence_set = true }) bytes)
      (of_unwanted o k bytes h parsed above (record k { has_sequence_set = true }))

  unwanted_behind : (st : State) → wants o h ≡ false → state_behind st u ≡ st
  unwanted_behind AwaitingStreamInfo above = refl
  unwanted_behind AwaitingFormat above = refl
  unwanted_behind Decoding above = refl
  unwanted_behind Reset above =
      ap (λ (b : Bool). if b && (is_idr h.nal_unit_type || is_sequence_set u.meaning) then Decoding else Reset) above

  other_either : (b : Bool) (m : Meaning) → m ≡ Other → (if b then m else Other) ≡ Other
  other_either true m is = is
  other_either false m is = refl

  unwanted_when : (st : State) → u.meaning ≡ Other → meaning_when st u ≡ Other
  unwanted_when AwaitingStreamInfo is = other_either (is_parameter_set h.nal_unit_type) u.meaning is
  unwanted_when AwaitingFormat is =
      other_either (is_parameter_set h.nal_unit_type) (later_meaning u.meaning) (ap later_meaning is)
  unwanted_when Decoding is = ap later_meaning is
  unwanted_when Reset is =
      other_either (is_parameter_set h.nal_unit_type) (later_meaning u.meaning) (ap later_meaning is)

  unwanted_kept : wants o h ≡ false → k ≡ kept_behind o k bytes
  unfolding kept_behind
  unwanted_kept above = sym (ap (λ (c : Content). with_content o bytes c k) (of_unwanted o k bytes h parsed above k))

  pub unwanted_step : {B H T : Type 0} (value : T) (t : Given) (log : Option (List (Call H)))
      (handed : Option (List Handed)) (asked : Option ℕ) (view : View B H)
      → wants o h ≡ false
      → Step (Ok value) t o h bytes (record {
        log = log;
        handed = handed;
        asked = asked;
        view = view;
        kept = k;
      }) (record { log = log; handed = handed; asked = asked; view = view; kept = k })
  unwanted_step value t log handed asked view above = record {
    takes = record {
      part = subst
          (λ (m : Meaning). Takes (Ok value) t (traces_of log handed asked view)
          (traces_of log handed asked view) m view.standing view.standing)
          (sym (ap (λ (x : State). meaning_when x u) (unwanted_behind view.state above)
          ∙ unwanted_when view.state (unwanted_means above)))
          (idle_unit t (traces_of log handed asked view) view.standing);
      state = sym (unwanted_behind view.state above);
      latest = sym
          (ap (λ (m : Meaning). latest_at m (own_header o k bytes) view.latest)
          (ap (λ (x : State). meaning_when x u) (unwanted_behind view.state above)
          ∙ unwanted_when view.state (unwanted_means above)));
    };
    kept = unwanted_kept above;
  }

  -- ---- units that are no parameter sets

  module _ (wanted : wants o h ≡ true) (other : is_parameter_set h.nal_unit_type ≡ false) where
    behind : (st : State) → state_behind st u ≡ state_at (is_idr h.nal_unit_type) st
    behind st = coded_behind st u wanted (coded_isnt o k bytes h parsed wanted other)

    pub passed_step : {B H T : Type 0} (value : T) (t : Given) (log : Option (List (Call H)))
        (handed : Option (List Handed)) (asked : Option ℕ) (view : View B H) (at : Bool)
        → at ≡ is_idr h.nal_unit_type → is_decoding (state_at at view.state) ≡ false
        → Step (Ok value) t o h bytes (record {
          log = log;
          handed = handed;
          asked = asked;
          view = view;
          kept = k;
        }) (record { log = log; handed = handed; asked = asked; view = view; kept = k })
    passed_step {B} {H} {T} value t log handed asked view at is waits =
        let st : view.state ≡ state_behind view.state u = sym (still at view.state waits)
        ∙ ap (λ (b : Bool). state_at b view.state) is ∙ sym (behind view.state) in
        let m : meaning_in view.state u ≡ Other = ap (λ (x : State). meaning_when x u) (sym st)
        ∙ coded_waits view.state u (ap is_decoding (sym (still at view.state waits)) ∙ waits) other in
        record {
          takes = record {
            part = subst
                (λ (x : Meaning). Takes (Ok value) t (traces_of log handed asked view)
                (traces_of log handed asked view) x view.standing view.standing) (sym m)
                (idle_unit t (traces_of log handed asked view) view.standing);
            state = st;
            latest = sym (ap (λ (x : Meaning). latest_at x (own_header o k bytes) view.latest) m);
          };
          kept = coded_keeps o k bytes h parsed wanted other (Ok value);
        }

    means_in : {B H : Type 0} (view : View B H) (at : Bool) → at ≡ is_idr h.nal_unit_type
        → is_decoding (state_at at view.state) ≡ true → meaning_in view.state u ≡ u.meaning
    means_in view at is goes = ap (λ (x : State). meaning_when x u) (behind view.state)
        ∙ coded_means (state_at (is_idr h.nal_unit_type) view.state) u
        (ap (λ (b : Bool). is_decoding (state_at b view.state)) (sym is) ∙ goes)
        (coded_isnt o k bytes h parsed wanted other)

    pub taken_step : {B H T : Type 0} (r : Result T DecodeError) (t : Given)
        (log newlog : Option (List (Call H))) (handed newhanded : Option (List Handed))
        (asked newasked : Option ℕ) (view now : View B H) (at : Bool) (new : Kept)
        → at ≡ is_idr h.nal_unit_type → is_decoding (state_at at view.state) ≡ true → new ≡ k
        → TakesIn r t u.meaning (own_header o k bytes) (state_at (is_idr h.nal_unit_type) view.state)
        (moment_of log handed asked view) (moment_of newlog newhanded newasked now)
        → Step r t o h bytes (record { log = log; handed = handed; asked = asked; view = view; kept = k })
        (record { log = newlog; handed = newhanded; asked = newasked; view = now; kept = new })
    taken_step {B} {H} {T} r t log newlog handed newhanded asked newasked view now at new is goes kept takes =
        let st : state_at (is_idr h.nal_unit_type) view.state ≡ state_behind view.state u = sym (behind view.state) in
        let m : meaning_in view.state u ≡ u.meaning = means_in view at is goes in
        record {
          takes = subst
              (λ (x : Meaning). TakesIn r t x (own_header o k bytes) (state_behind view.state u)
              (moment_of log handed asked view) (moment_of newlog newhanded newasked now)) (sym m)
              (subst (λ (x : State). TakesIn r t u.meaning (own_header o k bytes) x
              (moment_of log handed asked view) (moment_of newlog newhanded newasked now)) st takes);
          kept = subst (λ (x : Kept). KeepsBehind r o bytes k x) (sym kept)
              (coded_keeps o k bytes h parsed wanted other r);
        }

    -- one that comes with what its meaning tells
    pub coded_step : {B H T : Type 0} (r : Result T DecodeError) (timestamp : ℕ) (read_ : ReadUnit)
        (log newlog : Option (List (Call H))) (handed newhanded : Option (List Handed))
        (asked newasked : Option ℕ) (view now : View B H) (at : Bool) (new : Kept)
        → at ≡ is_idr h.nal_unit_type → is_decoding (state_at at view.state) ≡ true → new ≡ k
        → TakesIn r (given_with timestamp u.meaning read_ view.standing) u.meaning (own_header o k bytes)
        (state_at (is_idr h.nal_unit_type) view.state) (moment_of log handed asked view)
        (moment_of newlog newhanded newasked now)
        → Step r (given_with timestamp (meaning_in view.state u) read_ view.standing) o h bytes (record {
          log = log;
          handed = handed;
          asked = asked;
          view = view;
          kept = k;
        }) (record { log = newlog; handed = newhanded; asked = newasked; view = now; kept = new })
    coded_step {B} {H} {T} r timestamp read_ log newlog handed newhanded asked newasked view now at new is
        goes kept takes =
        subst (λ (t : Given). Step r t o h bytes (record {
          log = log;
          handed = handed;
          asked = asked;
          view = view;
          kept = k;
        }) (record { log = newlog; handed = newhanded; asked = newasked; view = now; kept = new }))
        (ap (λ (x : Meaning). given_with timestamp x read_ view.standing) (sym (means_in view at is goes)))
        (taken_step r (given_with timestamp u.meaning read_ view.standing) log newlog handed newhanded asked
        newasked view now at new is goes kept takes)

    -- a unit that asks for no call
    pub ended_step : {B H T : Type 0} (logs : B → Option (List (Call H))) (handeds : B
        → Option (List Handed)) (framed : B → Frames) (value : T) (t : Given) (view now : View B H)
        (at : Bool) (new : Kept) → at ≡ is_idr h.nal_unit_type → is_decoding (state_at at view.state) ≡ true
        → is_slice h.nal_unit_type ≡ false → new ≡ k → now ≡ record view { standing = now.standing }
        → Goes t (traces_at logs handeds framed view)
        (traces_at logs handeds framed now) u.meaning view.standing now.standing
        → Step (Ok value) t o h bytes (record {
          log = logs view.backend;
          handed = handeds view.backend;
          asked = (framed view.backend).asked;
          view = view;
          kept = k;
        }) (record {
          log = logs now.backend;
          handed = handeds now.backend;
          asked = (framed now.backend).asked;
          view = now;
          kept = new;
        })
    ended_step logs handeds framed value t view now at new is goes no_slice kept same part =
        taken_step (Ok value) t (logs view.backend) (logs now.backend) (handeds view.backend)
        (handeds now.backend) (framed view.backend).asked (framed now.backend).asked view now at new is goes
        kept (record {
          part = part;
          state = ap (λ (v : View _ _). v.state) same
              ∙ sym (ap (λ (b : Bool). state_at b view.state) (no_idr h.nal_unit_type no_slice)
              ∙ still_false view.state);
          latest = ap (λ (v : View _ _). v.latest) same
              ∙ sym (ap (λ (own : Option PlainSliceSegmentHeader). latest_at u.meaning own view.latest)
              (own_none o k bytes h parsed wanted other no_slice) ∙ latest_without u.meaning view.latest);
        })
