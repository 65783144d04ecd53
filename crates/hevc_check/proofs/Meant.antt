-- What the units of a stream do to the walk.
use Rattle.std.proofs.Common.{◌≡◌, ℕ, ◌≤◌, Bool, true, false, List, refl, sym, ap, ◌∙◌, subst}
use Rattle.std.proofs.Common.{arith, Option, Some, None, Result, Ok, Err}
use Rattle.std.specs.Prelude.{drop, ◌==◌, ◌||◌, if◌then◌else◌, OnOk, IsSome, IsTrue, is_some, option_map}
use Rattle.std.proofs.lemmas.Bool.Decides.{nat_tests}
use Rattle.hevc_spec.specs.UnitTypes.{is_slice}
use Rattle.hevc_spec.specs.UnitHeader.{UnitHeader, unit_header}
use Rattle.hevc_spec.specs.Payload.{payload}
use Rattle.hevc_spec.specs.Table.{Reading, gives, refuses, out_of_bits, out_of_range, not_kept, read}
use Rattle.hevc_spec.specs.Rows.{row}
use Rattle.hevc_records.specs.Vps.{PlainVps}
use Rattle.hevc_records.specs.Sps.{PlainSps}
use Rattle.hevc_records.specs.Pps.{PlainPps}
use Rattle.hevc_records.specs.SliceHeader.{PlainSliceSegmentHeader}
use Rattle.hevc_tables.specs.SliceHeaderTable.{ActiveSets, active_sets, slice_segment_header}
use Rattle.hevc_tables.specs.PpsTable.{picture_parameter_set}
use Rattle.hevc_walk.specs.Meanings as causes
use Rattle.hevc_walk.specs.Meanings.{Format, Slice, UnitCause, Meaning, SequenceSet, CodedSlice}
use Rattle.hevc_walk.specs.Meanings.{EndOfSequence, EndOfBitstream, Other, Refused}
use Rattle.hevc_walk.specs.DependentSlices.{kept_header}
use Rattle.hevc_walk.specs.Pictures.{Head, head}
use Rattle.hevc_walk.specs.Walk.{Store, finish, prepare, begin_picture, is_decoded}
use Rattle.hevc_walk_fates.proofs.Accepted.{change-accepted}
use Rattle.hevc_walk_inputs.specs.Sequences.{format_of_set}
use Rattle.hevc_bits.specs.FoundUnit.{FoundUnit, bytes_of}
use Rattle.hevc_sequence_set.specs.declared.sps.Sps.{Sps}
use Rattle.hevc_sequence_set.specs.Sps.{plain_sps}
use Rattle.hevc_picture_slice.specs.declared.pps.Pps.{Pps}
use Rattle.hevc_picture_slice.specs.Pps.{plain_pps}
use Rattle.hevc_picture_slice.specs.declared.slice.Slice as code_slice
use Rattle.hevc_picture_slice.specs.SliceHeader.{plain_slice_header}
use Rattle.hevc_options.specs.declared.Options as code_options
use Rattle.hevc_options.specs.Options.{options_of}
use Rattle.hevc_elements.specs.Naming.{names_picture_set}
use Rattle.hevc_elements.specs.Sets.{RefusesSet, ReadsSet}
use Rattle.hevc_slice_header.specs.Answers.{slice_table, NamesNoSequenceSet}
use Rattle.hevc_parser.specs.Slices.{active_of}
use Rattle.hevc_driver.specs.Slices.{slice_of}
use Rattle.hevc_stateless.specs.States.{unit_at, is_parameter_set, is_sequence_set}
use Rattle.hevc_stateless.proofs.Coding.{of_unwanted, coded_keeps}
use Rattle.hevc_stateless_laws.proofs.Keeping.{other_is_nothing, kept_has, is_coded, none_coded}
use Rattle.hevc_elements.specs.declared.parse_error.ParseError.{ParseError}
use Rattle.hevc_elements.specs.declared.parse_error.ParseError.TheVariants as parse
use Rattle.hevc_stream.specs.Options.{Options}
use Rattle.hevc_stream.specs.Kept.{Kept, with_sequence_set}
use Rattle.hevc_stream.specs.Slices.{temporal_id, coded_slice, slice_segment_meaning}
use Rattle.hevc_stream.specs.Contents.{Content, refused, video_set, sequence_set, picture_set_read}
use Rattle.hevc_stream.specs.Contents.{slice, content_read, nothing, content, wants}
use Rattle.hevc_stream.specs.Stream.{meaning_of, meaning, kept_behind, with_content, with_all_waited}
use Rattle.hevc_stream_laws.proofs.ByType.{of_picture_set, of_slice}
use Rattle.hevc_kept_sets.specs.Kept.{kept_of, options_in}
use Rattle.hevc_kept_sets.specs.Takes as sets
use Rattle.hevc_kept_sets.proofs.Sets.{behind_sequence_set}
use Rattle.hevc_check.specs.declared.units.Walk.{Walk}
use Rattle.hevc_check.specs.Places.{Place, after_unit, first_slice, accepted_after, with_picture}
use Rattle.hevc_check.specs.Places.{with_first, TellsFirst, Takes}
use Rattle.hevc_check.specs.declared.begun.Begun.{Begun}
use Rattle.hevc_check.specs.declared.unlike.Unlike.{Unlike}
use Rattle.hevc_check.specs.declared.unlike.Unlike.TheVariants as unlike
use Rattle.hevc_check.specs.Walks.{TakesSet, TakesUnit, HasStarted}
use Rattle.hevc_check.proofs.Places.{entered_next, skipped_next}

pub on_ok : {T E : Type 0} (r : Result T E) (A B : Type 0) → (A → B) → OnOk r A → OnOk r B
on_ok (Ok value) A B f h = f h
on_ok (Err error) A B f h = tt

module _ (o : Options) (k : Kept) (bytes : List ℕ) where
  pub means : (c : Content) → content o k bytes ≡ c → meaning o k bytes ≡ meaning_of o k bytes c
  unfolding meaning
  means c is = ap (meaning_of o k bytes) is

  pub keeps : (c : Content) → content o k bytes ≡ c → kept_behind o k bytes ≡ with_content o bytes c k
  unfolding kept_behind
  keeps c is = ap (λ (x : Content). with_content o bytes x k) is

  read_or_not : (r : Reading PlainPps) → meaning_of o k bytes (picture_set_read r) ≡ Other
  read_or_not (gives set rest) = refl
  read_or_not (refuses fault rest) = refl

  -- a picture set asks nothing of the pictures
  pub picture_set_other : (h : UnitHeader) → unit_header bytes ≡ Ok h → wants o h ≡ true
      → h.nal_unit_type ≡ 34 → meaning o k bytes ≡ Other
  picture_set_other h parsed wanted t =
      let r = read (picture_parameter_set (temporal_id h) k.sequence_sets) (payload bytes) in
      means (picture_set_read r) (of_picture_set o k bytes h parsed wanted t) ∙ read_or_not r

  -- a set that is refused
  pub refused_set : (e : ParseError) (new : Kept) → (e ≡ parse.NoMemory → ⊥) → sets.Refuses o bytes e k new
      → (cause : UnitCause) × (content o k bytes ≡ refused cause) × (new ≡ k)
  refused_set parse.WrongNaluType new isnt h = (h.0.0, h.0.1, h.1)
  refused_set parse.OutOfBits new isnt h = (h.0.0, h.0.1, h.1)
  refused_set (parse.OutOfRange table row) new isnt h = (h.0.0, h.0.1, h.1)
  refused_set (parse.MissingSps id) new isnt h = (h.0.0, h.0.1, h.1)
  refused_set (parse.MissingPps id) new isnt h = (h.0.0, h.0.1, h.1)
  refused_set parse.NoMemory new isnt h = absurd (isnt refl)

-- ---- the units of parameter sets

pub idle_set : (bytes : List ℕ) (old new : Walk) (m : Meaning)
    → meaning (options_in old.sets) (kept_of old.sets) bytes ≡ m → first_slice m old.pictures ≡ None
    → after_unit m old.pictures ≡ old.pictures → new.pictures ≡ old.pictures
    → kept_of new.sets ≡ kept_behind (options_in old.sets) (kept_of old.sets) bytes → TakesSet bytes old new
idle_set bytes old new m is none idle same kept = record {
  first = ap (λ (x : Meaning). first_slice x old.pictures) is ∙ none;
  after_unit = same ∙ sym (ap (λ (x : Meaning). after_unit x old.pictures) is ∙ idle);
  kept = kept;
}

pub video_taken : (bytes : List ℕ) (old new : Walk) (set : PlainVps)
    → content (options_in old.sets) (kept_of old.sets) bytes ≡ video_set set → new.pictures ≡ old.pictures
    → kept_of new.sets ≡ kept_behind (options_in old.sets) (kept_of old.sets) bytes → TakesSet bytes old new
video_taken bytes old new set is same kept =
    idle_set bytes old new Other (means (options_in old.sets) (kept_of old.sets) bytes (video_set set) is) refl refl
    same kept

pub refused_taken : (bytes : List ℕ) (old new : Walk) (e : ParseError) → (e ≡ parse.NoMemory → ⊥)
    → sets.Refuses (options_in old.sets) bytes e (kept_of old.sets) (kept_of new.sets) → new.pictures ≡ old.pictures
    → TakesSet bytes old new
refused_taken bytes old new e isnt h same =
    let o = options_in old.sets in
    let k = kept_of old.sets in
    let r = refused_set o k bytes e (kept_of new.sets) isnt h in
    idle_set bytes old new (Refused r.0) (means o k bytes (refused r.0) r.1) refl refl same
    (r.2 ∙ sym (keeps o k bytes (refused r.0) r.1))

pub sequence_taken : (bytes : List ℕ) (old new : Walk) (h : UnitHeader) (set : PlainSps) (mid : Kept)
    → unit_header bytes ≡ Ok h → wants (options_in old.sets) h ≡ true
    → content (options_in old.sets) (kept_of old.sets) bytes ≡ sequence_set set
    → new.pictures ≡ after_unit (SequenceSet (format_of_set set)) old.pictures
    → mid ≡ with_sequence_set set (kept_of old.sets) → kept_of new.sets ≡ with_all_waited (options_in old.sets) mid
    → TakesSet bytes old new
sequence_taken bytes old new h set mid parsed wanted is next kept behind =
    let o = options_in old.sets in
    let k = kept_of old.sets in
    let m = means o k bytes (sequence_set set) is in
    record {
      first = ap (λ (x : Meaning). first_slice x old.pictures) m;
      after_unit = next ∙ sym (ap (λ (x : Meaning). after_unit x old.pictures) m);
      kept = behind ∙ ap (with_all_waited o) kept ∙ sym (behind_sequence_set o bytes h parsed wanted k set is);
    }

-- ---- a sequence set is found

pub some_of : {X A : Type 0} (view : X → A) (o : Option X) (found : Option A) → option_map view o ≡ found
    → IsSome found → IsSome o
some_of view (Some x) found is some = refl
some_of view None found is some = subst IsSome (sym is) some

pub named_of : {X A : Type 0} (view : X → A) (o : Option X) (x : X) (set : A) → o ≡ Some x
    → option_map view o ≡ Some set → view x ≡ set
named_of view o x set here is = let all : Some (view x) ≡ Some set = ap (option_map view) (sym here) ∙ is in cc all

pub found_by_id : (set : PlainSps) (k new : Kept) (id : ℕ) → set.seq_parameter_set_id ≡ id
    → new ≡ with_sequence_set set k → new.sequence_sets id ≡ Some set
found_by_id set k new id at kept =
    let here : (id == set.seq_parameter_set_id) ≡ true = grind (arith, nat_tests, at) in
    ap (λ (x : Kept). x.sequence_sets id) kept ∙ ap (λ (b : Bool). if b then Some set else k.sequence_sets id) here

-- ---- slices

-- what was read of a slice segment was read of its unit
pub of_unit : {X : Type 0} (given held : FoundUnit UnitHeader) → held ≡ given
    → (kept : Kept) (h : PlainSliceSegmentHeader) (r : Result X ParseError)
    → (IsTrue (is_slice held.header.nal_unit_type)
    → ReadsSet (λ (_ : X). h) r (read (slice_table (active_of kept) held) (payload (bytes_of held))))
    → IsTrue (is_slice given.header.nal_unit_type)
    → ReadsSet (λ (_ : X). h) r (read (slice_table (active_of kept) given) (payload (bytes_of given)))
of_unit {X} given held same kept h r reads =
    subst (λ (u : FoundUnit UnitHeader). IsTrue (is_slice u.header.nal_unit_type)
    → ReadsSet (λ (_ : X). h) r (read (slice_table (active_of kept) u) (payload (bytes_of u)))) same reads

pub coded_of : (options : code_options.Options) (o : Options) (nalu : FoundUnit UnitHeader) (s : code_slice.Slice)
    (sps : Sps) (pps : Pps) → options_of options ≡ o → s.nalu ≡ nalu
    → coded_slice o nalu.header (bytes_of nalu) (plain_slice_header s.header)
    (record { sps = plain_sps sps; pps = plain_pps pps }) ≡ slice_of options s sps pps
unfolding slice_of
coded_of options o nalu s sps pps same unit =
    ap (λ (x : Options). coded_slice x nalu.header (bytes_of nalu) (plain_slice_header s.header)
    (record { sps = plain_sps sps; pps = plain_pps pps })) (sym same)
    ∙ ap (λ (n : FoundUnit UnitHeader). coded_slice (options_of options) n.header (bytes_of n)
    (plain_slice_header s.header) (record { sps = plain_sps sps; pps = plain_pps pps })) (sym unit)

module _ (o : Options) (k : Kept) (bytes : List ℕ) (h : UnitHeader) (parsed : unit_header bytes ≡ Ok h)
    (wanted : wants o h ≡ true) where
  module _ (has : k.has_sequence_set ≡ true) (typed : is_slice h.nal_unit_type ≡ true) where
    abbrev reading : Reading PlainSliceSegmentHeader
    reading =
        read (slice_segment_header h.nal_unit_type (drop 2 bytes) (active_sets k.sequence_sets k.picture_sets))
        (payload bytes)

    slice_means : (r : Reading PlainSliceSegmentHeader) → reading ≡ r
        → meaning o k bytes ≡ meaning_of o k bytes (content_read (slice h) r)
    slice_means r is =
        means o k bytes (content_read (slice h) r)
        (of_slice o k bytes h parsed wanted has typed ∙ ap (content_read (slice h)) is)

    -- what it means with the sets that it names
    pub segment_means : (segment : PlainSliceSegmentHeader) (rest : List Bool) (sets : Option ActiveSets)
        → reading ≡ gives segment rest → active_sets k.sequence_sets k.picture_sets segment.pic_parameter_set_id ≡ sets
        → meaning o k bytes ≡ slice_segment_meaning o h bytes segment sets
    segment_means segment rest sets is active =
        slice_means (gives segment rest) is ∙ ap (slice_segment_meaning o h bytes segment) active

    -- it is refused, unless an allocation fails
    pub segment_refused : (e : ParseError) → (e ≡ parse.NoMemory → ⊥) → RefusesSet e reading → NamesNoSequenceSet e
        → (cause : UnitCause) × (meaning o k bytes ≡ Refused cause)
    segment_refused parse.WrongNaluType isnt why names = absurd why
    segment_refused parse.OutOfBits isnt why names = (causes.OutOfBits, slice_means (refuses out_of_bits why.0) why.1)
    segment_refused (parse.OutOfRange table number) isnt why names =
        (causes.OutOfRange table number, slice_means (refuses (out_of_range (row table number)) why.0) why.1)
    segment_refused (parse.MissingSps id) isnt why names = absurd names
    segment_refused (parse.MissingPps id) isnt why names =
        (causes.MissingPps id, slice_means (refuses (not_kept names_picture_set id) why.0) why.1)
    segment_refused parse.NoMemory isnt why names = absurd (isnt refl)

  -- ---- units that are no parameter sets

  module _ (other : is_parameter_set h.nal_unit_type ≡ false) where
    -- before the first sequence set
    pub unstarted_means : k.has_sequence_set ≡ false → meaning o k bytes ≡ Other
    unstarted_means none = means o k bytes nothing (other_is_nothing o k bytes h parsed other none)

    -- after it
    pub started_means : (m : Meaning) → (unit_at o k h bytes).meaning ≡ m → k.has_sequence_set ≡ true
        → meaning o k bytes ≡ m
    started_means m is has = sym (ap (λ (b : Bool). meaning o (record k { has_sequence_set = b }) bytes) (sym has)) ∙ is

-- a unit that isn't wanted
pub unwanted_means : (o : Options) (k : Kept) (bytes : List ℕ) (h : UnitHeader) → unit_header bytes ≡ Ok h
    → wants o h ≡ false → (meaning o k bytes ≡ Other) × (k ≡ kept_behind o k bytes)
unwanted_means o k bytes h parsed above =
    let c = of_unwanted o k bytes h parsed above k in (means o k bytes nothing c, sym (keeps o k bytes nothing c))

-- ---- whether a format was negotiated

begun_accepted : (s : Slice) (w : Place) → is_some (with_picture s w).store.accepted ≡ true
begun_accepted s w = by (is_decoded p) refl
  where
    p : Head
    p = head w.next s

    t : Store
    t = (prepare w.latest p w.store).next

    by : (b : Bool) → is_decoded p ≡ b → is_some (begin_picture p s t).next.accepted ≡ true
    by true e =
        ap (λ (x : Store). is_some x.accepted) (entered_next p s t e)
        ∙ ap is_some (change-accepted p.format (finish w.latest w.store).next)
    by false e =
        ap (λ (x : Store). is_some x.accepted) (skipped_next p s t e)
        ∙ ap is_some (change-accepted p.format (finish w.latest w.store).next)

pub accepted_by : (m : Meaning) (w : Place) → (is_coded m ≡ true → is_some w.store.accepted ≡ true)
    → is_some (after_unit m w).store.accepted ≡ (is_sequence_set m || is_some w.store.accepted)
accepted_by (SequenceSet format) w coded = by w.store.accepted
  where
    by : (a : Option Format) → is_some (accepted_after a format) ≡ true
    by None = refl
    by (Some a) = refl
accepted_by (CodedSlice s) w coded = by (first_slice (CodedSlice s) w)
  where
    by : (f : Option Slice)
        → is_some (with_first f (record w { kept = kept_header w.kept s })).store.accepted ≡ is_some w.store.accepted
    by None = refl
    by (Some t) = begun_accepted t (record w { kept = kept_header w.kept s }) ∙ sym (coded refl)
accepted_by EndOfSequence w coded = refl
accepted_by EndOfBitstream w coded = refl
accepted_by Other w coded = refl
accepted_by (Refused cause) w coded = refl

pub started_after : (bytes : List ℕ) (old new : Walk) (h : UnitHeader) → unit_header bytes ≡ Ok h → HasStarted old
    → new.pictures ≡ after_unit (meaning (options_in old.sets) (kept_of old.sets) bytes) old.pictures
    → kept_of new.sets ≡ kept_behind (options_in old.sets) (kept_of old.sets) bytes → HasStarted new
started_after bytes old new h parsed started next kept =
    ap (λ (w : Place). is_some w.store.accepted) next
    ∙ accepted_by m old.pictures coded
    ∙ ap (λ (b : Bool). is_sequence_set m || b) started
    ∙ sym (ap (λ (k : Kept). k.has_sequence_set) kept ∙ kept_has o k bytes)
  where
    o : Options
    o = options_in old.sets

    k : Kept
    k = kept_of old.sets

    m : Meaning
    m = meaning o k bytes

    coded : is_coded m ≡ true → is_some old.pictures.store.accepted ≡ true
    coded is = by k.has_sequence_set refl
      where
        by : (b : Bool) → k.has_sequence_set ≡ b → is_some old.pictures.store.accepted ≡ true
        by true e = started ∙ e
        by false e = absurd (cc (sym (none_coded o k bytes h parsed e) ∙ is))

-- ---- units that are taken

-- no picture begins
pub idle_takes : (u m : Meaning) (w new : Place) → u ≡ m → first_slice m w ≡ None → new ≡ after_unit m w
    → Takes (Ok None) u w new
idle_takes u m w new is none next = (
  subst (λ (f : Option Slice). TellsFirst f w None) (sym (ap (λ (x : Meaning). first_slice x w) is ∙ none)) refl,
  next ∙ ap (λ (x : Meaning). after_unit x w) (sym is),
)

pub set_taken : (bytes : List ℕ) (old new : Walk) (h : UnitHeader) → unit_header bytes ≡ Ok h → HasStarted old
    → TakesSet bytes old new → TakesUnit (Ok None) bytes old new
set_taken bytes old new h parsed started t = record {
  takes = (subst (λ (f : Option Slice). TellsFirst f old.pictures None) (sym t.first) refl, t.after_unit);
  kept = (t.kept, started_after bytes old new h parsed started t.after_unit t.kept);
}

pub unwanted_taken : (bytes : List ℕ) (old : Walk) (h : UnitHeader) → unit_header bytes ≡ Ok h → HasStarted old
    → wants (options_in old.sets) h ≡ false → TakesUnit (Ok None) bytes old old
unwanted_taken bytes old h parsed started above =
    let u = unwanted_means (options_in old.sets) (kept_of old.sets) bytes h parsed above in
    record { takes = idle_takes _ Other old.pictures old.pictures u.0 refl refl; kept = (u.1, started) }

pub coded_taken : (r : Result (Option Begun) Unlike) (bytes : List ℕ) (old new : Walk) (h : UnitHeader)
    → unit_header bytes ≡ Ok h → wants (options_in old.sets) h ≡ true
    → is_parameter_set h.nal_unit_type ≡ false → HasStarted old
    → Takes r (meaning (options_in old.sets) (kept_of old.sets) bytes) old.pictures new.pictures → new.sets ≡ old.sets
    → TakesUnit r bytes old new
coded_taken (Ok told) bytes old new h parsed wanted other started takes same =
    let kept =
    ap kept_of same
    ∙ coded_keeps (options_in old.sets) (kept_of old.sets) bytes h parsed wanted other {T = Unit {0}} (Ok tt) in
    record { takes = takes; kept = (kept, started_after bytes old new h parsed started takes.1 kept) }
coded_taken (Err unlike.Refused) bytes old new h parsed wanted other started takes same =
    record { takes = takes; kept = tt }
coded_taken (Err unlike.NoMemory) bytes old new h parsed wanted other started takes same =
    record { takes = takes; kept = tt }
