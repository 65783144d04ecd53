-- The units of slice segments.
use Rattle.std.proofs.Common.{◌≡◌, ℕ, ◌≤◌, List, refl, sym, ◌∙◌, ap, subst, Option, Result, Ok, Err, Bool, true}
use Rattle.std.specs.Prelude.{IsTrue, drop}
use Rattle.hevc_spec.specs.UnitTypes.{is_slice}
use Rattle.hevc_spec.specs.UnitHeader.{UnitHeader, unit_header}
use Rattle.hevc_spec.specs.Payload.{payload}
use Rattle.hevc_spec.specs.Table.{Reading, gives, refuses, out_of_bits, out_of_range, not_kept, read}
use Rattle.hevc_spec.specs.Rows.{row}
use Rattle.hevc_records.specs.SliceHeader.{PlainSliceSegmentHeader}
use Rattle.hevc_tables.specs.SliceHeaderTable.{ActiveSets, active_sets, slice_segment_header}
use Rattle.hevc_walk.specs.Meanings as causes
use Rattle.hevc_walk.specs.Meanings.{UnitCause, Meaning, CodedSlice, Refused, MissingPps}
use Rattle.hevc_elements.specs.declared.parse_error.ParseError.{ParseError}
use Rattle.hevc_elements.specs.declared.parse_error.ParseError.TheVariants as parse
use Rattle.hevc_elements.specs.Naming.{names_picture_set}
use Rattle.hevc_elements.specs.Sets.{RefusesSet, ReadsSet}
use Rattle.hevc_slice_header.specs.Answers.{slice_table, NamesNoSequenceSet}
use Rattle.hevc_stream.specs.Options.{Options}
use Rattle.hevc_stream.specs.Kept.{Kept}
use Rattle.hevc_stream.specs.Slices.{coded_slice, slice_segment_meaning}
use Rattle.hevc_stream.specs.Contents.{slice, content_read, wants}
use Rattle.hevc_stream.specs.Stream.{meaning_of}
use Rattle.hevc_stream_laws.proofs.ByType.{of_slice}
use Rattle.hevc_walk_units.specs.Units.{Standing}
use Rattle.hevc_bits.specs.FoundUnit.{FoundUnit, bytes_of}
use Rattle.hevc_sequence_set.specs.declared.sps.Sps.{Sps}
use Rattle.hevc_sequence_set.specs.Sps.{plain_sps}
use Rattle.hevc_picture_slice.specs.declared.pps.Pps.{Pps}
use Rattle.hevc_picture_slice.specs.Pps.{plain_pps}
use Rattle.hevc_picture_slice.specs.declared.slice.Slice as code_slice
use Rattle.hevc_picture_slice.specs.SliceHeader.{plain_slice_header}
use Rattle.hevc_options.specs.declared.Options as code_options
use Rattle.hevc_options.specs.Options.{options_of}
use Rattle.hevc_driver.specs.Slices.{slice_of}
use Rattle.hevc_driver.specs.Errors.{cause_error}
use Rattle.hevc_driver.specs.Given.{Given}
use Rattle.hevc_driver.specs.Does.{Traces}
use Rattle.hevc_driver.specs.Takes.{Takes}
use Rattle.hevc_stateless.specs.declared.state.State.{State}
use Rattle.hevc_parser.specs.Slices.{active_of}
use Rattle.hevc_stateless.specs.States.{unit_at}
use Rattle.std.specs.Prelude.{Some}
use Rattle.hevc_walk.specs.Meanings.{Slice}
use Rattle.hevc_driver.specs.Headers.{whole_header}
use Rattle.hevc_driver.specs.Given.{given_at}
use Rattle.hevc_stateless.specs.Segments.{header_in, latest_at, own_header, read_at, with_sets}
use Rattle.hevc_stateless.specs.Segments.{segment_with, given_with}
use Rattle.hevc_stateless.specs.Steps.{Acts, TakesIn}
use Rattle.hevc_stateless.specs.Refusals.{IsOfUnit, refusal_of}
use Rattle.hevc_stateless.proofs.Passing.{refused_unit, refused_moves}
use Rattle.hevc_stateless.proofs.Setting.{means}

-- what was read of a slice segment was read of its unit
pub of_unit : {X : Type 0} (given held : FoundUnit UnitHeader) → held ≡ given
    → (kept : Kept) (h : PlainSliceSegmentHeader) (r : Result X ParseError)
    → (IsTrue (is_slice held.header.nal_unit_type)
    → ReadsSet (λ (_ : X). h) r (read (slice_table (active_of kept) held) (payload (bytes_of held))))
    → IsTrue (is_slice given.header.nal_unit_type)
    → ReadsSet (λ (_ : X). h) r (read (slice_table (active_of kept) given) (payload (bytes_of given)))
of_unit {X} given held same kept h r reads =
    subst (λ (u : FoundUnit UnitHeader). IsTrue (is_slice u.header.nal_unit_type)
    → ReadsSet (λ (_ : X). h) r (read (slice_table (active_of kept) u) (payload (bytes_of u)))) same reads

-- the error of a slice's unit
pub of_slice_unit : {A : Type 0} (e : ParseError) (reading : Reading A) → RefusesSet e reading
    → NamesNoSequenceSet e → IsOfUnit e
of_slice_unit parse.WrongNaluType reading why names = why
of_slice_unit parse.OutOfBits reading why names = tt
of_slice_unit (parse.OutOfRange table number) reading why names = tt
of_slice_unit (parse.MissingSps id) reading why names = names
of_slice_unit (parse.MissingPps id) reading why names = tt
of_slice_unit parse.NoMemory reading why names = tt

module _ (o : Options) (k : Kept) (bytes : List ℕ) (h : UnitHeader) (parsed : unit_header bytes ≡ Ok h)
    (wanted : wants o h ≡ true) (typed : is_slice h.nal_unit_type ≡ true) where
  abbrev reading : Reading PlainSliceSegmentHeader
  reading = read
      (slice_segment_header h.nal_unit_type (drop 2 bytes) (active_sets k.sequence_sets k.picture_sets)) (payload bytes)

  slice_means : (r : Reading PlainSliceSegmentHeader) → reading ≡ r
      → (unit_at o k h bytes).meaning ≡ meaning_of o (record k { has_sequence_set = true }) bytes
      (content_read (slice h) r)
  slice_means r is =
      means o k bytes h parsed wanted (content_read (slice h) r)
      (of_slice o (record k { has_sequence_set = true }) bytes h parsed wanted refl typed
      ∙ ap (content_read (slice h)) is)

  -- what it means with the sets that it names
  pub segment_means : (segment : PlainSliceSegmentHeader) (rest : List Bool) (sets : Option ActiveSets)
      → reading ≡ gives segment rest
      → active_sets k.sequence_sets k.picture_sets segment.pic_parameter_set_id ≡ sets
      → (unit_at o k h bytes).meaning ≡ slice_segment_meaning o h bytes segment sets
  segment_means segment rest sets is active = slice_means (gives segment rest) is
      ∙ ap (slice_segment_meaning o h bytes segment) active

  -- its header
  pub segment_own : (segment : PlainSliceSegmentHeader) (rest : List Bool) → reading ≡ gives segment rest
      → own_header o k bytes ≡ Some segment
  segment_own segment rest is =
      ap header_in (of_slice o (record k { has_sequence_set = true }) bytes h parsed wanted refl typed
      ∙ ap (content_read (slice h)) is)

  -- what comes with it
  pub segment_given : (timestamp : ℕ) (latest : Option PlainSliceSegmentHeader) (s : Standing)
      (segment : PlainSliceSegmentHeader) (rest : List Bool) (sets : ActiveSets) (x : Slice)
      → reading ≡ gives segment rest
      → active_sets k.sequence_sets k.picture_sets segment.pic_parameter_set_id ≡ Some sets
      → (unit_at o k h bytes).meaning ≡ CodedSlice x
      → given_at timestamp x (with_sets (Some sets) (whole_header latest segment)) s ≡ given_with timestamp
      (unit_at o k h bytes).meaning (read_at o k latest bytes) s
  segment_given timestamp latest s segment rest sets x is active means =
      ap (λ (a : Option ActiveSets). given_at timestamp x (with_sets a (whole_header latest segment)) s) (sym active)
      ∙ ap (λ (own : Option PlainSliceSegmentHeader). given_at timestamp x (segment_with k latest own) s)
      (sym (segment_own segment rest is))
      ∙ ap (λ (m : Meaning). given_with timestamp m (read_at o k latest bytes) s) (sym means)

  module _ {H : Type 0} (T : Type 0) (t : Given) (a : Traces H) (s : Standing)
      (latest : Option PlainSliceSegmentHeader) (before state : State) where
    -- it is refused for a cause
    refused_for : (cause : UnitCause) → (unit_at o k h bytes).meaning ≡ Refused cause
        → Acts {T = T} (Err (cause_error cause)) t (unit_at o k h bytes).meaning
        (own_header o k bytes) state (record { traces = a; standing = s; state = before; latest = latest })
        (record { traces = a; standing = s; state = state; latest = latest })
    refused_for cause is = record {
      part = subst (λ (m : Meaning). Takes {T = T} (Err (cause_error cause)) t a a m s s) (sym is)
          (refused_unit T cause t a s);
      state = refused_moves T cause state state refl;
      latest = sym (ap (λ (m : Meaning). latest_at m (own_header o k bytes) latest) is);
    }

    -- unless an allocation fails
    pub segment_refused : (e : ParseError) → (e ≡ parse.NoMemory → ⊥) → RefusesSet e reading
        → NamesNoSequenceSet e
        → TakesIn {T = T} (Err (refusal_of e)) t (unit_at o k h bytes).meaning (own_header o k bytes) state
        (record { traces = a; standing = s; state = before; latest = latest }) (record {
          traces = a;
          standing = s;
          state = state;
          latest = latest;
        })
    segment_refused parse.WrongNaluType isnt why names = absurd why
    segment_refused parse.OutOfBits isnt why names =
        refused_for causes.OutOfBits (slice_means (refuses out_of_bits why.0) why.1)
    segment_refused (parse.OutOfRange table number) isnt why names =
        refused_for (causes.OutOfRange table number)
        (slice_means (refuses (out_of_range (row table number)) why.0) why.1)
    segment_refused (parse.MissingSps id) isnt why names = absurd names
    segment_refused (parse.MissingPps id) isnt why names =
        refused_for (MissingPps id) (slice_means (refuses (not_kept names_picture_set id) why.0) why.1)
    segment_refused parse.NoMemory isnt why names = absurd (isnt refl)

-- ---- what the code's words mean

pub coded_of : (options : code_options.Options) (o : Options) (nalu : FoundUnit UnitHeader)
    (s : code_slice.Slice) (sps : Sps) (pps : Pps) → options_of options ≡ o → s.nalu ≡ nalu
    → coded_slice o nalu.header (bytes_of nalu) (plain_slice_header s.header) (record {
      sps = plain_sps sps;
      pps = plain_pps pps;
    }) ≡ slice_of options s sps pps
unfolding slice_of
coded_of options o nalu s sps pps same unit =
    ap (λ (x : Options). coded_slice x nalu.header (bytes_of nalu) (plain_slice_header s.header) (record {
      sps = plain_sps sps;
      pps = plain_pps pps;
    })) (sym same)
    ∙ ap (λ (n : FoundUnit UnitHeader). coded_slice (options_of options) n.header (bytes_of n)
    (plain_slice_header s.header) (record { sps = plain_sps sps; pps = plain_pps pps })) (sym unit)
