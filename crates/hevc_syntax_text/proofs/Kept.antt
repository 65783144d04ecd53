-- What is kept after a unit.
use Rattle.std.proofs.Common.{◌≡◌, ◌≢◌, ℕ, Bool, true, false, cond, List, refl, sym, ap, ◌∙◌, subst}
use Rattle.std.proofs.Common.{arith, Option, Result, Ok, Err}
use Rattle.std.specs.Prelude.{◌==◌, IfOk, OnOk, not, drop}
use Rattle.hevc_spec.specs.Payload.{payload}
use Rattle.hevc_spec.specs.Table.{Fault, Reading, gives, refuses, read}
use Rattle.hevc_spec.specs.UnitHeader.{UnitHeader, HeaderFault, unit_header}
use Rattle.hevc_spec.specs.UnitTypes.{is_slice}
use Rattle.hevc_bits.specs.ParsedHeader.{answer_of, parsed_header}
use Rattle.hevc_bits.specs.declared.header.UnitError.{UnitError}
use Rattle.hevc_elements.specs.declared.parse_error.ParseError.{ParseError}
use Rattle.hevc_elements.specs.declared.parse_error.ParseError.TheVariants as errors
use Rattle.hevc_records.specs.Sps.{PlainSps}
use Rattle.hevc_records.specs.Pps.{PlainPps}
use Rattle.hevc_records.specs.SliceHeader.{PlainSliceSegmentHeader}
use Rattle.hevc_tables.specs.VpsTable.{video_parameter_set}
use Rattle.hevc_tables.specs.SpsTable.{sequence_parameter_set}
use Rattle.hevc_tables.specs.PpsTable.{picture_parameter_set}
use Rattle.hevc_tables.specs.SliceHeaderTable.{slice_segment_header, active_sets}
use Rattle.hevc_stream.specs.Options.{Options, default_options}
use Rattle.hevc_stream.specs.Slices.{temporal_id}
use Rattle.hevc_stream.specs.Kept.{Kept, with_sequence_set, with_set}
use Rattle.hevc_stream.specs.Contents.{Content, refused, video_set, sequence_set, slice, end_of_sequence}
use Rattle.hevc_stream.specs.Contents.{end_of_bitstream, nothing, content_read, picture_set_read}
use Rattle.hevc_stream.specs.Contents.{slice_content, coded_content, headed_content, content, wants}
use Rattle.hevc_stream.specs.Stream.{with_content, with_all_waited, kept_behind}
use Rattle.hevc_stream_laws.proofs.ByType.{of_video_set, of_sequence_set, of_picture_set}
use Rattle.hevc_rewrite_laws.proofs.AllWanted.{all_wanted, by_default}
use Rattle.hevc_rewrite_laws.proofs.Sequences.{is_sequence_set, other_sequences, own_sequences}
use Rattle.hevc_kept_sets.specs.Takes.{Refuses}
use Rattle.hevc_kept_sets.proofs.Sets.{behind_sequence_set}
use Rattle.hevc_syntax_text.specs.Standing.{Follow}

-- what follows from what holds on Ok
pub on_ok : {T E : Type 0} (r : Result T E) (P Q : Type 0) → (P → Q) → OnOk r P → OnOk r Q
on_ok (Ok x) P Q by p = by p
on_ok (Err e) P Q by p = tt

-- what holds anyway
pub always : {T E : Type 0} (r : Result T E) (P : Type 0) → P → OnOk r P
always (Ok x) P p = p
always (Err e) P p = tt

-- what doesn't depend on the value
pub plainly : {T E : Type 0} (r : Result T E) (P : Type 0) → IfOk r (λ x. P) → OnOk r P
plainly (Ok x) P p = p
plainly (Err e) P p = tt

-- a header that is parsed is the one that the model reads
pub header_is : (bytes : List ℕ) (h : UnitHeader) → parsed_header bytes ≡ Ok h → unit_header bytes ≡ Ok h
header_is bytes h e = by_result (unit_header bytes) e
  where
    by_result : (r : Result UnitHeader HeaderFault) → answer_of r ≡ Ok h → r ≡ Ok h
    by_result (Ok g) e = ap Ok (cc e)
    by_result (Err fault) e = absurd (cc e)

-- units of all sub-layers and layers are wanted
pub wanted : (o : Options) (bytes : List ℕ) (h : UnitHeader) → o ≡ default_options → parsed_header bytes ≡ Ok h
    → wants o h ≡ true
wanted o bytes h all parsed =
    subst (λ (p : Options). wants p h ≡ true) (sym all)
    (all_wanted default_options by_default bytes h (header_is bytes h parsed))

module _ (o : Options) (k : Kept) (bytes : List ℕ) where
  -- what is kept, by the content
  pub keeps : (c : Content) → content o k bytes ≡ c → kept_behind o k bytes ≡ with_content o bytes c k
  unfolding kept_behind
  keeps c is = ap (λ (x : Content). with_content o bytes x k) is

  -- a set that is refused changes nothing
  pub refused_keeps : (e : ParseError) (new : Kept) → e ≢ errors.NoMemory → Refuses o bytes e k new
      → new ≡ kept_behind o k bytes
  refused_keeps errors.WrongNaluType new isnt h = h.1 ∙ sym (keeps (refused h.0.0) h.0.1)
  refused_keeps errors.OutOfBits new isnt h = h.1 ∙ sym (keeps (refused h.0.0) h.0.1)
  refused_keeps (errors.OutOfRange table row) new isnt h = h.1 ∙ sym (keeps (refused h.0.0) h.0.1)
  refused_keeps (errors.MissingSps id) new isnt h = h.1 ∙ sym (keeps (refused h.0.0) h.0.1)
  refused_keeps (errors.MissingPps id) new isnt h = h.1 ∙ sym (keeps (refused h.0.0) h.0.1)
  refused_keeps errors.NoMemory new isnt h = absurd (isnt refl)

-- a unit that is no parameter set changes nothing
coded_keeps : (kept : Kept) (h : UnitHeader) (bytes : List ℕ)
    → with_content default_options bytes (coded_content kept h bytes) kept ≡ kept
coded_keeps kept h bytes =
    by_tests kept.has_sequence_set (is_slice h.nal_unit_type) (h.nal_unit_type == 36) (h.nal_unit_type == 37)
    (of_slice_read
    (read (slice_segment_header h.nal_unit_type (drop 2 bytes) (active_sets kept.sequence_sets kept.picture_sets))
    (payload bytes)))
  where
    of_slice_read : (r : Reading PlainSliceSegmentHeader)
        → with_content default_options bytes (content_read (slice h) r) kept ≡ kept
    of_slice_read (gives s rest) = refl
    of_slice_read (refuses fault rest) = refl

    by_tests : (has s t u : Bool) → with_content default_options bytes (slice_content kept h bytes) kept ≡ kept
        → with_content default_options bytes
        (cond (not has) nothing
        (cond s (slice_content kept h bytes) (cond t end_of_sequence (cond u end_of_bitstream nothing)))) kept ≡ kept
    by_tests false s t u e = refl
    by_tests true true t u e = e
    by_tests true false true u e = refl
    by_tests true false false true e = refl
    by_tests true false false false e = refl

-- a unit of another type changes nothing
pub other_keeps : (kept : Kept) (bytes : List ℕ) (h : UnitHeader) → parsed_header bytes ≡ Ok h
    → h.nal_unit_type ≢ 32 → h.nal_unit_type ≢ 33 → h.nal_unit_type ≢ 34
    → kept_behind default_options kept bytes ≡ kept
unfolding kept_behind content
other_keeps kept bytes h parsed video sequence picture =
    let is = header_is bytes h parsed in
    let all : wants default_options h ≡ true = all_wanted default_options by_default bytes h is in
    let v : (h.nal_unit_type == 32) ≡ false = grind (arith, video) in
    let s : (h.nal_unit_type == 33) ≡ false = grind (arith, sequence) in
    let p : (h.nal_unit_type == 34) ≡ false = grind (arith, picture) in
    rw (is, all, v, s, p) (coded_keeps kept h bytes)

-- nor does one whose header is refused
pub bare_keeps : (kept : Kept) (bytes : List ℕ) (e : UnitError) → parsed_header bytes ≡ Err e
    → kept_behind default_options kept bytes ≡ kept
unfolding kept_behind content
bare_keeps kept bytes e parsed = by_result (unit_header bytes) parsed
  where
    by_result : (r : Result UnitHeader HeaderFault) → answer_of r ≡ Err e
        → with_content default_options bytes (headed_content default_options kept bytes r) kept ≡ kept
    by_result (Ok h) f = absurd (cc f)
    by_result (Err fault) f = refl

-- ---- the sequence sets that are kept

-- a video set that is read or not is no sequence set
no_sequence_in : {A : Type 0} (means : A → Content) → ((x : A) → is_sequence_set (means x) ≡ false)
    → (r : Reading A) → is_sequence_set (content_read means r) ≡ false
no_sequence_in means none (gives x rest) = none x
no_sequence_in means none (refuses fault rest) = refl

-- nor is a picture set
no_sequence_waits : (r : Reading PlainPps) → is_sequence_set (picture_set_read r) ≡ false
no_sequence_waits (gives x rest) = refl
no_sequence_waits (refuses fault rest) = refl

module _ (bytes : List ℕ) (h : UnitHeader) (parsed : parsed_header bytes ≡ Ok h)
    (sets : ℕ → Option PlainSps) where
  is : unit_header bytes ≡ Ok h
  is = header_is bytes h parsed

  all : wants default_options h ≡ true
  all = all_wanted default_options by_default bytes h is

  -- the sequence sets stay after a video set
  pub video_follows : h.nal_unit_type ≡ 32 → Follow bytes sets sets
  video_follows typed kept before =
      let r = read video_parameter_set (payload bytes) in
      before
      ∙ sym (other_sequences bytes kept (content_read video_set r)
      (of_video_set default_options kept bytes h is all typed) (no_sequence_in video_set (λ _. refl) r))

  -- after a picture set
  pub picture_follows : h.nal_unit_type ≡ 34 → Follow bytes sets sets
  picture_follows typed kept before =
      let r = read (picture_parameter_set (temporal_id h) kept.sequence_sets) (payload bytes) in
      before
      ∙ sym (other_sequences bytes kept (picture_set_read r)
      (of_picture_set default_options kept bytes h is all typed) (no_sequence_waits r))

  -- and after a unit that is no set
  pub other_follows : h.nal_unit_type ≢ 32 → h.nal_unit_type ≢ 33 → h.nal_unit_type ≢ 34 → Follow bytes sets sets
  other_follows video sequence picture kept before =
      before ∙ ap (λ (k : Kept). k.sequence_sets) (sym (other_keeps kept bytes h parsed video sequence picture))

  -- a sequence set that is read is kept
  pub sequence_follows : (set : PlainSps) (rest : List Bool) → h.nal_unit_type ≡ 33
      → read sequence_parameter_set (payload bytes) ≡ gives set rest
      → Follow bytes sets (with_set set.seq_parameter_set_id set sets)
  sequence_follows set rest typed reads kept before =
      let c : content default_options kept bytes ≡ sequence_set set =
      of_sequence_set default_options kept bytes h is all typed ∙ ap (content_read sequence_set) reads in
      ap (with_set set.seq_parameter_set_id set) before ∙ sym (own_sequences bytes kept set c)

  -- and one that is refused changes nothing
  pub unread_follows : (fault : Fault) (rest : List Bool) → h.nal_unit_type ≡ 33
      → read sequence_parameter_set (payload bytes) ≡ refuses fault rest → Follow bytes sets sets
  unread_follows fault rest typed reads kept before =
      before
      ∙ sym (other_sequences bytes kept (content_read sequence_set (refuses fault rest))
      (of_sequence_set default_options kept bytes h is all typed ∙ ap (content_read sequence_set) reads) refl)

-- ---- a sequence set is kept, and the units that wait are tried

pub sequence_behind : (bytes : List ℕ) (h : UnitHeader) (o : Options) (old mid new : Kept) (set : PlainSps)
    → parsed_header bytes ≡ Ok h → o ≡ default_options → content o old bytes ≡ sequence_set set
    → mid ≡ with_sequence_set set old → new ≡ with_all_waited o mid → new ≡ kept_behind o old bytes
sequence_behind bytes h o old mid new set parsed all is kept read =
    read ∙ ap (with_all_waited o) kept
    ∙ sym (behind_sequence_set o bytes h (header_is bytes h parsed) (wanted o bytes h all parsed) old set is)
