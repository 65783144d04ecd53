-- What is written for one unit.
use Rattle.std.proofs.Common.{◌≡◌, ◌≢◌, ℕ, Bool, true, false, cond, List, [], ◌∷◌, ◌++◌, refl}
use Rattle.std.proofs.Common.{sym, ap, ◌∙◌, subst, inl, inr, Option, Result, Ok, Err, arith}
use Rattle.std.specs.Prelude.{◌==◌, OnOk, not, drop}
use Rattle.hevc_elements.specs.declared.parse_error.ParseError.{ParseError}
use Rattle.hevc_elements.specs.declared.parse_error.ParseError.TheVariants.{WrongNaluType}
use Rattle.hevc_elements.specs.declared.parse_error.ParseError.TheVariants.{OutOfBits, OutOfRange}
use Rattle.hevc_elements.specs.declared.parse_error.ParseError.TheVariants.{MissingSps, MissingPps}
use Rattle.hevc_elements.specs.declared.parse_error.ParseError.TheVariants.{NoMemory}
use Rattle.hevc_elements.specs.Sets.{RefusesSet}
use Rattle.hevc_records.specs.SliceHeader.{PlainSliceSegmentHeader}
use Rattle.hevc_tables.specs.SliceHeaderTable.{active_sets, slice_segment_header}
use Rattle.hevc_spec.specs.Lines.{Line}
use Rattle.hevc_spec.specs.Payload.{payload, payload_after}
use Rattle.hevc_spec.specs.Table.{Table, Reading, Fault, gives, refuses, read}
use Rattle.hevc_spec.specs.UnitHeader.{UnitHeader, HeaderFault, unit_header}
use Rattle.hevc_spec.specs.UnitTypes.{is_slice}
use Rattle.hevc_spec.specs.Units.{NalUnit, kept_bytes, units_from}
use Rattle.hevc_reading_laws.proofs.TableLaws.{spelled_from_read}
use Rattle.hevc_bits.specs.declared.header.UnitError.{UnitError}
use Rattle.hevc_bits.specs.ParsedHeader.{answer_of, parsed_header}
use Rattle.hevc_bit_writer.specs.WrittenUnits.{started}
use Rattle.hevc_stream_pieces.specs.Pieces.{IsPiece, IsWholePiece}
use Rattle.hevc_records.specs.Pps.{PlainPps}
use Rattle.hevc_records.specs.Sps.{PlainSps}
use Rattle.hevc_records.specs.Vps.{PlainVps}
use Rattle.hevc_rewrite_laws.specs.Replaced.{is_all}
use Rattle.hevc_rewrite_laws.proofs.AllWanted.{all_wanted, by_default}
pub use Rattle.hevc_rewrite_laws.proofs.Sequences.{is_sequence_set, other_sequences, own_sequences}
use Rattle.hevc_stream.specs.Contents.{Content, refused, video_set, sequence_set, picture_set}
use Rattle.hevc_stream.specs.Contents.{unread_picture_set, slice, end_of_sequence, end_of_bitstream}
use Rattle.hevc_stream.specs.Contents.{nothing, content_read, picture_set_read, slice_content}
use Rattle.hevc_stream.specs.Contents.{coded_content, headed_content, content, wants}
use Rattle.hevc_stream.specs.Kept.{Kept}
use Rattle.hevc_stream.specs.Options.{default_options}
use Rattle.hevc_stream.specs.Slices.{temporal_id}
use Rattle.hevc_stream.specs.Stream.{kept_behind}
use Rattle.hevc_stream_laws.proofs.ByType.{of_video_set, of_sequence_set, of_picture_set}
use Rattle.hevc_tables.specs.VpsTable.{video_parameter_set}
use Rattle.hevc_tables.specs.SpsTable.{sequence_parameter_set}
use Rattle.hevc_tables.specs.PpsTable.{picture_parameter_set}
use Rattle.hevc_write_units.specs.Added.{AddsUnit}
use Rattle.hevc_write_units.specs.Payloads.{IsPayload}
use Rattle.hevc_write_units.specs.Values.{SetLines}
use Rattle.hevc_write.specs.Rewriting.{completed, is_read_set, set_lines}
use Rattle.hevc_write.specs.Steps.{TakesOne}
use Rattle.hevc_write.proofs.Pieces.{completed_piece, headed_complete, headed_piece}

-- a header that is parsed is the one that the model reads
pub header_is : (bytes : List ℕ) (h : UnitHeader) → parsed_header bytes ≡ Ok h → unit_header bytes ≡ Ok h
header_is bytes h e = by_result (unit_header bytes) e
  where
    by_result : (r : Result UnitHeader HeaderFault) → answer_of r ≡ Ok h → r ≡ Ok h
    by_result (Ok g) e = ap Ok (cc e)
    by_result (Err fault) e = absurd (cc e)

-- a test has one answer
not_both : (b : Bool) → b ≡ true → b ≡ false → ⊥
not_both b e f = cc (sym e ∙ f)

-- ---- what is written anew

-- a set that is read is of all sub-layers
read_is_all : (c : Content) → is_read_set c ≡ true → is_all c ≡ true
read_is_all (refused cause) e = refl
read_is_all (video_set set) e = refl
read_is_all (sequence_set set) e = refl
read_is_all (picture_set set) e = refl
read_is_all unread_picture_set e = absurd cc
read_is_all (slice h s) e = absurd cc
read_is_all end_of_sequence e = refl
read_is_all end_of_bitstream e = refl
read_is_all nothing e = refl

-- a set is written anew
pub anew : (kept : Kept) (bytes : List ℕ) (header : UnitHeader) (c : Content) (Lines : List Line
    → Type 0) (Means : List ℕ → Type 0) (old new : List ℕ) (sets : ℕ → Option PlainSps)
    → unit_header bytes ≡ Ok header → content default_options kept bytes ≡ c → is_read_set c ≡ true
    → (added : AddsUnit header Lines [] Means old new)
    → ((lines : List Line) → Lines lines → set_lines kept header c lines)
    → ((lines : List Line) → set_lines kept header c lines → Lines lines) → content default_options kept added.bytes ≡ c
    → sets ≡ (kept_behind default_options kept bytes).sequence_sets → TakesOne kept bytes old new sets
anew kept bytes header c Lines Means old new sets parsed is set added all back meant kept_are =
    let piece = added.bytes in
    let whole = headed_piece 0 (started piece) (record { offset = 3; bytes = piece }) [] header added.found
    added.header_is in
    let p = added.payload in
    let lines : IsPayload (set_lines kept header (content default_options kept bytes)) []
    (payload_after 0 (drop 2 piece)) = record {
      lines = p.lines;
      has = subst (λ (d : Content). set_lines kept header d p.lines) (sym is) (all p.lines p.has);
      chosen = p.chosen;
      fewest = λ others has. p.fewest others
          (back others (subst (λ (d : Content). set_lines kept header d others) is has));
      parts = p.parts;
    } in
    record {
      piece = piece;
      grown = added.parts;
      step = record {
        is = record {
          anew = λ e. record {
            header = header;
            old_header = parsed;
            new_header = added.header_is;
            are = added.are;
            payload = lines;
            meant = meant ∙ sym is;
          };
          copied = λ e. absurd (not_both (is_read_set c) set (ap is_read_set (sym is) ∙ e));
        };
        found = whole.piece;
        stands = inr (record {
          all = ap is_all is ∙ read_is_all c set;
          same = ap (content default_options kept) whole.kept ∙ meant ∙ sym is;
        });
      };
      sets_are = kept_are;
    }

-- ---- what is copied

-- what is no set is no sequence set
no_sequence : (c : Content) → is_read_set c ≡ false → is_sequence_set c ≡ false
no_sequence (refused cause) e = refl
no_sequence (video_set set) e = refl
no_sequence (sequence_set set) e = absurd cc
no_sequence (picture_set set) e = refl
no_sequence unread_picture_set e = refl
no_sequence (slice h s) e = refl
no_sequence end_of_sequence e = refl
no_sequence end_of_bitstream e = refl
no_sequence nothing e = refl

-- a unit is copied
pub copied : (kept : Kept) (bytes : List ℕ) (header : UnitHeader) (place : ℕ) (stream : List ℕ)
    (u : NalUnit) (us : List NalUnit) (old new : List ℕ) (sets : ℕ → Option PlainSps) → u.bytes ≡ bytes
    → units_from kept_bytes place stream ≡ u ∷ us → unit_header bytes ≡ Ok header
    → is_read_set (content default_options kept bytes) ≡ false → new ≡ old ++ started bytes
    → sets ≡ kept.sequence_sets → TakesOne kept bytes old new sets
copied kept bytes header place stream u us old new sets same cut parsed other grown before =
    let whole = subst IsWholePiece same (headed_piece place stream u us header cut (ap unit_header same ∙ parsed)) in
    let c = content default_options kept bytes in
    record {
      piece = bytes;
      grown = grown;
      step = record {
        is = record {
          anew = λ e. absurd (not_both (is_read_set c) e other);
          copied = λ e. sym (headed_complete bytes header parsed);
        };
        found = whole.piece;
        stands = inl whole.kept;
      };
      sets_are = before ∙ sym (other_sequences bytes kept c refl (no_sequence c other));
    }

-- ---- contents

-- what is refused is no set
refused_by : {A : Type 0} (means : A → Content) (r : Reading A) (fault : Fault) (rest : List Bool)
    → r ≡ refuses fault rest → is_read_set (content_read means r) ≡ false
refused_by means r fault rest e = rw e refl

-- units of all sub-layers and layers are wanted
pub wanted : (bytes : List ℕ) (header : UnitHeader) → unit_header bytes ≡ Ok header
    → wants default_options header ≡ true
wanted bytes header parsed = all_wanted default_options by_default bytes header parsed

module _ (kept : Kept) (bytes : List ℕ) (header : UnitHeader) (parsed : unit_header bytes ≡ Ok header) where
  -- a video set that is refused is none
  pub video_unread : (fault : Fault) (rest : List Bool) → header.nal_unit_type ≡ 32
      → read video_parameter_set (payload bytes) ≡ refuses fault rest
      → is_read_set (content default_options kept bytes) ≡ false
  video_unread fault rest typed e =
      ap is_read_set
      (of_video_set default_options kept bytes header parsed (wanted bytes header parsed) typed)
      ∙ refused_by video_set (read video_parameter_set (payload bytes)) fault rest e

  -- so is a sequence set
  pub sequence_unread : (fault : Fault) (rest : List Bool) → header.nal_unit_type ≡ 33
      → read sequence_parameter_set (payload bytes) ≡ refuses fault rest
      → is_read_set (content default_options kept bytes) ≡ false
  sequence_unread fault rest typed e =
      ap is_read_set
      (of_sequence_set default_options kept bytes header parsed (wanted bytes header parsed) typed)
      ∙ refused_by sequence_set (read sequence_parameter_set (payload bytes)) fault rest e

  -- so is a picture set
  pub picture_unread : (fault : Fault) (rest : List Bool) → header.nal_unit_type ≡ 34
      → read (picture_parameter_set (temporal_id header) kept.sequence_sets) (payload bytes)
      ≡ refuses fault rest → is_read_set (content default_options kept bytes) ≡ false
  picture_unread fault rest typed e =
      ap is_read_set
      (of_picture_set default_options kept bytes header parsed (wanted bytes header parsed) typed)
      ∙ ap (λ (r : Reading PlainPps). is_read_set (picture_set_read r)) e

  -- a video set that is read is the content
  pub video_is : (set : PlainVps) (rest : List Bool) → header.nal_unit_type ≡ 32
      → read video_parameter_set (payload bytes) ≡ gives set rest → content default_options kept bytes ≡ video_set set
  video_is set rest typed e =
      of_video_set default_options kept bytes header parsed (wanted bytes header parsed) typed
      ∙ ap (content_read video_set) e

  -- so is a sequence set
  pub sequence_is : (set : PlainSps) (rest : List Bool) → header.nal_unit_type ≡ 33
      → read sequence_parameter_set (payload bytes) ≡ gives set rest
      → content default_options kept bytes ≡ sequence_set set
  sequence_is set rest typed e =
      of_sequence_set default_options kept bytes header parsed (wanted bytes header parsed) typed
      ∙ ap (content_read sequence_set) e

  -- so is a picture set
  pub picture_is : (set : PlainPps) (rest : List Bool) → header.nal_unit_type ≡ 34
      → read (picture_parameter_set (temporal_id header) kept.sequence_sets) (payload bytes)
      ≡ gives set rest → content default_options kept bytes ≡ picture_set set
  picture_is set rest typed e =
      of_picture_set default_options kept bytes header parsed (wanted bytes header parsed) typed ∙ ap picture_set_read e

-- a set that is read has lines
pub lines_of : {A : Type 0} (n : ℕ) (t : Table A) (set : A) (header : UnitHeader) (bits rest : List Bool)
    → header.nal_unit_type ≡ n → read t bits ≡ gives set rest → (lines : List Line) × SetLines n t set header lines
lines_of n t set header bits rest typed e =
    let s = spelled_from_read t bits set rest e in
    (s.lines, record { typed = typed; has = s.has; good = s.good })

-- ---- results

-- what follows from what holds on Ok
pub on_ok : {T E : Type 0} (r : Result T E) (P Q : Type 0) → (P → Q) → OnOk r P → OnOk r Q
on_ok (Ok x) P Q by p = by p
on_ok (Err e) P Q by p = tt

-- a set that is refused is at some fault
pub refuses_set : {A : Type 0} (e : ParseError) (r : Reading A) → e ≢ NoMemory → RefusesSet e r
    → (fault : Fault) × (rest : List Bool) × (r ≡ refuses fault rest)
refuses_set WrongNaluType r other h = absurd h
refuses_set OutOfBits r other h = (_, h.0, h.1)
refuses_set (OutOfRange table number) r other h = (_, h.0, h.1)
refuses_set (MissingSps id) r other h = (_, h.0, h.1)
refuses_set (MissingPps id) r other h = (_, h.0, h.1)
refuses_set NoMemory r other h = absurd (other refl)

-- ---- other units

-- a slice is no set
no_set_read : (kept : Kept) (header : UnitHeader) (bytes : List ℕ)
    → is_read_set (coded_content kept header bytes) ≡ false
no_set_read kept header bytes =
    by_tests kept.has_sequence_set (is_slice header.nal_unit_type) (header.nal_unit_type == 36)
    (header.nal_unit_type == 37)
    (of_slice_read
    (read (slice_segment_header header.nal_unit_type (drop 2 bytes)
    (active_sets kept.sequence_sets kept.picture_sets)) (payload bytes)))
  where
    of_slice_read : (r : Reading PlainSliceSegmentHeader) → is_read_set (content_read (slice header) r) ≡ false
    of_slice_read (gives h rest) = refl
    of_slice_read (refuses fault rest) = refl

    by_tests : (has s t u : Bool) → is_read_set (slice_content kept header bytes) ≡ false
        → is_read_set
        (cond (not has) nothing
        (cond s (slice_content kept header bytes) (cond t end_of_sequence (cond u end_of_bitstream nothing)))) ≡ false
    by_tests false s t u e = refl
    by_tests true true t u e = e
    by_tests true false true u e = refl
    by_tests true false false true e = refl
    by_tests true false false false e = refl

-- nor is a unit of another type
pub other_type : (kept : Kept) (bytes : List ℕ) (header : UnitHeader) → unit_header bytes ≡ Ok header
    → header.nal_unit_type ≢ 32 → header.nal_unit_type ≢ 33 → header.nal_unit_type ≢ 34
    → is_read_set (content default_options kept bytes) ≡ false
unfolding content
other_type kept bytes header parsed video sequence picture =
    let v : (header.nal_unit_type == 32) ≡ false = grind (arith, video) in
    let s : (header.nal_unit_type == 33) ≡ false = grind (arith, sequence) in
    let p : (header.nal_unit_type == 34) ≡ false = grind (arith, picture) in
    rw (parsed, wanted bytes header parsed, v, s, p) (no_set_read kept header bytes)

-- ---- refused units

-- nor is one without a header
refused_header : (kept : Kept) (bytes : List ℕ) (e : UnitError) → parsed_header bytes ≡ Err e
    → is_read_set (content default_options kept bytes) ≡ false
unfolding content
refused_header kept bytes e parsed = by_result (unit_header bytes) parsed
  where
    by_result : (r : Result UnitHeader HeaderFault) → answer_of r ≡ Err e
        → is_read_set (headed_content default_options kept bytes r) ≡ false
    by_result (Ok h) f = absurd (cc f)
    by_result (Err fault) f = refl

-- a unit without a header is copied
pub refused_takes : (kept : Kept) (piece : List ℕ) (e : UnitError) (old new : List ℕ) (sets : ℕ
    → Option PlainSps) → IsPiece piece → parsed_header (kept_bytes piece) ≡ Err e
    → new ≡ old ++ started (completed (kept_bytes piece)) → sets ≡ kept.sequence_sets
    → TakesOne kept (kept_bytes piece) old new sets
refused_takes kept piece e old new sets is parsed grown before =
    let bytes = kept_bytes piece in
    let done = completed_piece piece is in
    let other = refused_header kept bytes e parsed in
    let c = content default_options kept bytes in
    record {
      piece = completed bytes;
      grown = grown;
      step = record {
        is = record { anew = λ f. absurd (not_both (is_read_set c) f other); copied = λ f. refl };
        found = done.found;
        stands = inl done.same;
      };
      sets_are = before ∙ sym (other_sequences bytes kept c refl (no_sequence c other));
    }
