-- What is read back of a slice tells whether its header has lines.
use Rattle.std.proofs.Common.{arith, get_or, ◌+◌, ◌≤◌, ◌≡◌, ◌≢◌, ℕ, Bool, true, false, cond, eqb}
use Rattle.std.proofs.Common.{List, [], ◌∷◌, ◌++◌, length, refl, sym, ap, ap₂, ◌∙◌, subst}
use Rattle.std.proofs.Common.{append-nil, Option, Some, None, Result, Ok, Err}
use Rattle.std.specs.Prelude.{IfOk, drop, option_and_then}
use Rattle.hevc_spec.specs.Lines.{Line, joined}
use Rattle.hevc_spec.specs.Payload.{payload}
use Rattle.hevc_spec.specs.Table.{Reading, read, gives}
use Rattle.hevc_spec.specs.UnitHeader.{UnitHeader}
use Rattle.hevc_spec.specs.UnitTypes.{is_slice}
use Rattle.hevc_reading_laws.proofs.TableLaws.{read_lines}
use Rattle.hevc_bits.specs.FoundUnit.{FoundUnit, bytes_of}
use Rattle.hevc_bit_writer.specs.Writing.{packed, trailing_bits}
use Rattle.hevc_elements.specs.declared.parse_error.ParseError.{ParseError}
use Rattle.hevc_elements.specs.declared.parse_error.ParseError.TheVariants.{WrongNaluType}
use Rattle.hevc_elements.specs.declared.parse_error.ParseError.TheVariants.{OutOfBits, OutOfRange}
use Rattle.hevc_elements.specs.declared.parse_error.ParseError.TheVariants.{MissingSps, MissingPps}
use Rattle.hevc_elements.specs.declared.parse_error.ParseError.TheVariants.{NoMemory}
use Rattle.hevc_elements.specs.Sets.{RefusesSet}
use Rattle.hevc_records.specs.Pps.{PlainPps}
use Rattle.hevc_records.specs.SliceHeader.{PlainSliceSegmentHeader}
use Rattle.hevc_records.specs.Sps.{PlainSps}
use Rattle.hevc_slice_header.specs.Answers.{ReadsSlice}
use Rattle.hevc_tables.specs.SliceHeaderTable.{ActiveSets, active_sets, with_named_sequence_set}
use Rattle.hevc_tables.specs.SliceHeaderTable.{elements, slice_segment_header, with_sizes}
use Rattle.hevc_picture_slice.specs.declared.slice_header.SliceHeader.{SliceHeader}
use Rattle.hevc_picture_slice.specs.SliceHeader.{plain_slice_header}
use Rattle.hevc_write_elements.specs.Choices.{AreChosen, set_flags}
use Rattle.hevc_write_elements.proofs.Counting.{same_set}
use Rattle.hevc_write_units.specs.Payloads.{AddsPayload, with_trailing_bits}
use Rattle.hevc_write_units.specs.Slices.{HasElements, IsSameButSizes, SliceLines, WritesSized}
use Rattle.hevc_write_units.specs.Slices.{with_sizes_of, only_picture_set, only_sets}
use Rattle.hevc_write_units.specs.Values.{only_sequence_set}
use Rattle.hevc_spec.specs.Units.{without_trailing_zeros}
use Rattle.hevc_write_units.proofs.Trimmed.{by_last, last_byte}
use Rattle.hevc_write_units.proofs.SliceHeaders.{elements_found, header_read, same_sized}

-- ---- the sets

-- a picture set names the one sequence set
one_named : (sps : PlainSps) (pps : PlainPps) (b : Bool) → eqb pps.seq_parameter_set_id sps.seq_parameter_set_id ≡ true
    → option_and_then (with_named_sequence_set (only_sequence_set sps)) (cond b (Some pps) None) ≡ cond b
    (Some (record { sps = sps; pps = pps })) None
one_named sps pps true e = rw e refl
one_named sps pps false e = refl

-- the sets are those that the slice names
pub one_active : (sps : PlainSps) (pps : PlainPps) (sequence_sets : ℕ → Option PlainSps) (picture_sets : ℕ
    → Option PlainPps) → sequence_sets ≡ only_sequence_set sps → picture_sets ≡ only_picture_set pps
    → pps.seq_parameter_set_id ≡ sps.seq_parameter_set_id → active_sets sequence_sets picture_sets ≡ only_sets sps pps
one_active sps pps sequence_sets picture_sets e f named =
    let is : eqb pps.seq_parameter_set_id sps.seq_parameter_set_id ≡ true = grind (arith, named) in
    ap₂ active_sets e f ∙ (λ i. λ id. one_named sps pps (eqb id pps.pic_parameter_set_id) is i)

-- ---- refusals

-- what is refused is not read
pub not_refused : {A : Type 0} (e : ParseError) (reading : Reading A) (x : A) (rest : List Bool)
    → e ≢ NoMemory → RefusesSet e reading → ¬ (reading ≡ gives x rest)
not_refused WrongNaluType reading x rest other r is = r
not_refused OutOfBits reading x rest other r is = cc (sym r.1 ∙ is)
not_refused (OutOfRange table number) reading x rest other r is = cc (sym r.1 ∙ is)
not_refused (MissingSps id) reading x rest other r is = cc (sym r.1 ∙ is)
not_refused (MissingPps id) reading x rest other r is = cc (sym r.1 ∙ is)
not_refused NoMemory reading x rest other r is = other refl

-- two readings of the same bits give the same
gives_one : {A : Type 0} (x y : A) (r s : List Bool) → Path (Reading A) (gives x r) (gives y s) → x ≡ y
gives_one x y r s e = cc

-- ---- what was read

module _ (unit : FoundUnit UnitHeader) (header : UnitHeader) (bits : List Bool) (sps : PlainSps)
    (pps : PlainPps) (kept : ℕ → Option ActiveSets)
    (same : unit.header ≡ header) (payload_is : payload (bytes_of unit) ≡ bits)
    (one : kept ≡ only_sets sps pps) (typed : is_slice header.nal_unit_type ≡ true) (h : SliceHeader) where
  -- what the header is read as
  reading : Reading PlainSliceSegmentHeader
  reading = read (slice_segment_header header.nal_unit_type (drop 2 (bytes_of unit)) (only_sets sps pps)) bits

  -- and so it is
  reading_is : read (slice_segment_header unit.header.nal_unit_type (drop 2 (bytes_of unit)) kept)
      (payload (bytes_of unit)) ≡ reading
  unfolding reading
  reading_is =
      ap₂ (λ (g : UnitHeader) (k : ℕ → Option ActiveSets). read
      (slice_segment_header g.nal_unit_type (drop 2 (bytes_of unit)) k) (payload (bytes_of unit))) same one
      ∙ ap (read (slice_segment_header header.nal_unit_type (drop 2 (bytes_of unit)) (only_sets sps pps))) payload_is

  -- the unit is of a slice
  is_typed : is_slice unit.header.nal_unit_type ≡ true
  is_typed = ap (λ (g : UnitHeader). is_slice g.nal_unit_type) same ∙ typed

  -- a header that is read back has elements
  pub slice_found : {X : Type 0} (x : PlainSliceSegmentHeader) (sets : X) → ReadsSlice kept unit (Ok sets) h
      → IsSameButSizes (plain_slice_header h) x → HasElements (elements header.nal_unit_type (only_sets sps pps)) x
  unfolding reading
  slice_found x sets r is =
      let was = r.read is_typed in
      let e = elements_found header.nal_unit_type (drop 2 (bytes_of unit)) (only_sets sps pps)
      (plain_slice_header h) bits was.0 (sym reading_is ∙ was.1) in
      record { own = e.own; lines = e.lines; has = e.has; good = e.good; same = e.same ∙ ap (with_sizes_of e.own) is }

  -- they are read with their sizes
  sized : (own : PlainSliceSegmentHeader) (front : List Bool) → bits ≡ with_trailing_bits front
      → read (elements header.nal_unit_type (only_sets sps pps)) bits ≡ gives own (trailing_bits (length front))
      → (n : ℕ) × (reading ≡ gives (with_sizes (drop 2 (bytes_of unit)) own n) [])
  unfolding reading
  sized own front whole e =
      let end = trailing_bits (length front) in
      let t = elements header.nal_unit_type (only_sets sps pps) in
      let more : front ++ (end ++ []) ≡ bits = ap (λ (b : List Bool). front ++ b) (append-nil end) ∙ sym whole in
      let again : read t (front ++ (end ++ [])) ≡ gives own (end ++ []) =
      ap (read t) more ∙ e ∙ ap (λ (b : List Bool). gives own b) (sym (append-nil end)) in
      let all = header_read header.nal_unit_type (drop 2 (bytes_of unit)) (only_sets sps pps) own front [] again in (
        all.0,
        ap (read
            (slice_segment_header header.nal_unit_type (drop 2 (bytes_of unit)) (only_sets sps pps)))
            (sym more) ∙ all.1,
      )

  -- a header with elements is read back
  pub slice_read : {X : Type 0} (x own : PlainSliceSegmentHeader) (front : List Bool) (sets : X)
      → ReadsSlice kept unit (Ok sets) h → bits ≡ with_trailing_bits front → IsSameButSizes own x
      → read (elements header.nal_unit_type (only_sets sps pps)) bits ≡ gives own
      (trailing_bits (length front)) → IsSameButSizes (plain_slice_header h) x
  slice_read x own front sets r whole is e =
      let all = sized own front whole e in
      let was = r.read is_typed in
      let pb = drop 2 (bytes_of unit) in
      let here : with_sizes pb own all.0 ≡ plain_slice_header h =
      gives_one (with_sizes pb own all.0) (plain_slice_header h) [] was.0 (sym all.1 ∙ sym reading_is ∙ was.1) in
      subst (λ (z : PlainSliceSegmentHeader). IsSameButSizes z x) here (same_sized pb own x all.0 is)

  -- and is not refused
  pub slice_not_refused : {X : Type 0} (own : PlainSliceSegmentHeader) (front : List Bool) (e : ParseError)
      → e ≢ NoMemory → ReadsSlice {X = X} kept unit (Err e) h → bits ≡ with_trailing_bits front
      → ¬ (read (elements header.nal_unit_type (only_sets sps pps)) bits ≡ gives own (trailing_bits (length front)))
  slice_not_refused {X} own front e other r whole is =
      let all = sized own front whole is in
      not_refused e (read (slice_segment_header unit.header.nal_unit_type (drop 2 (bytes_of unit)) kept)
      (payload (bytes_of unit))) (with_sizes (drop 2 (bytes_of unit)) own all.0) [] other (r.read is_typed)
      (reading_is ∙ all.1)

-- ---- what was written

module _ (sps : PlainSps) (pps : PlainPps) (x : PlainSliceSegmentHeader) (header : UnitHeader) (bits front : List Bool)
    (written : WritesSized (elements header.nal_unit_type (only_sets sps pps)) x [] front)
    (whole : bits ≡ with_trailing_bits front) where
  -- a slice that is read back has lines
  pub slice_lines : is_slice header.nal_unit_type ≡ true → x.pic_parameter_set_id ≡ pps.pic_parameter_set_id
      → pps.seq_parameter_set_id ≡ sps.seq_parameter_set_id
      → HasElements (elements header.nal_unit_type (only_sets sps pps)) x
      → (lines : List Line) × SliceLines sps pps x header lines × AreChosen lines
      × (bits ≡ with_trailing_bits (joined lines))
      × ((others : List Line) → SliceLines sps pps x header others → set_flags lines ≤ set_flags others)
  slice_lines typed names named e =
      let w = written.written e.own e.lines e.has e.good e.same in
      let formed = w.3.formed in (
        formed.lines,
        record {
          typed = typed;
          names = names;
          named = named;
          own = w.0;
          same = w.2;
          has = formed.has;
          good = formed.good;
        },
        formed.chosen,
        whole ∙ ap with_trailing_bits (w.4 ∙ formed.parts),
        (λ others has.
            let o = written.written has.own others has.has has.good has.same in
            let same = same_set (elements header.nal_unit_type (only_sets sps pps)) w.0 o.0 formed.lines
            o.3.formed.lines formed.has formed.good o.3.formed.has o.3.formed.good (sym (w.4 ∙ formed.parts)
            ∙ (o.4 ∙ o.3.formed.parts)) in
            omega (arith, same, o.3.fewer)),
      )

  -- and they are those that are added
  pub slice_added : (payload body old new : List ℕ) → is_slice header.nal_unit_type ≡ true
      → x.pic_parameter_set_id ≡ pps.pic_parameter_set_id → pps.seq_parameter_set_id ≡ sps.seq_parameter_set_id
      → HasElements (elements header.nal_unit_type (only_sets sps pps)) x → payload ≡ packed bits
      → new ≡ old ++ (payload ++ body) → AddsPayload (SliceLines sps pps x header) body old new
  slice_added payload body old new typed names named e bytes grew =
      let l = slice_lines typed names named e in
      record {
        payload = payload ++ body;
        parts = grew;
        is_payload = record {
          lines = l.0;
          has = l.1;
          chosen = l.2;
          fewest = l.4;
          parts = ap (λ (b : List ℕ). b ++ body) (bytes ∙ ap packed l.3);
        };
      }

  -- what has lines is read back
  pub none_sliced : ((own : PlainSliceSegmentHeader) (f : List Bool) → bits ≡ with_trailing_bits f
      → IsSameButSizes own x
      → ¬ (read (elements header.nal_unit_type (only_sets sps pps)) bits ≡ gives own (trailing_bits (length f))))
      → (lines : List Line) → ¬ (SliceLines sps pps x header lines)
  none_sliced other lines has =
      let w = written.written has.own lines has.has has.good has.same in
      let formed = w.3.formed in
      let t = elements header.nal_unit_type (only_sets sps pps) in
      let end = trailing_bits (length front) in
      let again : read t bits ≡ gives w.0 end =
      ap (read t) (whole ∙ ap (λ (b : List Bool). b ++ end) (w.4 ∙ formed.parts))
      ∙ read_lines t w.0 formed.lines end formed.has formed.good in
      other w.0 front whole w.2 again

-- ---- the body's end

-- bytes that end in 0 end in a zero
pub zero_end : (bytes : List ℕ) (n : ℕ) → length bytes ≡ n + 1 → get_or bytes n 0 ≡ 0
    → ¬ (without_trailing_zeros bytes ≡ bytes)
zero_end [] n long zero trimmed = absurd (omega (arith, long))
zero_end (byte ∷ bytes) n long zero trimmed =
    let same : n ≡ length bytes = omega (arith, long) in
    last_byte byte bytes trimmed (ap (λ (k : ℕ). get_or (byte ∷ bytes) k 0) (sym same) ∙ zero)

-- other bytes do not
pub some_end : (bytes : List ℕ) (n : ℕ) → length bytes ≡ n + 1 → get_or bytes n 0 ≢ 0
    → without_trailing_zeros bytes ≡ bytes
some_end [] n long some = absurd (omega (arith, long))
some_end (byte ∷ bytes) n long some =
    let same : n ≡ length bytes = omega (arith, long) in
    by_last byte bytes (λ e. some (ap (λ (k : ℕ). get_or (byte ∷ bytes) k 0) same ∙ e))

-- what follows from what holds of a result
pub if_ok : {E : Type 0} (r : Result Bool E) (P Q : Bool → Type 0) → ((b : Bool) → P b → Q b) → IfOk r P → IfOk r Q
if_ok (Ok b) P Q by p = by b p
if_ok (Err e) P Q by p = tt
