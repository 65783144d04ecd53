-- Slice headers are read from the payload that they begin.
use Rattle.std.proofs.Common.{◌≡◌, ℕ, ◌+◌, ◌-◌, ◌%◌, Bool, true, false, cond, eqb, List, [], ◌∷◌}
use Rattle.std.proofs.Common.{◌++◌, length, refl, sym, ap, ◌∙◌, subst, arith, append-nil, Option}
use Rattle.std.proofs.Common.{Some, None, Ok}
use Rattle.std.specs.Prelude.{◌==◌, if◌then◌else◌, drop, replicate}
use Rattle.std.proofs.lemmas.Bool.{eqb-true}
use Rattle.std.proofs.lemmas.Bool.Decides.{nat_tests}
use Rattle.std.proofs.lemmas.List.{length-append, length-replicate}
use Rattle.hevc_spec.specs.Bits.{skip, number}
use Rattle.hevc_spec.specs.Lines.{Line, AreGood, joined}
use Rattle.hevc_spec.specs.Payload.{bits_of, payload_after}
use Rattle.hevc_spec.specs.Rows.{row, skip_row}
use Rattle.hevc_spec.specs.Table.{Table, Reading, gives, refuses, read, reading_then}
use Rattle.hevc_spec.specs.UnitHeader.{UnitHeader, unit_header}
use Rattle.hevc_spec.specs.UnitTypes.{is_end, is_slice}
use Rattle.hevc_spec.specs.declared.Row.{Row}
use Rattle.hevc_reading_laws.proofs.TableLaws.{AreGood-front, read_lines, spelled_from_read}
use Rattle.hevc_bit_writer.specs.Writing.{trailing_bits}
use Rattle.hevc_records.specs.Pps.{PlainPps}
use Rattle.hevc_records.specs.SliceHeader.{PlainSliceSegmentHeader, default_slice_header}
use Rattle.hevc_records.specs.Sps.{PlainSps}
use Rattle.hevc_tables.specs.PpsTable.{named}
use Rattle.hevc_tables.specs.SliceHeaderTable.{ActiveSets, active_sets, Sized, with_size, aligned}
use Rattle.hevc_tables.specs.SliceHeaderTable.{beginning, elements, header_of, slice_segment_header}
use Rattle.hevc_tables.specs.SliceHeaderTable.{with_sizes}
use Rattle.hevc_stream.specs.Contents.{slice, content_read}
use Rattle.hevc_stream_laws.proofs.ByType.{of_slice}
use Rattle.hevc_write_units.specs.Payloads.{IsPayload}
use Rattle.hevc_write_units.specs.Slices.{HasElements, IsSameButSizes, only_sets, SliceLines, MeansSlice}
use Rattle.hevc_write_units.proofs.Meant.{bits_are}

-- ---- the alignment

-- bits that are not kept are read
skipped : (r : Row) (n : ℕ) (bits rest : List Bool) → length bits ≡ n
    → read (skip_row r n) (bits ++ rest) ≡ gives 0 rest
unfolding skip_row
skipped r n bits rest long =
    let line : Line = record {
      head = record { row = r; form = skip n; allowed = λ _. true };
      value = number bits;
      bits = bits;
    } in
    ap (λ (b : List Bool). read (skip_row r n) (b ++ rest)) (sym (append-nil bits))
    ∙ read_lines (skip_row r n) 0 (line ∷ []) rest (number bits, bits, refl, refl) ((refl, (long, refl)), tt)

-- the bits of row 53 end the byte
end_long : (n : ℕ) → length (replicate (7 - n % 8) false) ≡ (8 - (n + 1) % 8) % 8
end_long n = length-replicate (7 - n % 8) false ∙ omega arith

-- a header with its alignment is read
pub aligned_read : {A : Type 0} (t : Table A) (x : A) (front others : List Bool)
    → read t (front ++ (trailing_bits (length front) ++ others)) ≡ gives x (trailing_bits (length front) ++ others)
    → read (aligned t) (front ++ (trailing_bits (length front) ++ others)) ≡ gives x others
unfolding aligned
aligned_read {A} t x front others e =
    let n = length front in
    let zeros = replicate (7 - n % 8) false in
    let rest = trailing_bits n ++ others in
    let size : length (front ++ rest) - length rest ≡ n = omega (arith, length-append front rest) in
    let after : Sized A → List Bool → Reading A = λ h r. reading_then (read (skip_row (row 14 53) 1) r)
    (λ _ r2. reading_then (read (skip_row (row 14 53) ((8 - (h.size + 1) % 8) % 8)) r2) (λ _ r3. gives h.value r3)) in
    let sized : read (with_size t) (front ++ rest) ≡ gives (record { value = x; size = n }) rest =
    ap (λ (r : Reading A). reading_then r
    (λ v s. gives (record { value = v; size = length (front ++ rest) - length s }) s)) e
    ∙ ap (λ (k : ℕ). gives (record { value = x; size = k }) rest) size in
    ap (λ (r : Reading (Sized A)). reading_then r after) sized
    ∙ ap (λ (r : Reading ℕ). reading_then r
    (λ _ r2. reading_then (read (skip_row (row 14 53) ((8 - (n + 1) % 8) % 8)) r2) (λ _ r3. gives x r3)))
    (skipped (row 14 53) 1 (true ∷ []) (zeros ++ others) refl)
    ∙ ap (λ (r : Reading ℕ). reading_then r (λ _ r3. gives x r3))
    (skipped (row 14 53) ((8 - (n + 1) % 8) % 8) zeros others (end_long n))

-- the whole table, with the sizes
pub header_read : (nal_unit_type : ℕ) (payload_bytes : List ℕ) (kept : ℕ
    → Option ActiveSets) (own : PlainSliceSegmentHeader) (front others : List Bool)
    → read (elements nal_unit_type kept) (front ++ (trailing_bits (length front) ++ others)) ≡ gives own
    (trailing_bits (length front) ++ others)
    → (n : ℕ) × (read (slice_segment_header nal_unit_type payload_bytes kept)
    (front ++ (trailing_bits (length front) ++ others)) ≡ gives (with_sizes payload_bytes own n) others)
unfolding slice_segment_header
header_read nal_unit_type payload_bytes kept own front others e =
    let bits = front ++ (trailing_bits (length front) ++ others) in (
      length bits - length others,
      ap (λ (r : Reading PlainSliceSegmentHeader). reading_then r
          (λ x rest. gives (with_sizes payload_bytes x (length bits - length rest)) rest))
          (aligned_read (elements nal_unit_type kept) own front others e),
    )

-- sizes alone are set
pub same_sized : (payload_bytes : List ℕ) (own x : PlainSliceSegmentHeader) (n : ℕ) → IsSameButSizes own x
    → IsSameButSizes (with_sizes payload_bytes own n) x
unfolding with_sizes
same_sized payload_bytes own x n same = ap (λ (h : PlainSliceSegmentHeader). with_sizes payload_bytes h n) same

-- ---- the lines that were read

-- a header that is read has elements that are read
pub elements_found : (nal_unit_type : ℕ) (payload_bytes : List ℕ) (kept : ℕ
    → Option ActiveSets) (h : PlainSliceSegmentHeader) (bits rest : List Bool)
    → read (slice_segment_header nal_unit_type payload_bytes kept) bits ≡ gives h rest
    → HasElements (elements nal_unit_type kept) h
unfolding slice_segment_header aligned with_sizes
elements_found nal_unit_type payload_bytes kept h bits rest e =
    let s = spelled_from_read (slice_segment_header nal_unit_type payload_bytes kept) bits h rest e in
    let whole = s.has in
    let x = whole.0 in
    let parts = whole.1 in
    let first = parts.1 in
    let own = parts.3.0 in
    let is : own ≡ x = ap (λ (z : Sized PlainSliceSegmentHeader). z.value) parts.3.2 ∙ parts.4.4.4.0 in
    record {
      own = own;
      lines = first;
      has = parts.3.1;
      good = AreGood-front first parts.2 (subst AreGood parts.5 s.good);
      same = subst (λ (z : PlainSliceSegmentHeader). IsSameButSizes z h) (sym is)
          (subst (λ (z : PlainSliceSegmentHeader). IsSameButSizes x z) whole.2 refl);
    }

-- ---- the sets

module _ (nal_unit_type : ℕ) (kept : ℕ → Option ActiveSets) (id : ℕ) (active : ActiveSets)
    (is : kept id ≡ Some active) (h : PlainSliceSegmentHeader) (rest : List Bool) where
  -- what is read after rows 1 to 3
  after : PlainSliceSegmentHeader → Option ActiveSets → List Bool → Reading PlainSliceSegmentHeader
  unfolding named
  after p o r = reading_then (read (named (row 14 3) p.pic_parameter_set_id o) r)
      (λ s others. read (header_of nal_unit_type s.sps s.pps p) others)

  -- where the picture set is the one that is named
  by_test : (p : PlainSliceSegmentHeader) (r : List Bool) (b : Bool) → eqb p.pic_parameter_set_id id ≡ b
      → after p (cond b (Some active) None) r ≡ gives h rest → after p (kept p.pic_parameter_set_id) r ≡ gives h rest
  unfolding after named
  by_test p r true t e =
      let same : p.pic_parameter_set_id ≡ id = eqb-true p.pic_parameter_set_id id t in
      let found : kept p.pic_parameter_set_id ≡ Some active = ap kept same ∙ is in
      ap (λ (o : Option ActiveSets). after p o r) found ∙ e
  by_test p r false t e = absurd (cc e)

  -- whatever rows 1 to 3 are
  by_beginning : (reading : Reading PlainSliceSegmentHeader)
      → reading_then reading (λ p r. after p (if p.pic_parameter_set_id == id then Some active else None) r)
      ≡ gives h rest → reading_then reading (λ p r. after p (kept p.pic_parameter_set_id) r) ≡ gives h rest
  by_beginning (refuses fault r) e = absurd (cc e)
  by_beginning (gives p r) e = by_test p r (eqb p.pic_parameter_set_id id) refl e

  -- so a header is read with all kept sets as with its own alone
  pub with_kept : (bits : List Bool)
      → read (elements nal_unit_type (λ k. if k == id then Some active else None)) bits ≡ gives h rest
      → read (elements nal_unit_type kept) bits ≡ gives h rest
  unfolding elements after named
  with_kept bits e = by_beginning (read (beginning nal_unit_type default_slice_header) bits) e

-- the same of its sequence set and picture set
pub read_with_kept : (nal_unit_type : ℕ) (kept : ℕ → Option ActiveSets) (sps : PlainSps) (pps : PlainPps)
    (bits : List Bool) (h : PlainSliceSegmentHeader) (rest : List Bool)
    → kept pps.pic_parameter_set_id ≡ Some (record { sps = sps; pps = pps })
    → read (elements nal_unit_type (only_sets sps pps)) bits ≡ gives h rest
    → read (elements nal_unit_type kept) bits ≡ gives h rest
read_with_kept nal_unit_type kept sps pps bits h rest is e =
    with_kept nal_unit_type kept pps.pic_parameter_set_id (record { sps = sps; pps = pps }) is h rest bits e

-- ---- units

-- a slice is not in a unit that ends a sequence or the stream
slice_no_end : (n : ℕ) → is_slice n ≡ true → is_end n ≡ false
slice_no_end n e = grind (arith, nat_tests, e)

-- nor are its lines
pub no_end_slice : (sps : PlainSps) (pps : PlainPps) (x : PlainSliceSegmentHeader) (header : UnitHeader)
    (lines : List Line) → SliceLines sps pps x header lines → is_end header.nal_unit_type ≡ false
no_end_slice sps pps x header lines has = slice_no_end header.nal_unit_type has.typed

-- lines of a slice mean it
pub slice_meant : (sps : PlainSps) (pps : PlainPps) (x : PlainSliceSegmentHeader) (body : List ℕ)
    (header : UnitHeader) (bytes : List ℕ) → unit_header bytes ≡ Ok header
    → IsPayload (SliceLines sps pps x header) body (payload_after 0 (drop 2 bytes)) → MeansSlice sps pps x header bytes
slice_meant sps pps x body header bytes parsed is options kept wanted some found =
    let n = header.nal_unit_type in
    let front = joined is.lines in
    let rest = trailing_bits (length front) ++ bits_of body in
    let sets = active_sets kept.sequence_sets kept.picture_sets in
    let at : sets pps.pic_parameter_set_id ≡ Some (record { sps = sps; pps = pps }) =
    ap sets (sym is.has.names) ∙ found in
    let lines = read_lines (elements n (only_sets sps pps)) is.has.own is.lines rest is.has.has is.has.good in
    let whole = header_read n (drop 2 bytes) sets is.has.own front (bits_of body)
    (read_with_kept n sets sps pps (front ++ rest) is.has.own rest at lines) in (
      with_sizes (drop 2 bytes) is.has.own whole.0,
      same_sized (drop 2 bytes) is.has.own x whole.0 is.has.same,
      of_slice options kept bytes header parsed wanted some is.has.typed
          ∙ ap (content_read (slice header))
          (ap (read (slice_segment_header n (drop 2 bytes) sets)) (bits_are bytes front body is.parts) ∙ whole.1),
    )
