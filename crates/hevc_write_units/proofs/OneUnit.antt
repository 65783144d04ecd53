-- One unit is added.
use Rattle.std.proofs.Common.{◌≡◌, ℕ, suc, ◌+◌, ◌-◌, ◌%◌, ◌<◌, Bool, true, false, cond, List, []}
use Rattle.std.proofs.Common.{◌∷◌, ◌++◌, length, refl, sym, ap, ◌∙◌, subst, arith, append-nil}
use Rattle.std.proofs.Common.{Result, Ok, Err}
use Rattle.std.specs.Prelude.{All, ◌&&◌, ◌==◌, nat_le, drop, slice_index}
use Rattle.std.proofs.lemmas.List.Elements.{All-head, All-cons, All-nil}
use Rattle.hevc_spec.specs.Lines.{Line, joined}
use Rattle.std.proofs.lemmas.List.{length-append, length-replicate}
use Rattle.hevc_bits.specs.declared.stream_limit.TheConstants.{STREAM_LIMIT}
use Rattle.hevc_bit_writer.specs.Writing.{packed, trailing_bits}
use Rattle.hevc_bit_writer.proofs.Packing.{bits_packed}
use Rattle.hevc_spec.specs.Payload.{bits_of, payload_after, payload_bits}
use Rattle.hevc_write_units.specs.Trials.{IsTrial, IsWhole}
use Rattle.hevc_spec.specs.UnitTypes.{is_end}
use Rattle.hevc_spec.specs.UnitHeader.{UnitHeader, HeaderFault, temporal_id_zero, unspecified_type}
use Rattle.hevc_spec.specs.UnitHeader.{checked_header, header_fields, unit_header, nal_unit_type}
use Rattle.hevc_spec.specs.Units.{NalUnit, units, kept_bytes, without_trailing_zeros}
use Rattle.hevc_bit_writer.specs.WrittenUnits.{IsUnit, escaped, started}
use Rattle.hevc_bit_writer.proofs.Escapes.{payload_back, stays_whole_escaped}
use Rattle.hevc_bit_writer.proofs.Found.{all_found}
use Rattle.hevc_stream_pieces.specs.Pieces.{IsWholePiece}
use Rattle.hevc_stream_pieces.proofs.Cut.{headed_units}
use Rattle.hevc_write_units.specs.Added.{AddsUnit, AreHeaderBytes}
use Rattle.hevc_write_units.specs.Payloads.{IsPayload, with_trailing_bits}
use Rattle.hevc_write_units.proofs.Trimmed.{packed_trimmed, payload_trimmed}

-- a checked header is the header
pub header_same : (h g : UnitHeader) → checked_header h ≡ Ok g → h ≡ g
header_same h g e = by_tests (nat_le 48 h.nal_unit_type) (h.nuh_temporal_id_plus1 == 0) e
  where
    by_tests : (s t : Bool)
        → Path (Result UnitHeader HeaderFault)
        (cond s (Err (unspecified_type h.nal_unit_type)) (cond t (Err temporal_id_zero) (Ok h))) (Ok g) → h ≡ g
    by_tests true t e = absurd (cc e)
    by_tests false true e = absurd (cc e)
    by_tests false false e = cc e

-- what is not so is not so with more
and_false : (t : Bool) → (t && false) ≡ false
and_false true = refl
and_false false = refl

-- what a stream has that is a start code and the bytes of a unit
pub record IsStream (header : UnitHeader) (payload bytes : List ℕ) : Type 0 where
  pub found : units (started bytes) ≡ record { offset = 3; bytes = bytes } ∷ []
  pub whole : IsWholePiece bytes
  pub header_is : unit_header bytes ≡ Ok header
  pub payload_is : drop 2 bytes ≡ escaped payload
  pub zero_bit : slice_index bytes 0 < 128

-- a header and an escaped payload are the one unit of a stream
pub one_unit : (header : UnitHeader) (front payload : List ℕ) → AreHeaderBytes header front
    → is_end header.nal_unit_type ≡ false → without_trailing_zeros payload ≡ payload
    → IsStream header payload (front ++ escaped payload)
one_unit header front payload are no_end trimmed =
    let bytes = are.first ∷ are.second ∷ escaped payload in
    let type_is : nal_unit_type bytes ≡ header.nal_unit_type =
    ap (λ (h : UnitHeader). h.nal_unit_type)
    (header_same (header_fields are.first are.second) header (are.parsed [])) in
    let kept : kept_bytes bytes ≡ bytes = rw (type_is, no_end, and_false (nat_le 2 (length bytes))) refl in
    let unit : IsUnit bytes = record {
      whole = stays_whole_escaped are.first are.second payload are.some trimmed;
      kept = kept;
    } in
    let found : units (started bytes) ≡ record { offset = 3; bytes = bytes } ∷ [] =
    ap units (sym (append-nil (started bytes)))
    ∙ all_found (bytes ∷ []) (All-cons IsUnit bytes [] unit (All-nil IsUnit)) in
    let all = subst
    (λ (us : List NalUnit). All (λ u. (h : UnitHeader) → unit_header u.bytes ≡ Ok h
    → IsWholePiece u.bytes) us) found (headed_units (started bytes)) in
    let stream : IsStream header payload bytes = record {
      found = found;
      whole = All-head (λ u. (h : UnitHeader) → unit_header u.bytes ≡ Ok h → IsWholePiece u.bytes) (record {
        offset = 3;
        bytes = bytes;
      }) [] all header (are.parsed (escaped payload));
      header_is = are.parsed (escaped payload);
      payload_is = refl;
      zero_bit = are.zero_bit;
    } in
    subst (λ (x : List ℕ). IsStream header payload (x ++ escaped payload)) (sym are.are) stream

module _ (header : UnitHeader) (HasLines : List Line → Type 0) (body : List ℕ) (Means : List ℕ → Type 0)
    (no_end : (lines : List Line) → HasLines lines → is_end header.nal_unit_type ≡ false)
    (meant : (bytes : List ℕ) → unit_header bytes ≡ Ok header
    → IsPayload HasLines body (payload_after 0 (drop 2 bytes)) → Means bytes)
  where
    pub unit_added : (front payload old new : List ℕ) → AreHeaderBytes header front
        → without_trailing_zeros body ≡ body → IsPayload HasLines body payload
        → new ≡ old ++ started (front ++ escaped payload)
        → AddsUnit header HasLines body Means old new
    unit_added front payload old new are trimmed is grew =
        let end = ap without_trailing_zeros is.parts ∙ payload_trimmed (joined is.lines) body trimmed ∙ sym is.parts in
        let stream = one_unit header front payload are (no_end is.lines is.has) end in
        let has = subst (IsPayload HasLines body)
        (sym (ap (payload_after 0) stream.payload_is ∙ payload_back payload)) is in
        record {
          bytes = front ++ escaped payload;
          parts = grew;
          are = record {
            zero_bit = stream.zero_bit;
            escapes = stream.payload_is
                ∙ ap escaped (sym (ap (payload_after 0) stream.payload_is ∙ payload_back payload));
          };
          found = stream.found;
          whole = stream.whole.piece.whole;
          header_is = stream.header_is;
          payload = has;
          meant = meant (front ++ escaped payload) stream.header_is has;
        }

-- ---- bits that are tried

-- trailing bits end a whole byte
pub whole_length : (bits : List Bool) → length (with_trailing_bits bits) % 8 ≡ 0
whole_length bits =
    let n = length bits in
    let long : length (with_trailing_bits bits) ≡ n + suc (7 - n % 8) = length-append bits (trailing_bits n)
    ∙ ap (λ (k : ℕ). n + suc k) (length-replicate (7 - n % 8) false) in
    omega (arith, long)

-- whole bits are whole bytes
pub bits_whole : (bits : List Bool) → IsWhole bits → length bits % 8 ≡ 0
bits_whole bits whole = ap (λ (b : List Bool). length b % 8) whole.1 ∙ whole_length whole.0

-- a stream that is tried has the one unit with these bits
pub trial : (header : UnitHeader) (bits : List Bool) (front stream : List ℕ) → AreHeaderBytes header front
    → is_end header.nal_unit_type ≡ false → IsWhole bits
    → stream ≡ started (front ++ escaped (packed bits)) → length stream < STREAM_LIMIT → IsTrial header bits stream
unfolding payload_bits
trial header bits front stream are no_end whole is short =
    let trimmed = ap (λ (b : List Bool). without_trailing_zeros (packed b)) whole.1 ∙ packed_trimmed whole.0
    ∙ ap packed (sym whole.1) in
    let unit = one_unit header front (packed bits) are no_end trimmed in
    record {
      bytes = front ++ escaped (packed bits);
      is = is;
      found = ap units is ∙ unit.found;
      header_is = unit.header_is;
      payload_is = ap (λ (b : List ℕ). bits_of (payload_after 0 b)) unit.payload_is
          ∙ ap bits_of (payload_back (packed bits)) ∙ bits_packed bits (bits_whole bits whole);
      short = short;
    }
