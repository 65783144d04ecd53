-- A unit that has the payload of a value means the value.
use Rattle.std.proofs.Common.{◌≡◌, ℕ, Bool, false, List, [], ◌++◌, length, ap, ◌∙◌, append_assoc, Ok}
use Rattle.std.specs.Prelude.{drop}
use Rattle.hevc_spec.specs.Lines.{Line, HasLines, AreGood, joined}
use Rattle.hevc_spec.specs.Payload.{bits_of, payload, payload_after, payload_bits}
use Rattle.hevc_spec.specs.Table.{Table, read, gives}
use Rattle.hevc_spec.specs.UnitHeader.{UnitHeader, unit_header}
use Rattle.hevc_spec.specs.UnitTypes.{is_end}
use Rattle.hevc_reading_laws.proofs.TableLaws.{read_lines}
use Rattle.hevc_bit_writer.specs.Writing.{packed, trailing_bits}
use Rattle.hevc_bit_writer.proofs.Packing.{bits_of-append, bits_packed}
use Rattle.hevc_records.specs.Sps.{PlainSps}
use Rattle.hevc_records.specs.Vps.{PlainVps}
use Rattle.hevc_stream.specs.Contents.{video_set, sequence_set, content_read}
use Rattle.hevc_stream_laws.proofs.ByType.{of_video_set, of_sequence_set}
use Rattle.hevc_tables.specs.VpsTable.{video_parameter_set}
use Rattle.hevc_tables.specs.SpsTable.{sequence_parameter_set}
use Rattle.hevc_write_units.specs.Payloads.{IsPayload, with_trailing_bits}
use Rattle.hevc_write_units.proofs.OneUnit.{whole_length}
use Rattle.hevc_write_units.specs.Values.{SetLines, MeansVideoSet, MeansSequenceSet}

-- the bits of a payload
pub bits_are : (bytes : List ℕ) (front : List Bool) (body : List ℕ)
    → payload_after 0 (drop 2 bytes) ≡ packed (with_trailing_bits front) ++ body
    → payload bytes ≡ front ++ (trailing_bits (length front) ++ bits_of body)
unfolding payload_bits
bits_are bytes front body e =
    ap bits_of e ∙ bits_of-append (packed (with_trailing_bits front)) body
    ∙ ap (λ (b : List Bool). b ++ bits_of body) (bits_packed (with_trailing_bits front) (whole_length front))
    ∙ append_assoc front (trailing_bits (length front)) (bits_of body)

-- lines are read from the payload that they begin
pub read_payload : {A : Type 0} (t : Table A) (x : A) (bytes : List ℕ) (lines : List Line) (body : List ℕ)
    → HasLines t x lines → AreGood lines
    → payload_after 0 (drop 2 bytes) ≡ packed (with_trailing_bits (joined lines)) ++ body
    → read t (payload bytes) ≡ gives x (trailing_bits (length (joined lines)) ++ bits_of body)
read_payload t x bytes lines body has good e =
    let rest = trailing_bits (length (joined lines)) ++ bits_of body in
    ap (read t) (bits_are bytes (joined lines) body e) ∙ read_lines t x lines rest has good

-- a set is not in a unit that ends a sequence or the stream
pub no_end : {A : Type 0} (n : ℕ) (t : Table A) (set : A) (header : UnitHeader) (lines : List Line)
    → is_end n ≡ false → SetLines n t set header lines → is_end header.nal_unit_type ≡ false
no_end n t set header lines other has = rw has.typed other

-- lines of a video set mean it
pub video_set_meant : (set : PlainVps) (header : UnitHeader) (bytes : List ℕ)
    → unit_header bytes ≡ Ok header
    → IsPayload (SetLines 32 video_parameter_set set header) [] (payload_after 0 (drop 2 bytes))
    → MeansVideoSet set header bytes
video_set_meant set header bytes parsed is options kept wanted =
    of_video_set options kept bytes header parsed wanted is.has.typed
    ∙ ap (content_read video_set)
    (read_payload video_parameter_set set bytes is.lines [] is.has.has is.has.good is.parts)

-- lines of a sequence set mean it
pub sequence_set_meant : (set : PlainSps) (header : UnitHeader) (bytes : List ℕ)
    → unit_header bytes ≡ Ok header
    → IsPayload (SetLines 33 sequence_parameter_set set header) [] (payload_after 0 (drop 2 bytes))
    → MeansSequenceSet set header bytes
sequence_set_meant set header bytes parsed is options kept wanted =
    of_sequence_set options kept bytes header parsed wanted is.has.typed
    ∙ ap (content_read sequence_set)
    (read_payload sequence_parameter_set set bytes is.lines [] is.has.has is.has.good is.parts)
