-- The first line of a unit: its number, its place in the stream, its size, and its header.
use Rattle.std.specs.Prelude.{ℕ, List, [], ◌∷◌, ◌++◌, codes, decimal, length, unwrap_or, slice_get}
use Rattle.std.specs.Prelude.{Result, Ok, Err}
use Rattle.hevc_spec.specs.UnitHeader.{UnitHeader}
use Rattle.hevc_spec.specs.Units.{NalUnit}
use Rattle.hevc_bits.specs.declared.header.UnitError.{UnitError}
use Rattle.hevc_stream.specs.Slices.{temporal_id}
use Rattle.hevc_element_lines.specs.declared.style.Style.{Style}
use Rattle.hevc_element_lines.specs.declared.style.Style.TheVariants.{Words, Json}
use Rattle.hevc_element_lines.specs.Lines.{line_end}
use Rattle.hevc_syntax_text.specs.Fields.{number_field, text_field}

-- the names of the types from 0 on (Table 7-1)
abbrev pub type_names : List (List ℕ)
type_names =
    codes "TRAIL_N" ∷ codes "TRAIL_R" ∷ codes "TSA_N" ∷ codes "TSA_R" ∷ codes "STSA_N" ∷
    codes "STSA_R" ∷ codes "RADL_N" ∷ codes "RADL_R" ∷ codes "RASL_N" ∷ codes "RASL_R" ∷
    codes "RSV_VCL_N10" ∷ codes "RSV_VCL_R11" ∷ codes "RSV_VCL_N12" ∷ codes "RSV_VCL_R13" ∷
    codes "RSV_VCL_N14" ∷ codes "RSV_VCL_R15" ∷ codes "BLA_W_LP" ∷ codes "BLA_W_RADL" ∷
    codes "BLA_N_LP" ∷ codes "IDR_W_RADL" ∷ codes "IDR_N_LP" ∷ codes "CRA_NUT" ∷
    codes "RSV_IRAP_VCL22" ∷ codes "RSV_IRAP_VCL23" ∷ codes "RSV_VCL24" ∷ codes "RSV_VCL25" ∷
    codes "RSV_VCL26" ∷ codes "RSV_VCL27" ∷ codes "RSV_VCL28" ∷ codes "RSV_VCL29" ∷
    codes "RSV_VCL30" ∷ codes "RSV_VCL31" ∷ codes "VPS_NUT" ∷ codes "SPS_NUT" ∷ codes "PPS_NUT" ∷
    codes "AUD_NUT" ∷ codes "EOS_NUT" ∷ codes "EOB_NUT" ∷ codes "FD_NUT" ∷
    codes "PREFIX_SEI_NUT" ∷ codes "SUFFIX_SEI_NUT" ∷ codes "RSV_NVCL41" ∷ codes "RSV_NVCL42" ∷
    codes "RSV_NVCL43" ∷ codes "RSV_NVCL44" ∷ codes "RSV_NVCL45" ∷ codes "RSV_NVCL46" ∷
    codes "RSV_NVCL47" ∷ []

-- the name of a type
unfoldable pub type_name : ℕ → List ℕ
type_name nal_unit_type = unwrap_or (slice_get type_names nal_unit_type) []

abbrev pub before_unit : Style → List ℕ
before_unit Words = codes "unit "
before_unit Json = codes "{\"unit\":"

-- the number of a unit, from 0, the place of its first byte, and how many bytes it has
abbrev pub unit_place : Style → ℕ → ℕ → ℕ → List ℕ
unit_place style number offset size =
    before_unit style ++ decimal number ++ number_field style (codes "offset") offset
    ++ number_field style (codes "size") size

-- its header (7.3.1.2); TemporalId is nuh_temporal_id_plus1 - 1 (7-1)
abbrev pub header_text : Style → UnitHeader → List ℕ
header_text style header =
    number_field style (codes "nal_unit_type") header.nal_unit_type
    ++ text_field style (codes "name") (type_name header.nal_unit_type)
    ++ number_field style (codes "nuh_layer_id") header.nuh_layer_id
    ++ number_field style (codes "TemporalId") (temporal_id header)

-- nothing of a header that is faulty
abbrev pub header_if_read : Style → Result UnitHeader UnitError → List ℕ
header_if_read style (Ok header) = header_text style header
header_if_read style (Err error) = []

unfoldable pub unit_line : Style → ℕ → NalUnit → Result UnitHeader UnitError → List ℕ
unit_line style number u header =
    unit_place style number u.offset (length u.bytes) ++ header_if_read style header
    ++ line_end style
