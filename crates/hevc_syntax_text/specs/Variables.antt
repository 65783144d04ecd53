-- Variables that follow from what a unit has: of a sequence set its sizes, and of a slice segment
-- that is first in its picture what it tells of the picture.
use Rattle.std.specs.Prelude.{ℕ, ℤ, pos, ◌+ℤ◌, ◌==◌, List, [], ◌++◌, codes, if◌then◌else◌}
use Rattle.std.specs.Prelude.{Option, Some, None}
use Rattle.std.specs.Fmt.{signed_decimal}
use Rattle.hevc_spec.specs.UnitHeader.{UnitHeader}
use Rattle.hevc_spec.specs.UnitTypes.{is_slice}
use Rattle.hevc_spec.specs.Payload.{payload}
use Rattle.hevc_spec.specs.Table.{Reading, gives, refuses, read}
use Rattle.hevc_bits.specs.FoundUnit.{FoundUnit, bytes_of}
use Rattle.hevc_records.specs.Sps.{PlainSps}
use Rattle.hevc_records.specs.SpsSizes.{max_dpb_size_of}
use Rattle.hevc_records.specs.Pps.{PlainPps}
use Rattle.hevc_records.specs.SliceHeader.{PlainSliceSegmentHeader}
use Rattle.hevc_tables.specs.SpsTable.{sequence_parameter_set}
use Rattle.hevc_element_lines.specs.declared.style.Style.{Style}
use Rattle.hevc_element_lines.specs.declared.style.Style.TheVariants.{Words, Json}
use Rattle.hevc_element_lines.specs.Lines.{line_end}
use Rattle.hevc_walk.specs.Pictures.{Head, order_count_in_range}
use Rattle.hevc_stream.specs.Kept.{Kept}
use Rattle.hevc_syntax_text.specs.declared.counting.Counting.{Counting}
use Rattle.hevc_syntax_text.specs.declared.variables.Variables.{Variables}
use Rattle.hevc_syntax_text.specs.declared.variables.Variables.TheVariants.{OfSequence, OfPicture}
use Rattle.hevc_syntax_text.specs.Order.{head_at, header_in, of_first}

-- ---- what they are

-- PicWidthInCtbsY, PicHeightInCtbsY (7.4.3.2.1) and MaxDpbSize (A.4.2)
abbrev pub set_variables : PlainSps → Variables
set_variables s =
    OfSequence s.pic_width_in_ctbs_y s.pic_height_in_ctbs_y (max_dpb_size_of s)

abbrev pub set_variables_in : Reading PlainSps → Option Variables
set_variables_in (gives s rest) = Some (set_variables s)
set_variables_in (refuses fault rest) = None

-- PicOrderCntVal (8.3.1), where it is a 32-bit number
abbrev pub told_count : Head → Option ℤ
told_count p = if order_count_in_range p then Some p.order_count else None

-- SliceQpY (7-54)
abbrev pub slice_qp_y : PlainPps → PlainSliceSegmentHeader → ℤ
slice_qp_y pps h = pos 26 +ℤ pps.init_qp_minus26 +ℤ h.qp_delta

abbrev pub slice_variables : Counting → Kept → FoundUnit UnitHeader → Option Variables
slice_variables c kept unit =
    of_first None
    (λ h sets. Some (OfPicture (told_count (head_at c unit h sets)) (slice_qp_y sets.pps h)))
    kept (header_in kept unit)

-- those of a unit, with the sets that are kept at it
unfoldable pub variables_of_unit : Counting → Kept → FoundUnit UnitHeader → Option Variables
variables_of_unit c kept unit =
    if unit.header.nal_unit_type == 33
    then set_variables_in (read sequence_parameter_set (payload (bytes_of unit)))
    else if is_slice unit.header.nal_unit_type then slice_variables c kept unit
    else None

-- ---- their lines

abbrev pub before_variable : Style → List ℕ
before_variable Words = codes "variable "
before_variable Json = codes "{\"variable\":\""

abbrev pub before_value : Style → List ℕ
before_value Words = codes " "
before_value Json = codes "\",\"value\":"

unfoldable pub variable_line : Style → List ℕ → ℤ → List ℕ
variable_line style name value =
    before_variable style ++ name ++ before_value style ++ signed_decimal value ++ line_end style

abbrev pub count_line : Style → Option ℤ → List ℕ
count_line style None = []
count_line style (Some count) = variable_line style (codes "PicOrderCntVal") count

abbrev pub variables_text : Style → Option Variables → List ℕ
variables_text style None = []
variables_text style (Some (OfSequence width height buffer)) =
    variable_line style (codes "PicWidthInCtbsY") (pos width)
    ++ variable_line style (codes "PicHeightInCtbsY") (pos height)
    ++ variable_line style (codes "MaxDpbSize") (pos buffer)
variables_text style (Some (OfPicture count qp)) =
    count_line style count ++ variable_line style (codes "SliceQpY") qp
