-- A slice segment of a made stream (7.3.6.1, table 14), element by
-- element, where the sequence set has no short-term sets and eight bits
-- of order counts, and neither it nor the picture set has more elements.
use Rattle.std.specs.Prelude.{ℕ, ◌-◌, ◌%◌, Bool, List, [], ◌∷◌, ◌++◌, length, if◌then◌else◌}
use Rattle.std.specs.List.{flat_map}
use Rattle.hevc_spec.specs.declared.Row.{Row}
use Rattle.hevc_spec.specs.Bits.{Form, u, ue, se}
use Rattle.hevc_spec.specs.Payload.{low_bits}
use Rattle.hevc_spec.specs.Rows.{row}
use Rattle.hevc_bit_writer.specs.Writing.{packed, spelled, trailing_bits}
use Rattle.hevc_bit_writer.specs.WrittenUnits.{escaped}
use Rattle.hevc_stream_maker.specs.Groups.{Member, Picture}

-- an element of a syntax table: its row, its form, and its value
pub record Element : Type 0 where
  pub row : Row
  pub form : Form
  pub value : ℕ

abbrev pub element : Row → Form → ℕ → Element
element row form value = record { row = row; form = form; value = value }

abbrev pub flag : Row → Bool → Element
flag row set = element row (u 1) (if set then 1 else 0)

-- the bits of elements
abbrev pub spelled_elements : List Element → List Bool
spelled_elements elements = flat_map (λ e. spelled e.form e.value) elements

-- rows of members after a distance: each difference to the member before, less 1,
-- and whether the member is used
abbrev pub members : Row → Row → ℕ → List Member → List Element
members difference used last [] = []
members difference used last (m ∷ ms) =
    element difference ue (m.0 - last - 1) ∷ flag used m.1 ∷ members difference used m.0 ms

-- rows 7 to 12 of table 7: a short-term set of these members before and after the picture,
-- which are written out
abbrev pub short_term_set : List Member → List Member → List Element
short_term_set before after =
    element (row 7 7) ue (length before) ∷ element (row 7 8) ue (length after)
    ∷ members (row 7 9) (row 7 10) 0 before ++ members (row 7 11) (row 7 12) 0 after

-- rows 1 to 11: the first segment of a P picture with the picture set 0,
-- and the low bits of its order count
abbrev pub beginning : ℕ → List Element
beginning order_count =
    element (row 14 1) (u 1) 1 ∷ element (row 14 3) ue 0 ∷ element (row 14 7) ue 1
    ∷ element (row 14 10) (u 8) (order_count % 256) ∷ element (row 14 11) (u 1) 0 ∷ []

-- rows 24 to 35: the picture set's active places, merging, and no difference of quantisers
abbrev pub ending : List Element
ending = element (row 14 24) (u 1) 0 ∷ element (row 14 33) ue 0 ∷ element (row 14 35) se 0 ∷ []

-- the header of the slice segment of a picture with this order count
abbrev pub header : Picture → ℕ → List Element
header p order_count = beginning order_count ++ short_term_set p.before p.after ++ ending

-- its payload: the header, byte_alignment (7.3.2.12), and one byte of data
abbrev pub payload_bits : Picture → ℕ → List Bool
payload_bits p order_count =
    let bits = spelled_elements (header p order_count) in
    bits ++ trailing_bits (length bits) ++ low_bits 8 128

-- its unit, TRAIL_R of temporal id 0
abbrev pub slice_unit : Picture → ℕ → List ℕ
slice_unit p order_count = 2 ∷ 1 ∷ escaped (packed (payload_bits p order_count))
