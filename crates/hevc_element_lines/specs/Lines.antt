-- Lines of elements as they were read.
use Rattle.std.specs.Prelude.{ℕ, ◌+◌, ◌-◌, ◌*◌, min, List, [], ◌∷◌, ◌++◌, codes, decimal}
use Rattle.std.specs.Prelude.{ℤ, pos, negsuc}
use Rattle.std.specs.Fmt.{signed_decimal}
use Rattle.std.specs.Int.{leading_zeros, w64}
use Rattle.hevc_elements.specs.declared.told.Descriptor.{Descriptor}
use Rattle.hevc_elements.specs.declared.told.Descriptor.TheVariants.{U, Ue, Se}
use Rattle.hevc_elements.specs.declared.told.Told.{Told}
use Rattle.hevc_element_names.specs.declared.name.Indices.{Indices}
use Rattle.hevc_element_names.specs.declared.name.Indices.TheVariants.{Without, One, Two}
use Rattle.hevc_element_names.specs.Seen.{Sight, after, natural, nothing_seen}
use Rattle.hevc_element_names.specs.Names.{name_of, indices_of}
use Rattle.hevc_element_lines.specs.declared.style.Style.{Style}
use Rattle.hevc_element_lines.specs.declared.style.Style.TheVariants.{Words, Json}

-- ---- where an element is

-- the size of an Exp-Golomb number (9.2): 2 * Floor(Log2(n + 1)) + 1 bits
abbrev pub golomb_size : ℕ → ℕ
golomb_size n = 2 * (63 - leading_zeros w64 (n + 1)) + 1

-- the number that a signed number is mapped from (Table 9-3)
abbrev pub code_number : ℤ → ℕ
code_number (pos n) = 2 * natural (pos n) - 1
code_number (negsuc n) = 2 * natural (pos (n + 1))

-- how many bits an element has
abbrev pub size_by : Descriptor → ℤ → ℕ
size_by (U n) value = n
size_by Ue value = golomb_size (natural value)
size_by Se value = golomb_size (code_number value)

-- the place after an element, up to 2^64 - 1
abbrev pub place_after : ℕ → Told → ℕ
place_after place told = min (place + size_by told.descriptor told.value) 18446744073709551615

-- ---- lines

-- what is between the parts of a line
abbrev pub before_place : Style → List ℕ
before_place Words = []
before_place Json = codes "{\"bit\":"

abbrev pub before_name : Style → List ℕ
before_name Words = codes " "
before_name Json = codes ",\"name\":\""

abbrev pub before_form : Style → List ℕ
before_form Words = codes " "
before_form Json = codes "\",\"form\":\""

abbrev pub before_value : Style → List ℕ
before_value Words = codes " "
before_value Json = codes "\",\"value\":"

abbrev pub line_end : Style → List ℕ
line_end Words = codes "\n"
line_end Json = codes "}\n"

abbrev pub index_text : ℕ → List ℕ
index_text i = codes "[" ++ decimal i ++ codes "]"

abbrev pub indices_text : Indices → List ℕ
indices_text Without = []
indices_text (One i) = index_text i
indices_text (Two i j) = index_text i ++ index_text j

-- how an element is written (7.2)
abbrev pub form_text : Descriptor → List ℕ
form_text (U n) = codes "u(" ++ decimal n ++ codes ")"
form_text Ue = codes "ue(v)"
form_text Se = codes "se(v)"

-- the line of an element at a place in bits, after what was seen of its unit
unfoldable pub element_line : Style → ℕ → Sight → Told → List ℕ
element_line style place seen told =
    before_place style ++ decimal place
    ++ before_name style ++ name_of seen told.row.0 told.row.1
    ++ indices_text (indices_of seen told.row.0 told.row.1)
    ++ before_form style ++ form_text told.descriptor
    ++ before_value style ++ signed_decimal told.value ++ line_end style

-- the lines of elements from a place on
abbrev pub lines_from : Style → ℕ → Sight → List Told → List ℕ
lines_from style place seen [] = []
lines_from style place seen (told ∷ more) =
    element_line style place seen told
    ++ lines_from style (place_after place told) (after seen told) more

-- The lines of a unit's elements. The first is after the 16 bits of the header, and places are
-- those of bits without emulation prevention bytes.
abbrev pub element_lines : Style → List Told → List ℕ
element_lines style all = lines_from style 16 nothing_seen all
