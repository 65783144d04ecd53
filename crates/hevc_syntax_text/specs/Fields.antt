-- The fields of a line: words with blanks between them, or members of an object of JSON.
use Rattle.std.specs.Prelude.{ℕ, ℤ, List, [], ◌++◌, codes, decimal}
use Rattle.std.specs.Fmt.{signed_decimal}
use Rattle.hevc_element_lines.specs.declared.style.Style.{Style}
use Rattle.hevc_element_lines.specs.declared.style.Style.TheVariants.{Words, Json}

abbrev pub before_name : Style → List ℕ
before_name Words = codes " "
before_name Json = codes ",\""

abbrev pub before_number : Style → List ℕ
before_number Words = codes " "
before_number Json = codes "\":"

abbrev pub before_text : Style → List ℕ
before_text Words = codes " "
before_text Json = codes "\":\""

abbrev pub after_text : Style → List ℕ
after_text Words = []
after_text Json = codes "\""

-- a field of this name that is a number
unfoldable pub number_field : Style → List ℕ → ℕ → List ℕ
number_field style name n = before_name style ++ name ++ before_number style ++ decimal n

-- one that is a signed number
unfoldable pub signed_field : Style → List ℕ → ℤ → List ℕ
signed_field style name n = before_name style ++ name ++ before_number style ++ signed_decimal n

-- one that is a text
unfoldable pub text_field : Style → List ℕ → List ℕ → List ℕ
text_field style name text =
    before_name style ++ name ++ before_text style ++ text ++ after_text style
