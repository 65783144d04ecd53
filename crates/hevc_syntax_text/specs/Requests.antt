-- What the words of the command line ask for.
use Rattle.std.specs.Prelude.{ℕ, ◌+◌, ◌-◌, ◌*◌, ◌^◌, ◌&&◌, ◌==◌, nat_le, Bool, true, List, [], ◌∷◌}
use Rattle.std.specs.Prelude.{codes, Option, Some, None, if◌then◌else◌}
use Rattle.std.specs.Option.{option_map, option_and_then}
use Rattle.std.specs.Str.{bytes_eq}
use Rattle.hevc_spec.specs.UnitHeader.{nal_unit_type}
use Rattle.hevc_element_lines.specs.declared.style.Style.{Style}
use Rattle.hevc_element_lines.specs.declared.style.Style.TheVariants.{Words, Json}
use Rattle.hevc_syntax_text.specs.declared.words.Chosen.{Chosen}
use Rattle.hevc_syntax_text.specs.declared.words.Chosen.TheVariants.{All, OfType, Between}
use Rattle.hevc_syntax_text.specs.declared.words.Request.{Request}

-- the number up to 2 ^ 64 - 1 that decimal digits spell after a number; 48 is the code of 0
abbrev pub digits_behind : ℕ → List ℕ → Option ℕ
digits_behind n [] = Some n
digits_behind n (code ∷ codes) =
    if nat_le 48 code && nat_le code 57 && nat_le (10 * n + (code - 48)) (2 ^ 64 - 1)
    then digits_behind (10 * n + (code - 48)) codes
    else None

-- the number that a word spells by one digit or more
abbrev pub number_word : List ℕ → Option ℕ
number_word [] = None
number_word (digit ∷ more) = digits_behind 0 (digit ∷ more)

-- no words: all units; `type N`: those of this nal_unit_type; `unit A B`: those of numbers A to B
abbrev pub chosen_by : List (List ℕ) → Option Chosen
chosen_by [] = Some All
chosen_by (word ∷ number ∷ []) =
    if bytes_eq word (codes "type") then option_map OfType (number_word number) else None
chosen_by (word ∷ first ∷ last ∷ []) =
    if bytes_eq word (codes "unit")
    then option_and_then (λ a. option_map (Between a) (number_word last)) (number_word first)
    else None
chosen_by words = None

abbrev pub request_of : Style → Chosen → Request
request_of style chosen = record { style = style; chosen = chosen }

-- the word `json` before them: lines of JSON
abbrev pub asked_request : List (List ℕ) → Option Request
asked_request [] = Some (request_of Words All)
asked_request (first ∷ words) =
    if bytes_eq first (codes "json")
    then option_map (request_of Json) (chosen_by words)
    else option_map (request_of Words) (chosen_by (first ∷ words))

-- the unit of a number and of these bytes is chosen
abbrev pub is_chosen : Chosen → ℕ → List ℕ → Bool
is_chosen All number bytes = true
is_chosen (OfType t) number bytes = nal_unit_type bytes == t
is_chosen (Between first last) number bytes = nat_le first number && nat_le number last
