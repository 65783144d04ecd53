-- What the words of the command line ask for.
use Rattle.std.specs.Prelude.{ℕ, ◌+◌, ◌-◌, ◌*◌, ◌^◌, ◌&&◌, ◌==◌, nat_le, List, [], ◌∷◌, codes, Option, Some, None, if◌then◌else◌}
use Rattle.std.specs.Option.{option_map}
use Rattle.std.specs.Str.{bytes_eq}
use Rattle.hevc_index.specs.declared.words.Request.{Request}
use Rattle.hevc_index.specs.declared.words.Request.TheVariants.{Points, Splice}

-- the number up to 2 ^ 64 - 1 that decimal digits spell after a number; 48 is the code of 0
abbrev pub digits_behind : ℕ → List ℕ → Option ℕ
digits_behind n [] = Some n
digits_behind n (code ∷ codes) =
    if nat_le 48 code && nat_le code 57 && nat_le (10 * n + (code - 48)) (2 ^ 64 - 1)
    then digits_behind (10 * n + (code - 48)) codes
    else None

-- the number up to 2 ^ 64 - 1 that a word spells in decimal digits; of several the first isn't 0
abbrev pub picture_number : List ℕ → Option ℕ
picture_number [] = None
picture_number (digit ∷ []) = digits_behind 0 (digit ∷ [])
picture_number (first ∷ second ∷ codes) =
    if first == 48 then None else digits_behind 0 (first ∷ second ∷ codes)

-- no words: the points are asked for; `splice N`: the stream from point N on
abbrev pub asked_request : List (List ℕ) → Option Request
asked_request [] = Some Points
asked_request (splice ∷ number ∷ []) =
    if bytes_eq splice (codes "splice") then option_map Splice (picture_number number) else None
asked_request words = None
