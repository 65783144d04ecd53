-- The commands: which words of the command line ask for a report, and with which options the stream
-- is decoded for it; and which ask for a made stream.
use Rattle.std.specs.Prelude.{ℕ, ◌+◌, ◌-◌, ◌*◌, ◌&&◌, ◌==◌, true, false, not, nat_le, List, [], ◌∷◌}
use Rattle.std.specs.Prelude.{codes, Option, Some, None, if◌then◌else◌}
use Rattle.std.specs.Option.{is_some, option_map, option_and_then, unwrap_or}
use Rattle.std.specs.Str.{bytes_eq}
use Rattle.hevc_stream.specs.Options.{Options, default_options}
use Rattle.hevc_report.specs.declared.command.Asked.{Asked}

-- the number from 0 to 6 that a word of one digit spells; 48 is the code of 0
abbrev pub sub_layer : List ℕ → Option ℕ
sub_layer (code ∷ []) = if nat_le 48 code && nat_le code 54 then Some (code - 48) else None
sub_layer word = None

-- where no word asks for anything
abbrev pub nothing_asked : Asked
nothing_asked = record { cra = false; base = false; awaits_digit = false; sub_layer = None }

-- with what one word asks for: each of the three at most once, and a digit directly after `layer`
abbrev pub with_word : Asked → List ℕ → Option Asked
with_word asked word =
    if asked.awaits_digit
    then option_map (λ tid. record asked { awaits_digit = false; sub_layer = Some tid })
    (sub_layer word)
    else if bytes_eq word (codes "cra") && not asked.cra then Some (record asked { cra = true })
    else if bytes_eq word (codes "base") && not asked.base then Some (record asked { base = true })
    else if bytes_eq word (codes "layer") && not (is_some asked.sub_layer)
    then Some (record asked { awaits_digit = true })
    else None

-- The options that are asked for, where no digit is missing: `cra`, CRA pictures are handled as BLA
-- pictures (8.1.3); `layer T`, sub-layers up to T are wanted; `base`, the base layer alone (8.1.2).
abbrev pub asked_options : Asked → Option Options
asked_options asked =
    if asked.awaits_digit then None
    else Some (record {
      handle_cra_as_bla = asked.cra;
      highest_tid = unwrap_or asked.sub_layer default_options.highest_tid;
      highest_layer = if asked.base then 0 else default_options.highest_layer;
    })

-- the options that words ask for, one after another
abbrev pub with_words : Asked → List (List ℕ) → Option Options
with_words asked [] = asked_options asked
with_words asked (word ∷ words) =
    option_and_then (λ next. with_words next words) (with_word asked word)

-- the options that the words of the command line ask for
abbrev pub command : List (List ℕ) → Option Options
command = with_words nothing_asked

-- the number up to 100000 that decimal digits spell after a number; 48 is the code of 0
abbrev pub digits_behind : ℕ → List ℕ → Option ℕ
digits_behind n [] = Some n
digits_behind n (code ∷ codes) =
    if nat_le 48 code && nat_le code 57 && nat_le (10 * n + (code - 48)) 100000
    then digits_behind (10 * n + (code - 48)) codes
    else None

-- the number from 1 to 100000 that a word spells in decimal digits, the first of which isn't 0
abbrev pub number_of_pictures : List ℕ → Option ℕ
number_of_pictures [] = None
number_of_pictures (first ∷ codes) = if first == 48 then None else digits_behind 0 (first ∷ codes)

-- `make N`: a stream of so many pictures is made
abbrev pub pictures_to_make : List (List ℕ) → Option ℕ
pictures_to_make (make ∷ number ∷ []) =
    if bytes_eq make (codes "make") then number_of_pictures number else None
pictures_to_make words = None
