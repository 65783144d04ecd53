-- What is written of a stream in one line.
use Rattle.std.specs.Prelude.{ℕ, ℤ, pos, int_lt, ◌+◌, List, [], ◌∷◌, ◌++◌, length, map, fold, codes, decimal, Result, Ok, Err, if◌then◌else◌}
use Rattle.std.specs.Int.{int_min, int_max}
use Rattle.std.specs.Fmt.{signed_decimal}
use Rattle.hevc_walk.specs.Results.{OutputPicture, outputs}
use Rattle.hevc_stream.specs.Options.{default_options}
use Rattle.hevc_stream.specs.Stream.{meanings}
use Rattle.hevc_decoder.specs.declared.decoded.Refused.{Refused}
use Rattle.hevc_report.specs.Report.{ending_of, refusal_line}

-- the lowest of some order counts, and 0 of none
abbrev pub lowest : List ℤ → ℤ
lowest [] = pos 0
lowest (count ∷ counts) = fold int_min count counts

-- the highest of some order counts, and 0 of none
abbrev pub highest : List ℤ → ℤ
highest [] = pos 0
highest (count ∷ counts) = fold int_max count counts

-- how many of some order counts are no higher than the one before, the first of which is this one
abbrev pub falls_behind : ℤ → List ℤ → ℕ
falls_behind last [] = 0
falls_behind last (count ∷ counts) =
    (if int_lt last count then 0 else 1) + falls_behind count counts

-- how many neighbours don't rise
abbrev pub falls : List ℤ → ℕ
falls [] = 0
falls (count ∷ counts) = falls_behind count counts

-- the lowest and the highest order count
abbrev pub counts_text : ℤ → ℤ → List ℕ
counts_text lowest highest =
    codes "lowest " ++ signed_decimal lowest ++ codes " highest " ++ signed_decimal highest

-- the line of these numbers: pictures, outputs, the lowest and the highest order count of these,
-- and falls
abbrev pub numbers_line : ℕ → ℕ → ℤ → ℤ → ℕ → List ℕ
numbers_line pictures shown lowest highest falls =
    codes "made " ++ decimal pictures ++ codes " shown " ++ decimal shown ++ codes " "
    ++ counts_text lowest highest ++ codes " falls " ++ decimal falls ++ codes "\n"

-- the line of so many pictures, where those of these order counts are output
abbrev pub summary_line : ℕ → List ℤ → List ℕ
summary_line pictures counts =
    numbers_line pictures (length counts) (lowest counts) (highest counts) (falls counts)

-- the line of a stream that ends so and whose outputs these are: a summary,
-- or the cause of a refusal
abbrev pub summary_for : Result ℕ Refused → List OutputPicture → List ℕ
summary_for (Ok pictures) given = summary_line pictures (map (λ output. output.order_count) given)
summary_for (Err refused) given = refusal_line refused

-- the line of a stream
abbrev pub summary_of : List ℕ → List ℕ
summary_of stream =
    summary_for (ending_of default_options stream) (outputs (meanings default_options stream))
