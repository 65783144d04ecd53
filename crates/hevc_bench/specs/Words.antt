-- What the words of the command line ask for.
use Rattle.std.specs.Prelude.{ℕ, List, [], ◌∷◌, codes, Option, Some, None, if◌then◌else◌}
use Rattle.std.specs.Str.{bytes_eq}
use Rattle.hevc_bench.specs.declared.work.Work.{Work}
use Rattle.hevc_bench.specs.declared.work.Work.TheVariants.{Decode, Cut, Read}

-- `cut` asks to cut, `read` to read
abbrev pub work_of : List ℕ → Option Work
work_of word =
    if bytes_eq word (codes "cut") then Some Cut
    else if bytes_eq word (codes "read") then Some Read
    else None

-- no word asks to decode
abbrev pub asked_work : List (List ℕ) → Option Work
asked_work [] = Some Decode
asked_work (word ∷ []) = work_of word
asked_work words = None
