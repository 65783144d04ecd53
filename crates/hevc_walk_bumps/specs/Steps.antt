-- Bumping in steps of one output each (C.5.2.4).
use Rattle.std.specs.Prelude.{◌≢◌, ℕ, List, [], ◌∷◌, take}
use Rattle.hevc_walk.specs.Buffer.{Entry, Buffer, Bumped, in_output_order, after_output}

-- no entry has this number
abbrev pub Absent : ℕ → List Entry → Type 0
Absent n [] = Unit {0}
Absent n (e ∷ es) = (e.number ≢ n) × Absent n es

-- no number is there twice
abbrev pub Distinct : List Entry → Type 0
Distinct [] = Unit {0}
Distinct (e ∷ es) = Absent e.number es × Distinct es

-- the buffer once the first entry in output order was output, if one is needed for output
abbrev pub after_one : Buffer → Buffer
after_one es = after_output (take 1 (in_output_order es)) es

abbrev pub nothing_output : Buffer → Bumped
nothing_output es = record { outputs = []; left = es }

-- an entry is output before these
abbrev pub output_before : Entry → Bumped → Bumped
output_before e b = record { outputs = e ∷ b.outputs; left = b.left }
