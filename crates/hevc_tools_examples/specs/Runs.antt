-- Runs of a small program.
use Rattle.std.specs.Prelude.{◌≡◌, ◌≤◌, ◌⊎◌, ℕ, List, [], ◌∷◌}
use Rattle.std.specs.declared.option.Option.{Option}
use Rattle.std.specs.declared.option.Option.TheVariants.{None, Some}
use Rattle.hevc_program_answers.specs.Answers.{Answers, Ends, Program}

-- a source or a sink: the bytes that are left or were written, and how many calls failed
abbrev pub End : Type 0
End = Option (List ℕ) × ℕ

abbrev pub ends : Ends End End
ends = record {
  left = λ source. source.0;
  failed_reads = λ source. source.1;
  written = λ sink. sink.0;
  failed_writes = λ sink. sink.1;
}

abbrev pub IsAnswer : ℕ → Type 0
IsAnswer status = status ≤ 1

abbrev pub IsDone : ℕ → Type 0
IsDone status = IsAnswer status ⊎ (status ≡ 5)

-- the program that writes its input, with status 0
abbrev pub copier : Program (Unit {0})
copier = record {
  text = λ asked input. input;
  status = λ asked input. 0;
  IsAnswer = IsAnswer;
  IsDone = IsDone;
}

abbrev pub asked : Option (Unit {0})
asked = Some tt

abbrev pub not_asked : Option (Unit {0})
not_asked = None

-- these bytes are known, and no call failed; or one did
abbrev pub holding : List ℕ → End
holding bytes = (Some bytes, 0)

abbrev pub failed_with : List ℕ → End
failed_with bytes = (Some bytes, 1)

abbrev pub two_bytes : List ℕ
two_bytes = 7 ∷ 8 ∷ []

abbrev pub three_bytes : List ℕ
three_bytes = 7 ∷ 8 ∷ 9 ∷ []

-- The copier, of inputs of at most two bytes, read this one and wrote to an empty sink: what its
-- ends are then, and the status.
abbrev pub Copies : Option (Unit {0}) → (input : List ℕ) → (source sink : End) → ℕ → Type 0
Copies asked input source sink status =
    Answers ends copier 2 asked (record { source = holding input; sink = holding [] })
    (record { source = source; sink = sink }) status
