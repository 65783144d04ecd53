-- A list of units without some that mean nothing.
use Rattle.std.specs.Prelude.{◌≡◌, ℕ, zero, suc, ◌+◌, Bool, true, false, List, [], ◌∷◌}
use Rattle.std.specs.Prelude.{if◌then◌else◌, Result, Ok, Err}
use Rattle.hevc_walk.specs.Meanings.{Meaning, Other}
use Rattle.hevc_walk.specs.Walk.{Call}
use Rattle.hevc_walk.specs.Refusals.{Refusal}
use Rattle.hevc_walk.specs.Results.{OutputPicture}

-- the elements whose flag is set
abbrev pub with_flags : {A : Type 0} → List Bool → List A → List A
with_flags [] xs = []
with_flags (keep ∷ flags) [] = []
with_flags (keep ∷ flags) (x ∷ xs) = if keep then x ∷ with_flags flags xs else with_flags flags xs

-- each unit has a flag, and those whose flag isn't set mean nothing
abbrev pub DropsOther : List Bool → List Meaning → Type 0
DropsOther [] [] = Unit {0}
DropsOther [] (u ∷ us) = ⊥
DropsOther (keep ∷ flags) [] = ⊥
DropsOther (true ∷ flags) (u ∷ us) = DropsOther flags us
DropsOther (false ∷ flags) (u ∷ us) = (u ≡ Other) × DropsOther flags us

-- how many units are kept of those before the k-th
abbrev pub kept_before : List Bool → ℕ → ℕ
kept_before [] k = 0
kept_before (keep ∷ flags) zero = 0
kept_before (keep ∷ flags) (suc k) = (if keep then 1 else 0) + kept_before flags k

abbrev pub renumbered_call : List Bool → ℕ × Call → ℕ × Call
renumbered_call flags c = (kept_before flags c.0, c.1)

abbrev pub renumbered_output : List Bool → OutputPicture → OutputPicture
renumbered_output flags o = record o { unit = kept_before flags o.unit }

abbrev pub renumbered_verdict : List Bool → Result ℕ Refusal → Result ℕ Refusal
renumbered_verdict flags (Ok n) = Ok n
renumbered_verdict flags (Err r) = Err (record r { unit = kept_before flags r.unit })
