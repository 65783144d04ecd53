-- What the words of the command line ask for.
use Rattle.std.specs.Prelude.{ℕ, ◌+◌, ◌-◌, ◌*◌, ◌&&◌, nat_le, List, [], ◌∷◌, Option, Some, None, if◌then◌else◌}
use Rattle.std.specs.Option.{option_map, option_and_then}
use Rattle.hevc_extract.specs.declared.words.Targets.{Targets}

-- the number from 0 to 6 that a word of one digit spells; 48 is the code of 0
abbrev pub sub_layer : List ℕ → Option ℕ
sub_layer (code ∷ []) = if nat_le 48 code && nat_le code 54 then Some (code - 48) else None
sub_layer word = None

-- the number from 0 to 62 that a word of one or two digits spells; of two the first isn't 0
abbrev pub layer : List ℕ → Option ℕ
layer (ones ∷ []) = if nat_le 48 ones && nat_le ones 57 then Some (ones - 48) else None
layer (tens ∷ ones ∷ []) =
    if nat_le 49 tens && nat_le tens 54 && nat_le 48 ones && nat_le ones 57
    && nat_le (10 * (tens - 48) + (ones - 48)) 62
    then Some (10 * (tens - 48) + (ones - 48))
    else None
layer word = None

abbrev pub targets_of : ℕ → ℕ → Targets
targets_of tid top = record { highest_tid = tid; highest_layer = top }

-- `T`: sub-layers up to T, and all layers; `T L`: layers up to L
abbrev pub asked_targets : List (List ℕ) → Option Targets
asked_targets (tid ∷ []) = option_map (λ t. targets_of t 63) (sub_layer tid)
asked_targets (tid ∷ top ∷ []) =
    option_and_then (λ t. option_map (targets_of t) (layer top)) (sub_layer tid)
asked_targets words = None
