-- What is stored as the walk has it.
use Rattle.std.proofs.Common.{◌≡◌, ℕ, List, [], ◌∷◌, refl, ap}
use Rattle.std.specs.Prelude.{◌||◌}
use Rattle.std.specs.List.{list_any}
use Rattle.hevc_dpb.specs.declared.entry.DpbEntry.{DpbEntry}
use Rattle.hevc_dpb.specs.Plain.{plain_entries}
use Rattle.hevc_stateless.specs.Views.{is_waiting, waits_as}

-- a picture waits in the buffer where its entry does
pub waits_stored : {T : Type 0} (number : ℕ) (es : List (DpbEntry T))
    → list_any (waits_as number) es
    ≡ is_waiting number (plain_entries es)
waits_stored number [] = refl
waits_stored number (e ∷ es) =
    ap (λ others. waits_as number e || others) (waits_stored number es)
