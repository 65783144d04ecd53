-- A text that grows by pieces.
use Rattle.std.proofs.Common.{◌≡◌, ℕ, List, ◌++◌, append_assoc}

-- the line of a refusal, whose cause has a name and numbers
pub refused_pieces : (text unit blank name numbers end : List ℕ) {cause s t u : List ℕ} → name ++ numbers ≡ cause
    → s ≡ text ++ (unit ++ (blank ++ name)) → t ≡ s ++ numbers
    → u ≡ t ++ end → u ≡ text ++ (((unit ++ blank) ++ cause) ++ end)
refused_pieces text unit blank name numbers end whole p q r = rw (r, q, p, ← whole) (simp append_assoc)
