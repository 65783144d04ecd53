-- The numbers of outputs.
use Rattle.std.proofs.Common.{◌≡◌, ℕ, List, length, refl}
use Rattle.std.specs.Prelude.{ℤ}
use Rattle.std.proofs.lemmas.List.{length-map}
use Rattle.hevc_decoder.specs.declared.decoded.Shown.{Shown}
use Rattle.hevc_report.specs.Lines.{shown_counts}
use Rattle.hevc_report.specs.Summary.{falls, highest, lowest, numbers_line, summary_line}

-- the line of the numbers of outputs is that of their order counts
pub same_line : (pictures : ℕ) (shown : List (Shown ℕ)) (low high : ℤ) (fallen : ℕ) → low ≡ lowest (shown_counts shown)
    → high ≡ highest (shown_counts shown)
    → fallen ≡ falls (shown_counts shown)
    → numbers_line pictures (length shown) low high fallen ≡ summary_line pictures (shown_counts shown)
same_line pictures shown low high fallen p q r = rw (p, q, r, ← length-map shown (λ (o : Shown ℕ). o.order_count)) refl
