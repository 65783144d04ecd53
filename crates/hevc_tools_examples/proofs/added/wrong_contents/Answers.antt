use Rattle.std.proofs.Common.{◌≡◌, ℕ, List, [], ◌∷◌, ap, subst}
use Rattle.hevc_spec.specs.Units.{units, units_from}
use Rattle.hevc_bit_writer.specs.WrittenUnits.{started}
use Rattle.hevc_tools_examples.proofs.Alike.{first_bytes}
use Rattle.hevc_tools_examples.proofs.added.wrong_contents.Goals as goal

pub returns-clause-found : goal.returns-clause-found
unfolding units_from
returns-clause-found c = λ added.
    let bytes : added.bytes ≡ 66 ∷ 1 ∷ 128 ∷ 0 ∷ [] = cc added.parts in
    let e : 66 ∷ 1 ∷ 128 ∷ [] ≡ 66 ∷ 1 ∷ 128 ∷ 0 ∷ [] =
    subst (λ (b : List ℕ). first_bytes (units (started b)) ≡ b) bytes (ap first_bytes added.found) in
    absurd (cc e)
