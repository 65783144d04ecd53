use Rattle.std.proofs.Common.{refl}
use Rattle.hevc_walk_examples.proofs.Small.{few, not_few}
use Rattle.hevc_decoder_examples.proofs.Handles.{none_has}
use Rattle.hevc_decoder_examples.proofs.wrong_handles.Goals as goal

pub returns-clause-exchanged : goal.returns-clause-exchanged
returns-clause-exchanged c =
    λ h. none_has (0, 8) refl refl (h (0, 8) (0, few _ _ refl, refl)).0 (h (0, 8) (0, few _ _ refl, refl)).1
    (h (0, 8) (0, few _ _ refl, refl)).2

pub returns-clause-twice : goal.returns-clause-twice
returns-clause-twice c = λ h. not_few _ _ refl (h 0)
