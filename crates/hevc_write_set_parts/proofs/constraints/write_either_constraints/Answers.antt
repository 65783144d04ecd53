use Rattle.hevc_write_elements.proofs.Steps.{first_of_two, second_of_two}
use Rattle.hevc_write_set_parts.proofs.constraints.write_either_constraints.Goals as goal

pub returns-then-extensions : goal.returns-then-extensions
returns-then-extensions c = λ scope. first_of_two _ _ _ _ _ _ c.if-extensions.true (c.write_extensions.ensures scope)

pub returns-else-extensions : goal.returns-else-extensions
returns-else-extensions c =
    λ scope. second_of_two _ _ _ _ _ _ c.if-extensions.false (c.write_other_constraints.ensures scope)
