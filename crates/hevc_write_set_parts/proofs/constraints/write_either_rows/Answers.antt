use Rattle.hevc_write_elements.proofs.Steps.{first_of_two, second_of_two}
use Rattle.hevc_write_set_parts.proofs.constraints.write_either_rows.Goals as goal

pub returns-then-main_10 : goal.returns-then-main_10
returns-then-main_10 c = λ scope. first_of_two _ _ _ _ _ _ c.if-main_10.true (c.write_main_10.ensures scope)

pub returns-else-main_10 : goal.returns-else-main_10
returns-else-main_10 c = λ scope. second_of_two _ _ _ _ _ _ c.if-main_10.false (c.write_reserved_bits.ensures scope)
