use Rattle.hevc_write_elements.proofs.Steps.{second_of_two}
use Rattle.hevc_write_short_term.proofs.short_term_set.write_members.Goals as goal

pub returns-else-x-clause-rows : goal.returns-else-x-clause-rows
returns-else-x-clause-rows c = λ most. second_of_two _ _ _ _ _ _ c.if-x.false (c.write_listed_set.ensures most)
