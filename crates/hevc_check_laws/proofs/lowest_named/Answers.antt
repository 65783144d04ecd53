use Rattle.hevc_check_laws.proofs.Named.{none-is, is-none, lowest-is, is-lowest}
use Rattle.hevc_check_laws.proofs.lowest_named.Goals as goal

pub returns-clause-none : goal.returns-clause-none
returns-clause-none c = none-is

pub returns-clause-nothing : goal.returns-clause-nothing
returns-clause-nothing c = is-none

pub returns-clause-lowest : goal.returns-clause-lowest
returns-clause-lowest c = lowest-is

pub returns-clause-named : goal.returns-clause-named
returns-clause-named c = is-lowest
