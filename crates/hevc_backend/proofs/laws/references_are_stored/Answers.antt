use Rattle.hevc_backend.proofs.NamedLaws.{set_among, set_stored, list0_among, list1_among}
use Rattle.hevc_backend.proofs.laws.references_are_stored.Goals as goal

pub returns-clause-set : goal.returns-clause-set
returns-clause-set g c = set_among

pub returns-clause-stored : goal.returns-clause-stored
returns-clause-stored g c = set_stored

pub returns-clause-list0 : goal.returns-clause-list0
returns-clause-list0 g c = list0_among

pub returns-clause-list1 : goal.returns-clause-list1
returns-clause-list1 g c = list1_among
