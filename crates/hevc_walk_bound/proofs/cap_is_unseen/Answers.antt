use Rattle.hevc_walk_bound.proofs.Cap.{stored_capped, additional_capped, bumping_capped, bumped_capped}
use Rattle.hevc_walk_bound.proofs.cap_is_unseen.Goals as goal

pub returns-clause-stored : goal.returns-clause-stored
returns-clause-stored c = stored_capped

pub returns-clause-additional : goal.returns-clause-additional
returns-clause-additional c = additional_capped

pub returns-clause-before_decoding : goal.returns-clause-before_decoding
returns-clause-before_decoding c = bumping_capped

pub returns-clause-bumped : goal.returns-clause-bumped
returns-clause-bumped c = bumped_capped
