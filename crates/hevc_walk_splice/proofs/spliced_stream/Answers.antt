use Rattle.std.specs.Prelude.{length}
use Rattle.hevc_walk.specs.Results.{events}
use Rattle.hevc_walk_splice.specs.Splicing.{spliced}
use Rattle.hevc_walk_splice.proofs.Later.{calls-less, outputs-less, calls-more, outputs-more}
use Rattle.hevc_walk_splice.proofs.Found.{spliced-whole}
use Rattle.hevc_walk_splice.proofs.spliced_stream.Goals as goal

pub returns-clause-verdict : goal.returns-clause-verdict
returns-clause-verdict c us sets p m real ok point all = (spliced-whole us sets p m real ok point all).ok

pub returns-clause-calls : goal.returns-clause-calls
returns-clause-calls c us sets p m real ok point all =
    calls-less p.number p.unit (length sets) (events us) (events (spliced sets p us))
    (spliced-whole us sets p m real ok point all).events

pub returns-clause-outputs : goal.returns-clause-outputs
returns-clause-outputs c us sets p m real ok point all =
    outputs-less p.number p.unit (length sets) (events us) (events (spliced sets p us))
    (spliced-whole us sets p m real ok point all).events

pub returns-clause-whole_calls : goal.returns-clause-whole_calls
returns-clause-whole_calls c us sets p m real ok point all =
    calls-more p.number p.unit (length sets) (events us) (events (spliced sets p us))
    (spliced-whole us sets p m real ok point all).events

pub returns-clause-whole_outputs : goal.returns-clause-whole_outputs
returns-clause-whole_outputs c us sets p m real ok point all =
    outputs-more p.number p.unit (length sets) (events us) (events (spliced sets p us))
    (spliced-whole us sets p m real ok point all).events
