use Rattle.std.proofs.Common.{rules}
use Rattle.hevc_events.proofs.queue.EventQueue.put.Goals as goal

pub returns-clause-put : goal.returns-clause-put
returns-clause-put c = search rules
