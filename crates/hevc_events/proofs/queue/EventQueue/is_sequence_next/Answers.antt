use Rattle.std.proofs.Common.{rules}
use Rattle.hevc_events.proofs.queue.EventQueue.is_sequence_next.Goals as goal

pub returns-in-Some : goal.returns-in-Some
returns-in-Some c = search rules
