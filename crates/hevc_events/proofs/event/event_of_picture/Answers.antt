use Rattle.std.proofs.Common.{rules}
use Rattle.hevc_events.proofs.event.event_of_picture.Goals as goal

pub returns : goal.returns
returns c = search rules
