use Rattle.std.proofs.Common.{length}
use Rattle.hevc_events.proofs.flags.+flag_bits.Given as goal

abbrev pub decreases-flag_bits : goal.decreases-flag_bits
decreases-flag_bits l = length l.flags.now
