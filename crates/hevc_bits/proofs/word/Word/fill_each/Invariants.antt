use Rattle.std.proofs.Common.{◌≡◌, ◌-◌}
use Rattle.hevc_bits.specs.Cached.{place_of, IsFilled}
use Rattle.hevc_bits.proofs.word.Word.fill_each.Given as goal

abbrev pub invariant-loop-self : goal.invariant-loop-self
invariant-loop-self l = record { filled : IsFilled l.self; same : place_of l.self ≡ place_of l.initial.self }

abbrev pub decreases-loop-self : goal.decreases-loop-self
decreases-loop-self l = 32 - l.self.left
