use Rattle.std.proofs.Common.{◌≡◌, ◌⊎◌, ◌<◌, ◌*◌, ◌^◌, length}
use Rattle.std.specs.Prelude.{IfSome, IsSomeAnd, slice_get}
use Rattle.hevc_io.proofs.words.word_at.Given as goal

-- the word has no room in what was tried
abbrev pub invariant-loop-doublings : goal.invariant-loop-doublings
invariant-loop-doublings g l =
    IfSome (g.W.Words.told l.line)
    (λ words. (l.doublings ≡ 0) ⊎ IsSomeAnd (slice_get words l.number) (λ word. 32 * 2 ^ l.doublings < length word))
