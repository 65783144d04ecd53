-- What parts whose sizes are told add up to.
use Rattle.std.proofs.Common.{◌≡◌, ℕ, ◌+◌, ◌<◌, List, [], ◌∷◌, length, take, slice_set, arith}
use Rattle.std.proofs.lemmas.List.{take_more_set}
use Rattle.std.proofs.lemmas.List.Sums.{sum_by-append}
use Rattle.hevc_pps.specs.Tiling.{blocks_of}

pub blocks_more : (sizes : List ℕ) (i size : ℕ) → i < length sizes
    → blocks_of (i + 1) (slice_set sizes i size) ≡ blocks_of i sizes + (size + 1)
blocks_more sizes i size lt =
    grind (arith, take_more_set sizes i size lt, sum_by-append (λ (s : ℕ). s + 1) (take i sizes) (size ∷ []))

pub ruleset told = (blocks_more)
