use Rattle.std.proofs.Common.{◌≡◌, ℤ, ◌+◌, ◌≤◌, ◌≤ℤ◌, ◌<ℤ◌, List, [], ◌∷◌, ◌++◌, length, to_z, of_z}
use Rattle.std.proofs.Common.{w32, ap, ◌∙◌, rules}
use Rattle.std.specs.Prelude.{min, slice_set}
use Rattle.hevc_check.specs.Sequences.{above}
use Rattle.hevc_check.proofs.Follow.{pushed, replaced, left_out}
use Rattle.hevc_check.proofs.sequence.Sequence.keep_if_high.Goals as goal

pub returns-then-len-self-clause-highest : goal.returns-then-len-self-clause-highest
returns-then-len-self-clause-highest c t n same =
    let k = c.args.self.now.limits.reorder + 1 in
    let xs = c.args.self.now.highest.items in
    let is : to_z w32 (of_z w32 c.args.count) ≡ c.args.count = search rules in
    ap (λ (l : List ℤ). min k (above t l)) (c.in_ok-push.ensures.items ∙ ap (λ (y : ℤ). xs ++ y ∷ []) is)
    ∙ pushed k n t c.args.count xs same

pub returns-then-index-count-clause-highest : goal.returns-then-index-count-clause-highest
returns-then-index-count-clause-highest c t n same =
    let k = c.args.self.now.limits.reorder + 1 in
    let v = c.args.self.now.highest in
    let xs = v.items in
    let i = c.place_of_lowest-lowest.result in
    let x = c.index.result.now in
    let y = c.args.count in
    let is : to_z w32 (of_z w32 y) ≡ y = search rules in
    let less : x <ℤ y = search rules in
    let many : k ≤ length xs = search rules in
    ap (λ (z : ℤ). min k (above t (slice_set xs i z))) is
    ∙ replaced k n t x y xs i many c.place_of_lowest-lowest.ensures.inside c.index.ensures
    c.place_of_lowest-lowest.ensures.lowest less same

pub returns-else-index-count-clause-highest : goal.returns-else-index-count-clause-highest
returns-else-index-count-clause-highest c t n same =
    let k = c.args.self.now.limits.reorder + 1 in
    let xs = c.args.self.now.highest.items in
    let i = c.place_of_lowest-lowest.result in
    let x = c.index.result.now in
    let y = c.args.count in
    let less : y ≤ℤ x = search rules in
    let many : k ≤ length xs = search rules in
    left_out k n t x y xs i many c.place_of_lowest-lowest.ensures.inside c.index.ensures
    c.place_of_lowest-lowest.ensures.lowest less same
