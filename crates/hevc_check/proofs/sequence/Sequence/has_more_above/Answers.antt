use Rattle.std.proofs.Common.{◌≡◌, ℕ, ℤ, to_z, of_z, w32, rules, ◌∙◌, ap, sym}
use Rattle.std.specs.Prelude.{nat_lt}
use Rattle.hevc_check.specs.Sequences.{above, output_above}
use Rattle.hevc_check.proofs.Follow.{capped}
use Rattle.hevc_check.proofs.sequence.Sequence.has_more_above.Goals as goal

pub returns : goal.returns
returns c p es f =
    let q = c.args.self.now in
    let same : to_z w32 (of_z w32 c.args.count) ≡ c.args.count = search rules in
    let n = output_above c.args.count es in
    ap (λ (r : ℕ). nat_lt r c.num_above.result) (sym c.requires)
    ∙ ap (nat_lt q.limits.reorder) (c.num_above.ensures ∙ ap (λ (x : ℤ). above x q.highest.items) same)
    ∙ capped q.limits.reorder (above c.args.count q.highest.items) n (f.highest c.args.count)
    ∙ ap (λ (r : ℕ). nat_lt r n) c.requires
