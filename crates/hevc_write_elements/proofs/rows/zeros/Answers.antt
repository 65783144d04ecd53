use Rattle.std.proofs.Common.{◌≡◌, ℕ, zero, suc, ◌+◌, Bool, false, List, [], ◌∷◌, ◌++◌, refl, sym}
use Rattle.std.proofs.Common.{ap, ◌∙◌, append_assoc, arith}
use Rattle.std.specs.Prelude.{replicate}
use Rattle.std.proofs.lemmas.List.{append-nil}
use Rattle.hevc_write_elements.proofs.rows.zeros.Goals as goal

one_more : (n : ℕ) → replicate n false ++ false ∷ [] ≡ replicate (suc n) false
one_more zero = refl
one_more (suc n) = ap (λ (x : List Bool). false ∷ x) (one_more n)

pub loop-init : goal.loop-init
loop-init c = sym (append-nil c.args.w.now)

pub loop-preserved : goal.loop-preserved
loop-preserved c =
    let n = c.loop.counter in
    let more : suc n ≡ n + 1 = omega arith in
    c.in_ok-write_flag.ensures.ok ∙ ap (λ (x : List Bool). x ++ false ∷ []) c.loop.invariant
    ∙ append_assoc c.args.w.now (replicate n false) (false ∷ [])
    ∙ ap (λ (x : List Bool). c.args.w.now ++ x) (one_more n) ∙ ap (λ (k : ℕ). c.args.w.now ++ replicate k false) more

pub returns : goal.returns
returns c =
    let all : c.loop.counter ≡ c.args.num_bits = omega arith in
    c.loop.invariant ∙ ap (λ (k : ℕ). c.args.w.now ++ replicate k false) all
