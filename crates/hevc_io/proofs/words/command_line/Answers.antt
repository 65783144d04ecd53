use Rattle.std.proofs.Common.{◌≡◌, ◌≤◌, ◌∷◌, ◌++◌, [], ℕ, List, length, take, ap, sym, ◌∙◌, rules, arith}
use Rattle.std.proofs.Math.Numerals.{suc-eq-add-one}
use Rattle.std.proofs.lemmas.List.{length-append}
use Rattle.std.proofs.lemmas.List.Elements.{All-append}
use Rattle.hevc_io.proofs.WordLaws.{take_more, told_both}
use Rattle.hevc_io.proofs.words.command_line.Goals as goal

pub loop-number-preserved : goal.loop-number-preserved
loop-number-preserved g c =
    let before = c.loop-number.words.items in
    let word : List ℕ = c.in-Some.word in
    let number = c.loop-number.number in
    let so_far = c.loop-number.invariant in
    let pushed : c.push.new.self.items ≡ before ++ word ∷ [] = search rules in
    let longer = ap (λ (ws : List (List ℕ)). length ws) pushed in (
      search (rules, All-append (λ word. length {A = ℕ} word ≤ 2097152)),
      omega (arith, longer, length-append before (word ∷ []), so_far.1),
      told_both (g.W.Words.told c.args.line.now) _ _ _
          (λ told first found. pushed ∙ ap (λ (ws : List (List ℕ)). ws ++ word ∷ []) first
          ∙ take_more number told word (sym c.in-Some.is ∙ found) ∙ ap (λ (n : ℕ). take n told) (suc-eq-add-one number))
          so_far.2 c.in_ok-word.ensures.found,
    )
