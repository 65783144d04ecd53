use Rattle.std.proofs.Common.{◌≡◌, ◌∙◌, ap, ◌++◌, ℤ, pos, to_z, of_z, w64, arith}
use Rattle.std.specs.Prelude.{codes}
use Rattle.std.proofs.lemmas.Int.{ints}
use Rattle.hevc_syntax_text.specs.Variables.{variable_line}
use Rattle.hevc_syntax_text.proofs.Chains.{three_steps}
use Rattle.hevc_syntax_text.proofs.Kept.{on_ok}
use Rattle.hevc_syntax_text.proofs.variables.push_sizes.Goals as goal

pub returns : goal.returns
returns c =
    let style = c.args.style in
    let old = c.args.text.now.items in
    let t = c.push_variable.new.text.items in
    let u = c.push_variable-2.new.text.items in
    let width : to_z w64 (of_z w64 c.from.result) ≡ pos c.args.width =
    (let few = c.ranges.width.fits in let is = c.from.ensures in omega (arith, ints, few, is)) in
    let height : to_z w64 (of_z w64 c.from-2.result) ≡ pos c.args.height =
    (let few = c.ranges.height.fits in let is = c.from-2.ensures in omega (arith, ints, few, is)) in
    let buffer : to_z w64 (of_z w64 c.from-3.result) ≡ pos c.args.buffer =
    (let few = c.ranges.buffer.fits in let is = c.from-3.ensures in omega (arith, ints, few, is)) in
    on_ok c.push_variable-3.result _ _
    (λ h. three_steps old _ _ _ t u c.push_variable-3.new.text.items
    (c.in_ok-push_variable.ensures ∙ ap (λ (v : ℤ). old ++ variable_line style (codes "PicWidthInCtbsY") v) width)
    (c.in_ok-push_variable-2.ensures ∙ ap (λ (v : ℤ). t ++ variable_line style (codes "PicHeightInCtbsY") v) height)
    (h ∙ ap (λ (v : ℤ). u ++ variable_line style (codes "MaxDpbSize") v) buffer)) c.push_variable-3.ensures
