use Rattle.std.proofs.Common.{◌≡◌, ◌++◌, ◌∙◌, ap, List, ℕ}
use Rattle.hevc_syntax_text.specs.Messages.{message_line}
use Rattle.hevc_syntax_text.proofs.Chains.{grown, three_steps}
use Rattle.hevc_syntax_text.proofs.Kept.{on_ok}
use Rattle.hevc_syntax_text.proofs.messages.push_message.Goals as goal

pub returns : goal.returns
unfolding message_line
returns c =
    let mid = c.push_number_field.new.text.items in
    let new = c.extend_from_slice.new.self.items in
    on_ok c.extend_from_slice.result (new ≡ mid ++ c.line_end.result.now) _
    (λ h. three_steps c.args.text.now.items _ _ _ c.push_kind.new.text.items mid new c.in_ok-push_kind.ensures
    c.in_ok-push_number_field.ensures (h ∙ ap (λ (x : List ℕ). mid ++ x) c.line_end.ensures))
    (grown c.extend_from_slice.result mid new c.line_end.result.now c.extend_from_slice.ensures.items)
