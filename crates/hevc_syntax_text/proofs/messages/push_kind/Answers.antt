use Rattle.std.proofs.Common.{◌++◌, ◌∙◌, ap, List, ℕ}
use Rattle.std.specs.Prelude.{codes}
use Rattle.hevc_syntax_text.specs.Fields.{text_field}
use Rattle.hevc_syntax_text.specs.Messages.{kind_text}
use Rattle.hevc_syntax_text.proofs.Chains.{three_steps}
use Rattle.hevc_syntax_text.proofs.Kept.{on_ok}
use Rattle.hevc_syntax_text.proofs.messages.push_kind.Goals as goal

pub returns : goal.returns
unfolding kind_text
returns c =
    let old = c.args.text.now.items in
    on_ok c.push_text_field.result _ _
    (λ h. three_steps old _ _ _ c.extend_from_slice.new.self.items c.push_number_field.new.text.items
    c.push_text_field.new.text.items
    (c.in_ok-extend_from_slice.ensures.items ∙ ap (λ (x : List ℕ). old ++ x) c.before_message.ensures)
    c.in_ok-push_number_field.ensures
    (h
    ∙ ap (λ (x : List ℕ). c.push_number_field.new.text.items ++ text_field c.args.style (codes "name") x)
    c.message_name.ensures)) c.push_text_field.ensures
