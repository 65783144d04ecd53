use Rattle.std.proofs.Common.{◌++◌, ◌-◌, ◌+◌, ◌∙◌, ap, sym, List, ℕ, length, append-nil, append_assoc}
use Rattle.std.specs.Option.{option_map}
use Rattle.hevc_syntax_text.specs.FoundMessages.{message_of}
use Rattle.hevc_syntax_text.specs.Messages.{message_line, messages_from}
use Rattle.hevc_syntax_text.proofs.Following.{over, one_more}
use Rattle.hevc_syntax_text.proofs.messages.push_each.Goals as goal

pub returns-in_default : goal.returns-in_default
returns-in_default c =
    let l = c.loop-i in
    let none = sym c.next_message.ensures ∙ ap (option_map message_of) c.in_default.is in
    sym (append-nil l.text.items)
    ∙ ap (λ (x : List ℕ). l.text.items ++ x)
    (sym (over c.args.style (length c.args.rbsp.now - l.i) l.rest.now none))
    ∙ l.invariant

pub loop-i-preserved : goal.loop-i-preserved
loop-i-preserved c =
    let l = c.loop-i in
    let m = message_of c.in-Some.message in
    let some = sym c.next_message.ensures ∙ ap (option_map message_of) c.in-Some.is in
    let more = messages_from c.args.style (length c.args.rbsp.now - (l.i + 1)) m.rest in
    ap (λ (x : List ℕ). x ++ more) c.in_ok-push_message.ensures
    ∙ append_assoc l.text.items (message_line c.args.style m.kind m.size) more
    ∙ ap (λ (x : List ℕ). l.text.items ++ x)
    (sym (one_more c.args.style (length c.args.rbsp.now) l.i l.rest.now m c.loop-i-test.true some))
    ∙ l.invariant
