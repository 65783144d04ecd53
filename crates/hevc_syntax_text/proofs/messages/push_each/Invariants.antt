use Rattle.std.proofs.Common.{◌≡◌, ◌++◌, ◌-◌, length}
use Rattle.hevc_syntax_text.specs.Messages.{messages_from}
use Rattle.hevc_syntax_text.proofs.messages.push_each.Given as goal

-- the messages that are left follow
abbrev pub invariant-loop-i : goal.invariant-loop-i
invariant-loop-i l =
    l.text.items ++ messages_from l.style (length l.rbsp - l.i) l.rest
    ≡ l.fn.text.items ++ messages_from l.style (length l.rbsp) l.rbsp
