-- Messages as the code has them.
use Rattle.std.specs.Prelude.{ℕ, List, drop}
use Rattle.hevc_syntax_text.specs.declared.messages.Message as code
use Rattle.hevc_syntax_text.specs.declared.messages.Sum.{Sum}
use Rattle.hevc_syntax_text.specs.Messages.{Message}

abbrev pub message_of : code.Message → Message
message_of m = record { kind = m.kind; size = m.size; rest = m.rest.now }

-- what bytes add up to, and the bytes after those
abbrev pub sum_in : List ℕ → Sum → ℕ × List ℕ
sum_in bytes sum = (sum.value, drop sum.count bytes)
