use Rattle.std.proofs.Common.{◌≡◌, drop}
use Rattle.hevc_syntax_text.specs.Messages.{sum_of_bytes}
use Rattle.hevc_syntax_text.proofs.messages.first_sum.Given as goal

-- the bytes that are left are added to the value
abbrev pub invariant-loop-byte : goal.invariant-loop-byte
invariant-loop-byte l = record {
  counted : l.count ≡ l.byte-index;
  rest : sum_of_bytes l.value (drop l.byte-index l.bytes) ≡ sum_of_bytes 0 l.bytes;
}
