use Rattle.std.proofs.Common.{◌≡◌, ◌<◌, ◌^◌, drop}
use Rattle.hevc_syntax_text.specs.Requests.{digits_behind, number_word}
use Rattle.hevc_syntax_text.proofs.words.read_number.Given as goal

-- the digits that are left come after the number
abbrev pub invariant-loop-digit : goal.invariant-loop-digit
invariant-loop-digit l = record {
  few : l.number < 2 ^ 64;
  rest : digits_behind l.number (drop l.digit-index l.digits) ≡ number_word l.digits;
}
