use Rattle.std.proofs.Common.{◌≡◌, drop}
use Rattle.hevc_report.specs.Command.{command, with_words}
use Rattle.hevc_report.proofs.command.read_command.Given as goal

-- the words that are left come after those that were read
abbrev pub invariant-loop-word : goal.invariant-loop-word
invariant-loop-word l = record {
  rest : with_words l.asked (drop l.word-index l.words) ≡ command l.words;
}
