use Rattle.std.proofs.Common.{◌≡◌, ◌≤◌, drop}
use Rattle.hevc_report.specs.Command.{digits_behind, number_of_pictures}
use Rattle.hevc_report.proofs.command.read_number.Given as goal

-- the digits that are left come after the number
abbrev pub invariant-loop-digit : goal.invariant-loop-digit
invariant-loop-digit l = record {
  few : l.number ≤ 100000;
  rest : digits_behind l.number (drop l.digit-index l.digits) ≡ number_of_pictures l.digits;
}
